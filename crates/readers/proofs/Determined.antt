-- Two results that a reader's statement allows are equal.
use Prim.Native.Nat.{ℕ}
use mathlib.Core.Path.{◌≡◌}
use mathlib.Core.List.{List}
use Rattle.std.specs.Prelude.{Result}
use Rattle.maths.proofs.Determined.{determined}
use Rattle.table.specs.declared.Platform.{Platform}
use Rattle.table.specs.declared.Refusal.{Refusal}
use Rattle.table.specs.declared.Table.{Table}
use Rattle.forms.specs.Forms.{platform_form, tasks_form, ticks_form}
use Rattle.forms.specs.Reads.{refused}
use Rattle.forms.specs.Reader.{read}
use Rattle.readers.specs.declared.Piece.{Piece}
use Rattle.machine.specs.declared.Report.{Report}
use Rattle.readers.specs.Inputs.{no_platform, platform_read, table_read, ticks_read, tick_at}

module _ (text : List ℕ) where
  pub read-platform-determined : (r s : Result Platform Refusal) → r ≡ platform_read (read platform_form text)
      → s ≡ platform_read (read platform_form text) → r ≡ s
  read-platform-determined = determined (platform_read (read platform_form text))

  pub read-tasks-determined : (p : Platform) (r s : Result Table Refusal) → r ≡ table_read p (read tasks_form text)
      → s ≡ table_read p (read tasks_form text) → r ≡ s
  read-tasks-determined p = determined (table_read p (read tasks_form text))

  pub read-ticks-determined : (r s : Result ℕ Refusal) → r ≡ ticks_read (read ticks_form text)
      → s ≡ ticks_read (read ticks_form text) → r ≡ s
  read-ticks-determined = determined (ticks_read (read ticks_form text))

  pub tick-at-determined : (at : ℕ) (r s : Piece Report) → r ≡ tick_at text at → s ≡ tick_at text at → r ≡ s
  tick-at-determined at = determined (tick_at text at)

-- of a text that is refused at an offset
module _ (offset : ℕ) where
  pub bad-platform-determined : (r s : Result Platform Refusal) → r ≡ platform_read (refused offset)
      → s ≡ platform_read (refused offset) → r ≡ s
  bad-platform-determined = determined (platform_read (refused offset))

  pub bad-table-determined : (r s : Result Table Refusal) → r ≡ table_read no_platform (refused offset)
      → s ≡ table_read no_platform (refused offset) → r ≡ s
  bad-table-determined = determined (table_read no_platform (refused offset))

  pub bad-ticks-determined : (r s : Result ℕ Refusal) → r ≡ ticks_read (refused offset)
      → s ≡ ticks_read (refused offset) → r ≡ s
  bad-ticks-determined = determined (ticks_read (refused offset))
