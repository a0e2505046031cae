-- Two results that a public function's statement allows are equal, and so is what they leave in the buffer.
use Prim.Native.Nat.{ℕ}
use mathlib.Core.Path.{◌≡◌}
use mathlib.Core.List.{List}
use Rattle.std.specs.Prelude.{Option, Result}
use Rattle.maths.proofs.Determined.{determined}
use Rattle.forms.specs.Forms.{ticks_form}
use Rattle.table.specs.declared.Refusal.{Refusal}
use Rattle.table.specs.declared.Table.{Table}
use Rattle.readers.specs.Inputs.{ticks_read}
use Rattle.writers.specs.declared.Written.{Written}
use Rattle.writers.specs.Written.{Wrote}
use Rattle.writers.proofs.Determined.{wrote_determined}
use Rattle.texts.specs.Given.{taken, table_taken}
use Rattle.texts.specs.Admit.{admit_text}
use Rattle.texts.specs.Verdict.{verdict}

pub take-ticks-determined : (text : Option (List ℕ)) (r s : Result ℕ Refusal) → r ≡ ticks_read (taken ticks_form text)
    → s ≡ ticks_read (taken ticks_form text) → r ≡ s
take-ticks-determined text = determined (ticks_read (taken ticks_form text))

module _ (platform tasks : Option (List ℕ)) where
  pub take-table-determined : (r s : Result Table Refusal) → r ≡ table_taken platform tasks
      → s ≡ table_taken platform tasks → r ≡ s
  take-table-determined = determined (table_taken platform tasks)

  pub admit-determined : (out : List ℕ) (r s : Written) (a b : List ℕ) → Wrote (admit_text platform tasks) out r a
      → Wrote (admit_text platform tasks) out s b → (r ≡ s) × (a ≡ b)
  admit-determined = wrote_determined (admit_text platform tasks)

pub quick_verdict_determined : (platform tasks : List ℕ) (r s : ℕ) → r ≡ verdict platform tasks
    → s ≡ verdict platform tasks → r ≡ s
quick_verdict_determined platform tasks = determined (verdict platform tasks)
