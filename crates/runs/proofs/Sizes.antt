-- What the program "ticks" writes has room in its buffer.
use Prim.Native.Nat.{ℕ, ◌≤◌}
use mathlib.Core.Path.{◌≡◌, refl, ap}
use mathlib.Core.Bool.{Bool, true, false, cond}
use mathlib.Core.List.{List}
use native.Mathlib.Omega.{arith}
use lib.Dec.{eqb}
use lib.ListN.{length}
use Rattle.std.specs.Prelude.{Option}
use Rattle.forms.specs.Forms.{ticks_form}
use Rattle.forms.specs.Reads.{Answer, found, refused}
use Rattle.forms.proofs.Sizes.{text-least}
use Rattle.forms.proofs.Theorem.{written}
use Rattle.table.specs.declared.Table.{Table}
use Rattle.table.specs.Limits.{most_tasks}
use Rattle.table.specs.Refused.{refusal}
use Rattle.machine.specs.Fresh.{fresh}
use Rattle.writers.specs.Outputs.{refused_text}
use Rattle.texts.specs.Given.{taken}
use Rattle.texts.proofs.Given.{taken-found}
use Rattle.texts.proofs.Sizes.{bad-most, table-most, listed-most}
use Rattle.runs.specs.Ticks.{run_text, ran, ticks_text, ticks_most, TicksFit}
use Rattle.runs.proofs.Widths.{rows-most}

module _ (text : Option (List ℕ)) where
  run_fits : (t : Table) (rows : List (List ℕ)) → taken ticks_form text ≡ found rows
      → length (run_text (fresh t) rows) ≤ ticks_most
  run_fits t rows e =
      let k = taken-found ticks_form text rows e in
      let w = written ticks_form k.0 rows k.2 in
      let size = ap length w.1 in
      let least = text-least ticks_form rows w.0.each in
      omega (arith, k.3, rows-most rows (fresh t) (omega (arith, k.3)) w.0.each)

  ran-fits : (t : Table) → length t.rows ≡ most_tasks → (x : Answer (List (List ℕ))) → taken ticks_form text ≡ x
      → length (ran x t) ≤ ticks_most
  ran-fits t len (refused k) e = omega (arith, bad-most ticks_form text k e)
  ran-fits t len (found rows) e = go (eqb (refusal t).number 0)
    where
      go : (b : Bool) → length (cond b (run_text (fresh t) rows) (refused_text (refusal t))) ≤ ticks_most
      go true = run_fits t rows e
      go false = omega (arith, table-most t len)

pub ticks_fit : TicksFit
unfolding ticks_text
ticks_fit platform tasks ticks =
    let reports = taken ticks_form ticks in
    listed-most (ran reports) ticks_most (omega arith) (λ t len. ran-fits ticks t len reports refl) platform tasks
