-- Laws of the listing of a rehearsal: its rows, for the loop over them, and how long it is.
use Prim.Native.Nat.{ℕ, suc, ◌+◌, ◌^◌, ◌<◌, ◌≤◌}
use mathlib.Core.Path.{◌≡◌, sym, ap, ◌∙◌}
use mathlib.Core.Bool.{Bool, true, false, cond}
use mathlib.Core.List.{List, [], ◌∷◌, ◌++◌}
use native.Mathlib.Omega.{arith}
use borrow.Author.Tests.{eq-eqb, ne_eqb}
use lib.Dec.{eqb}
use lib.ListN.{length, get_or, length-append}
use Rattle.maths.proofs.Tasks.{length-tabulate, get_d_tabulate}
use Rattle.forms.specs.Forms.{line}
use Rattle.forms.proofs.Digits.{width_most}
use Rattle.table.specs.Limits.{most_tasks}
use Rattle.writers.specs.Outputs.{refused_text}
use Rattle.texts.proofs.Listings.{header_of, lines_from, listing-split, lines_more, lines_end, lines-most}
use Rattle.rehearsal.specs.declared.Rehearsal.{Rehearsal}
use Rattle.trials.specs.Rehearse.{trial_row, trial_rows, trial_text, tried_text, rehearse_most}

abbrev pub header : List ℕ
header = header_of "task,started,late"

module _ (n : ℕ) (r : Rehearsal) where
  -- the text of tasks i + 1 and on, of n
  abbrev pub trial_from : ℕ → List ℕ
  trial_from = lines_from (trial_rows n r)

  pub trial_split : trial_text n r ≡ header ++ trial_from 0
  trial_split = listing-split (trial_rows n r) "task,started,late"

  pub trial_more : (i : ℕ) → i < n → (numbers : List ℕ) → numbers ≡ trial_row r (suc i)
      → trial_from i ≡ line numbers ++ trial_from (i + 1)
  trial_more i l numbers e =
      lines_more (trial_rows n r) i (omega (arith, length-tabulate (trial_row r) n)) numbers
      (e ∙ sym (get_d_tabulate (trial_row r) n i [] l))

  pub trial_end : (i : ℕ) → n ≤ i → trial_from i ≡ []
  trial_end i h = lines_end (trial_rows n r) i (omega (arith, length-tabulate (trial_row r) n))

  pub tried-refused : (r.refused.number ≡ 0 → ⊥) → tried_text n r ≡ refused_text r.refused
  tried-refused h = rw (ne_eqb r.refused.number 0 h)

  pub tried-listed : r.refused.number ≡ 0 → tried_text n r ≡ trial_text n r
  tried-listed h = rw (eq-eqb r.refused.number 0 h)

-- a number of two digits, and two of at most ten
row-most : (k a b : ℕ) → k < 100 → a < 10 ^ 10 → b < 10 ^ 10 → length (line (k ∷ a ∷ b ∷ [])) ≤ 26
unfolding line
row-most k a b hk ha hb =
    let first = width_most 1 k hk in
    let second = width_most 9 a ha in
    let third = width_most 9 b hb in
    simp length-append (omega arith)

-- numbers of 32 bits
pub record Narrow (r : Rehearsal) : Type 0 where
  pub tick : r.tick < 10 ^ 10
  pub started : (i : ℕ) → i < most_tasks → get_or r.started i 0 < 10 ^ 10

pub trial_most : (n : ℕ) (r : Rehearsal) → n ≤ most_tasks → Narrow r → length (trial_text n r) ≤ rehearse_most
trial_most n r few w =
    let size = ap length (trial_split n r) ∙ length-append header (trial_from n r 0) in
    omega (arith, lines-most (trial_row r) 26 n each)
  where
    tick-most : (b : Bool) → cond b r.tick 0 < 10 ^ 10
    tick-most true = w.tick
    tick-most false = omega arith

    each : (i : ℕ) → i < n → length (line (trial_row r (suc i))) ≤ 26
    each i l =
        row-most (suc i) _ _ (omega arith) (w.started i (omega arith)) (tick-most (eqb (suc i) r.task))
