-- The answers agree, and each statement allows one result.
use mathlib.Core.Path.{◌≡◌, refl}
use mathlib.Core.Bool.{Bool, true, false, cond, not}
use mathlib.Core.List.{List}
use Prim.Native.Nat.{ℕ, ◌≤◌}
use native.Mathlib.Nat.{le_trans}
use native.Mathlib.Omega.{arith}
use borrow.Author.Tests.{eq-eqb, eqb-true}
use lib.IntN.{ℤ}
use lib.ListN.{length}
use Rattle.std.specs.Prelude.{Option, Result}
use Rattle.maths.proofs.Determined.{determined}
use Rattle.maths.proofs.Tasks.{lowest-le}
use Rattle.table.specs.declared.Refusal.{Refusal}
use Rattle.table.specs.declared.Table.{Table}
use Rattle.table.specs.Limits.{most_tasks}
use Rattle.table.specs.Refused.{refusal, unrefused}
use Rattle.table.proofs.Good.{good_of}
use Rattle.admission.specs.declared.FullAnswer.{FullAnswer}
use Rattle.admission.specs.declared.QuickAnswer.{QuickAnswer}
use Rattle.admission.specs.Test.{passes, admitted, first_failing}
use Rattle.admission.specs.Answers.{first_answer, margins_answer}
use Rattle.admission.specs.Answers.{quick_refused, full_answer, quick_answer, without_margins}

either : (b : Bool) (f g : FullAnswer) → without_margins (cond b f g) ≡ cond b (without_margins f) (without_margins g)
either true f g = refl
either false f g = refl

pub answers_agree : (t : Table) → without_margins (full_answer t) ≡ quick_answer t
unfolding full_answer quick_answer
answers_agree t = either (unrefused t) _ _

pub full-determined : (t : Table) (r s : FullAnswer) → r ≡ full_answer t → s ≡ full_answer t → r ≡ s
full-determined t = determined (full_answer t)

pub first-determined : (t : Table) (r s : Result (Option ℕ) Refusal) → r ≡ first_answer t → s ≡ first_answer t → r ≡ s
first-determined t = determined (first_answer t)

pub margins-determined : (t : Table) (r s : Result (List ℤ) Refusal) → r ≡ margins_answer t → s ≡ margins_answer t
    → r ≡ s
margins-determined t = determined (margins_answer t)

pub quick_determined : (t : Table) (r s : QuickAnswer) → r ≡ quick_answer t → s ≡ quick_answer t → r ≡ s
quick_determined t = determined (quick_answer t)

-- the quick answer by whether the table is refused
module _ (t : Table) where
  abbrev judged : QuickAnswer
  judged = record { refused = refusal t; admitted = admitted t; first = first_failing t }

  pub quick_refusal : (quick_answer t).refused ≡ refusal t
  unfolding quick_answer
  quick_refusal = by (unrefused t)
    where
      by : (b : Bool) → (cond b judged (quick_refused (refusal t))).refused ≡ refusal t
      by true = refl
      by false = refl

  pub quick_unrefused : (refusal t).number ≡ 0 → quick_answer t ≡ judged
  unfolding quick_answer
  quick_unrefused none = rw (eq-eqb (refusal t).number 0 none)

  -- the first task that does not pass is a task
  pub first-le : length t.rows ≡ most_tasks → (quick_answer t).first ≤ most_tasks
  unfolding quick_answer
  first-le len = by (unrefused t) refl
    where
      by : (b : Bool) → unrefused t ≡ b → (cond b judged (quick_refused (refusal t))).first ≤ most_tasks
      by true e = le_trans (lowest-le (λ k. not (passes t k)) t.n)
          (good_of t len (eqb-true (refusal t).number 0 e)).sizes.few
      by false e = omega arith
