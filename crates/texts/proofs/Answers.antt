-- An answer's listing and an answer's number, by whether the table is refused, and from what is found of the table
-- without a C record.
use Prim.Native.Nat.{ℕ, zero, suc, ◌+◌, ◌≤◌}
use mathlib.Core.Path.{◌≡◌, refl}
use mathlib.Core.Bool.{Bool, true, false, cond}
use mathlib.Core.List.{List}
use borrow.Author.Tests.{eq-eqb, ne_eqb, eqb-true}
use native.Mathlib.Omega.{arith}
use lib.Dec.{eqb, eqb-suc-zero}
use lib.IntN.{ℤ}
use lib.ListN.{length}
use Rattle.std.specs.Prelude.{Option, Ok, Err, Some}
use Rattle.std.proofs.lemmas.Option.{same_Some}
use Rattle.table.specs.declared.Refusal.{Refusal}
use Rattle.table.specs.declared.Table.{Table}
use Rattle.table.specs.Limits.{most_tasks}
use Rattle.table.specs.Refused.{refusal}
use Rattle.admission.specs.declared.FullAnswer.{FullAnswer}
use Rattle.admission.specs.declared.QuickAnswer.{QuickAnswer}
use Rattle.admission.specs.Answers.{task_found, first_answer, margins_answer, full_answer, quick_answer}
use Rattle.admission.specs.Test.{first_failing}
use Rattle.admission.proofs.Answers.{first-le, quick_unrefused}
use Rattle.admission.proofs.Found.{value-answered, refused_of}
use Rattle.writers.specs.Outputs.{refused_text, margins_text}
use Rattle.texts.specs.Admit.{answer_text, judged}
use Rattle.texts.specs.Verdict.{numbered, quick_number}
use Rattle.texts.specs.Code.Numbers.{verdict_number}

pub answer-refused : (n : ℕ) (a : FullAnswer) → (a.refused.number ≡ 0 → ⊥) → answer_text n a ≡ refused_text a.refused
answer-refused n a h = rw (ne_eqb a.refused.number 0 h)

pub answer-margins : (n : ℕ) (a : FullAnswer) → a.refused.number ≡ 0 → answer_text n a ≡ margins_text n a.margins
answer-margins n a h = rw (eq-eqb a.refused.number 0 h)

pub numbered-refused : (a : QuickAnswer) → (a.refused.number ≡ 0 → ⊥) → numbered a ≡ a.refused.number
numbered-refused a h = rw (ne_eqb a.refused.number 0 h)

module _ (a : QuickAnswer) (none : a.refused.number ≡ 0) where
  pub numbered-admitted : a.first ≡ 0 → numbered a ≡ 0
  numbered-admitted h = rw (eq-eqb a.refused.number 0 none, eq-eqb a.first 0 h)

  pub numbered-failing : (a.first ≡ 0 → ⊥) → numbered a ≡ 100 + a.first
  numbered-failing h = rw (eq-eqb a.refused.number 0 none, ne_eqb a.first 0 h)

module _ (t : Table) where
  pub judged-margins : (margins : List ℤ) → Ok margins ≡ margins_answer t → margins_text t.n margins ≡ judged t
  unfolding full_answer
  judged-margins margins e =
      let given = value-answered (refusal t) _ margins e in
      rw (given.0, eq-eqb (refusal t).number 0 given.1) (simp (eq-eqb (refusal t).number 0 given.1))

  pub judged-refused : (r : Refusal) → Err r ≡ margins_answer t → refused_text r ≡ judged t
  unfolding full_answer
  judged-refused r e =
      let f = refused_of t r _ e in
      rw f.is (simp (ne_eqb r.number 0 f.some))

  numbered_of : (none : (refusal t).number ≡ 0) → (first : ℕ) → first_failing t ≡ first
      → verdict_number (Ok (task_found first)) ≡ quick_number t
  numbered_of none zero e = rw (quick_unrefused t none) (simp (eq-eqb (refusal t).number 0 none, e))
  numbered_of none (suc k) e = rw (quick_unrefused t none) (simp (eq-eqb (refusal t).number 0 none, e, eqb-suc-zero k))

  pub number_is : verdict_number (first_answer t) ≡ quick_number t
  unfolding quick_answer
  number_is = by (eqb (refusal t).number 0) refl
    where
      by : (b : Bool) → eqb (refusal t).number 0 ≡ b
          → verdict_number (cond b (Ok (task_found (first_failing t))) (Err (refusal t))) ≡ quick_number t
      by true w = numbered_of (eqb-true (refusal t).number 0 w) (first_failing t) refl
      by false w = rw w (simp w)

  -- the first task that does not pass is a task
  pub first-few : length t.rows ≡ most_tasks → (k : ℕ) → Ok (Some k) ≡ first_answer t → k ≤ most_tasks
  first-few len k e =
      let given = value-answered (refusal t) _ (Some k) e in
      let is : first_failing t ≤ most_tasks = rw (quick_unrefused t given.1) at (first-le t len) in
      go (first_failing t) is given.0
    where
      go : (first : ℕ) → first ≤ most_tasks → ◌≡◌ {A = Option ℕ} (Some k) (task_found first) → k ≤ most_tasks
      go zero l h = grind arith
      go (suc j) l h = rw (same_Some _ _ h) l
