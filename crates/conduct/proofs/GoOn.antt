-- Time can always go on: in a good state a report is accepted that finishes exactly the jobs that, step 1 counted, have
-- run C ticks, and releases tasks that are due and idle; or none.
use Prim.Native.Nat.{ℕ, zero, suc, ◌<◌, ◌≤◌}
use mathlib.Core.Path.{◌≡◌, refl, sym, ◌∙◌, ap}
use mathlib.Core.Bool.{Bool, true, false, not, ◌&&◌, ◌||◌, and-false, true≢false}
use mathlib.Core.Logic.{◌≢◌}
use native.Mathlib.Decide.{dec_le}
use native.Mathlib.Omega.{arith}
use borrow.Author.Tests.{eq-eqb, le-ltb, ltb-true}
use lib.Dec.{ltb, eqb}
use Rattle.maths.specs.Tasks.{Each}
use Rattle.maths.proofs.Tests.{false_of}
use Rattle.table.specs.declared.Refusal.{Refusal}
use Rattle.table.specs.Limits.{most_tasks}
use Rattle.table.specs.Tasks.{τ, T, C}
use Rattle.sets.specs.TaskSets.{has_task, tasks_where}
use Rattle.sets.proofs.Wheres.{tasks-has, tasks-above, task-none}
use Rattle.machine.specs.declared.Job.{Job}
use Rattle.machine.specs.declared.Machine.{Machine}
use Rattle.machine.specs.Jobs.{is_running, job, idles, runs}
use Rattle.machine.specs.Steps.{passed, finish}
use Rattle.machine.specs.Tick.{tick_rules, tick_refusal, accepted}
use Rattle.machine.proofs.StateParts.{GoodState}
use Rattle.machine.proofs.StateTest.{state-test}
use Rattle.machine.proofs.Accepted.{none_of, passed_over, none-given}

-- those of whom 11 is given, unless they are finished
abbrev over : Machine → ℕ → Bool
over m k = runs m k && eqb (job (passed m) k).ran (C (τ m.table k))

abbrev pub over_set : Machine → ℕ
over_set m = tasks_where (over m) m.table.n

fails_10 : (a b : Bool) → a && b && not a ≡ false
fails_10 true b = and-false b
fails_10 false b = refl

fails_11 : (a b : Bool) → a && b && not (a && b) ≡ false
fails_11 true true = refl
fails_11 true false = refl
fails_11 false b = refl

-- a test that fails where the first does not
unless : (a b : Bool) → (a ≡ true → b ≡ false) → a && b ≡ false
unless true b h = h refl
unless false b h = refl

-- What is asked of the released tasks, that neither 9, 12 nor 13 is given.
pub record Releasable (m : Machine) (R : ℕ) : Type 0 where
  pub in_table : Each most_tasks (λ k. has_task R k ≡ true → k ≤ m.table.n)
  pub due : Each most_tasks (λ k. has_task R k ≡ true → T (τ m.table k) ≤ (job (passed m) k).age)
  pub free : Each most_tasks (λ k. has_task R k ≡ true → idles (finish (over_set m) (passed m)) k ≡ true)

module _ (m : Machine) (g : GoodState m) where
  abbrev n : ℕ
  n = m.table.n

  abbrev F : ℕ
  F = over_set m

  in_F : (k : ℕ) → 1 ≤ k → k ≤ n → has_task F k ≡ over m k
  in_F k l h = tasks-has (over m) n k l h

  -- past n nobody runs
  rests : (k : ℕ) → n < k → k ≤ most_tasks → runs m k ≡ false
  rests zero l h = absurd (omega arith)
  rests (suc i) l h = ap (λ (j : Job). is_running j.stage) (g.no_jobs i (omega arith) h)

  no_10 : Each most_tasks (λ k. has_task F k && not (runs m k) ≡ false)
  no_10 k l h =
      elim (dec_le k n) [
        | yes d ↦ rw (in_F k l d) (fails_10 (runs m k) (eqb (job (passed m) k).ran (C (τ m.table k))))
        | no d ↦ rw (tasks-above (over m) n k (omega arith))
      ]

  no_11 : Each most_tasks (λ k. over m k && not (has_task F k) ≡ false)
  no_11 k l h =
      elim (dec_le k n) [
        | yes d ↦ rw (in_F k l d) (fails_11 (runs m k) (eqb (job (passed m) k).ran (C (τ m.table k))))
        | no d ↦ rw (rests k (omega arith) h)
      ]

  module _ (R : ℕ) (ready : Releasable m R) where
    no_9 : Each most_tasks (λ k. ltb n k && (has_task R k || has_task F k) ≡ false)
    no_9 k l h = unless (ltb n k) _ (λ e. past-n (ltb-true n k e))
      where
        past-n : n < k → has_task R k || has_task F k ≡ false
        past-n p =
            let out : has_task R k ≡ false = false_of (has_task R k) (λ e. omega (arith, ready.in_table k l h e)) in
            rw (out, tasks-above (over m) n k p)

    no_12 : Each most_tasks (λ k. has_task R k && ltb (job (passed m) k).age (T (τ m.table k)) ≡ false)
    no_12 k l h = unless (has_task R k) _ (λ e. le-ltb _ _ (ready.due k l h e))

    no_13 : Each most_tasks (λ k. has_task R k && not (idles (finish F (passed m)) k) ≡ false)
    no_13 k l h = unless (has_task R k) _ (λ e. ap not (ready.free k l h e))

    not-refused : (tick_refusal m R F).number ≡ 0
    unfolding tick_refusal tick_rules
    not-refused =
        rw (state-test m g)
        (ap (λ (r : Refusal). r.number)
        (passed_over _ _ (none_of _ no_9)
        ∙ (passed_over _ _ (none_of _ no_10)
        ∙ (passed_over _ _ (none_of _ no_11)
        ∙ (passed_over _ _ (none_of _ no_12)
        ∙ passed_over _ _ (none_of _ no_13)))))
        ∙ none-given)

    pub goes_with : accepted m R F ≡ true
    goes_with = eq-eqb _ 0 not-refused

  nothing : Releasable m 0
  nothing =
      let no_one : (k : ℕ) → has_task 0 k ≢ true = λ k e. true≢false (sym e ∙ task-none k) in
      record {
        in_table = λ k l h e. absurd (no_one k e);
        due = λ k l h e. absurd (no_one k e);
        free = λ k l h e. absurd (no_one k e);
      }

  pub goes_on_lem : accepted m 0 F ≡ true
  goes_on_lem = goes_with 0 nothing
