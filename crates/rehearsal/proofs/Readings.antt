-- What a tick of a rehearsal finds of each task, read from its life: whether its job is over, and whether it is late.
-- TimesLaws has the same of its times.
use Prim.Native.Nat.{ℕ, suc, ◌+◌, ◌≤◌}
use mathlib.Core.Path.{◌≡◌, refl, sym, ◌∙◌, ap}
use mathlib.Core.Bool.{Bool, true, false, cond, not, ◌&&◌, true≢false}
use native.Mathlib.Omega.{arith}
use native.Mathlib.Numerals.{add-one}
use borrow.Author.Tests.{eqb-true, eq-eqb}
use lib.Dec.{eqb}
use Rattle.maths.proofs.Tests.{both, same_truth}
use Rattle.table.specs.declared.Task.{Task}
use Rattle.table.specs.Tasks.{P, τ, D, T, C}
use Rattle.admission.specs.Test.{row}
use Rattle.sets.specs.TaskSets.{has_task}
use Rattle.sets.proofs.Wheres.{tasks-has}
use Rattle.machine.specs.declared.Job.{Job}
use Rattle.machine.specs.declared.Machine.{Machine}
use Rattle.machine.specs.Jobs.{is_idle, is_waiting, is_running, job, idles, runs}
use Rattle.machine.specs.Steps.{for_tasks, older, passed, finish}
use Rattle.machine.proofs.Jobs.{finished_job, passed-job, finished-job}
use Rattle.machine.proofs.StateParts.{Staged, waiting-is, running-is, GoodState, Runs}
use Rattle.machine.proofs.StateParts.{when_running, when_good}
use Rattle.lives.specs.Life.{idle, waiting, running, WithinC}
use Rattle.conduct.specs.Lives.{life}
use Rattle.rehearsal.specs.Rehearsal.{full, late_now}
use Rattle.rehearsal.proofs.Members.{in_full, in_most, sound-row, good-job}
use Rattle.rehearsal.proofs.TimesLaws.{is_over, is_late}

-- of a task τ with the job j
module _ (τ : Task) (j : Job) where
  job-over : is_running j.stage && eqb (older τ j).ran (C τ) ≡ is_over (row τ) (life j)
  job-over = by (is_running j.stage) (is_waiting j.stage)
    where
      by : (run wait : Bool) → run && eqb (cond run (j.ran + 1) j.ran) (C τ)
          ≡ is_over (row τ) (cond run (running j.age j.ran) (cond wait (waiting j.age) (idle j.age)))
      by true wait = rw (add-one j.ran)
      by false true = refl
      by false false = refl

  -- no age is held below the deadline
  age-late : D τ ≤ T τ → eqb (j.age + 1) (D τ) && eqb (older τ j).age (D τ) ≡ eqb (suc j.age) (D τ)
  age-late l =
      same_truth _ _ (λ e. rw add-one at (both (eqb (j.age + 1) (D τ)) _ e).0)
      (λ e.
      let old : suc j.age ≡ D τ = eqb-true (suc j.age) (D τ) e in
      rw (eq-eqb (j.age + 1) (D τ) (omega arith)) (eq-eqb (older τ j).age (D τ) (omega arith)))

  job-late : D τ ≤ T τ → Staged j.stage → (f : Bool)
      → not (is_idle (finished_job τ f j).stage) && eqb (j.age + 1) (D τ) && eqb (finished_job τ f j).age (D τ)
      ≡ (not f && is_late (row τ) (life j))
  job-late l staged true = refl
  job-late l staged false = by (is_running j.stage) (is_waiting j.stage) refl refl
    where
      by : (run wait : Bool) → is_running j.stage ≡ run → is_waiting j.stage ≡ wait
          → not (is_idle j.stage) && eqb (j.age + 1) (D τ) && eqb (older τ j).age (D τ)
          ≡ is_late (row τ) (cond run (running j.age j.ran) (cond wait (waiting j.age) (idle j.age)))
      by true wait e f = rw (ap is_idle (running-is j.stage e)) (age-late l)
      by false true e f = rw (ap is_idle (waiting-is j.stage f)) (age-late l)
      by false false e f = rw (rest (is_idle j.stage) refl)
        where
          rest : (b : Bool) → is_idle j.stage ≡ b → is_idle j.stage ≡ true
          rest true i = i
          rest false i = absurd (true≢false (sym (staged i f) ∙ e))

-- of each task of a machine in a good state
module _ {m : Machine} (g : GoodState m) where
  abbrev n : ℕ
  n = m.table.n

  -- after step 2
  abbrev now : Machine
  now = finish (full m) (passed m)

  -- step 3 of task k
  abbrev late_in : ℕ → Bool
  late_in k =
      not (idles now k) && eqb ((job m k).age + 1) (D (τ m.table k)) && eqb (job now k).age (D (τ m.table k))

  module _ (k : ℕ) (l : 1 ≤ k) (h : k ≤ n) where
    abbrev τk : Task
    τk = τ m.table k

    abbrev over : Bool
    over = is_over (row τk) (life (job m k))

    abbrev late : Bool
    late = not over && is_late (row τk) (life (job m k))

    pub within-c : WithinC (row τk) (life (job m k))
    within-c = by (is_running (job m k).stage) (is_waiting (job m k).stage) (λ e. when_running (good-job m g k l h) e)
      where
        by : (run wait : Bool) → (run ≡ true → Runs (P m.table) τk (job m k))
            → WithinC (row τk) (cond run (running (job m k).age (job m k).ran)
            (cond wait (waiting (job m k).age) (idle (job m k).age)))
        by true wait r = omega (arith, (r refl).short, (sound-row m g k l h).some)
        by false true r = tt
        by false false r = tt

    pub full-test : runs m k && eqb (job (passed m) k).ran (C τk) ≡ over
    full-test = rw (passed-job m k l h (in_most m g k l h)) (job-over τk (job m k))

    pub full-has : has_task (full m) k ≡ over
    full-has = in_full m k l h ∙ full-test

    pub late-test : late_in k ≡ late
    late-test =
        rw (finished-job m k l h (in_most m g k l h) (full m), full-has)
        (job-late τk (job m k) (sound-row m g k l h).constrained (when_good (good-job m g k l h)) over)

    pub late-has : has_task (late_now m) k ≡ late
    unfolding for_tasks
    late-has = tasks-has late_in n k l h ∙ late-test
