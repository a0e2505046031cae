-- Who is released, finished and late in a tick of the bench, task by task, and what that says of a task's life: of one
-- that is not late, an unfinished job has not come to its deadline.
use Prim.Native.Nat.{ℕ, suc, ◌+◌, ◌%◌, ◌<◌, ◌≤◌, min}
use mathlib.Core.Path.{◌≡◌, refl, sym, ◌∙◌, ap}
use mathlib.Core.Bool.{Bool, true, false, not, ◌&&◌, true≢false}
use mathlib.Core.Logic.{◌≢◌}
use native.Mathlib.Omega.{arith}
use native.Mathlib.Decide.{dec_le}
use native.Mathlib.Nat.{le_refl}
use borrow.Author.Tests.{eq-eqb, le-ltb, lt-ltb}
use lib.Dec.{eqb}
use Rattle.maths.specs.Tasks.{Each}
use Rattle.maths.proofs.Tasks.{each}
use Rattle.table.specs.declared.Table.{Table}
use Rattle.table.specs.declared.Task.{Task}
use Rattle.table.specs.Good.{GoodRow}
use Rattle.table.specs.Limits.{most_tasks}
use Rattle.table.specs.Tasks.{P, τ, D, T, C}
use Rattle.sets.specs.TaskSets.{has_task}
use Rattle.sets.proofs.Wheres.{tasks-has, tasks-above, task-none}
use Rattle.machine.specs.declared.Job.{Job}
use Rattle.machine.specs.declared.Machine.{Machine}
use Rattle.machine.specs.Jobs.{is_idle, job, idles, runs}
use Rattle.machine.specs.Steps.{passed, finish}
use Rattle.machine.proofs.Jobs.{finished_job, finished-job, finished-table}
use Rattle.machine.proofs.StateParts.{GoodJob, GoodState, when_good}
use Rattle.admission.specs.Test.{row}
use Rattle.lives.specs.Life as Alone
use Rattle.lives.specs.Life.{Sound}
use Rattle.conduct.specs.Lives.{life}
use Rattle.conduct.proofs.Lives.{one, shows, finished-staged, life-finished}
use Rattle.rehearsal.specs.Rehearsal.{is_due, released_at, full, late_now}

-- nothing is released at L
pub at-L : (L : ℕ) (t : Table) → Each t.n (λ k. has_task (released_at L t L) k ≡ false)
at-L L t k l h =
    tasks-has (is_due L t L) t.n k l h
    ∙ ap (λ (before : Bool). before && eqb (L % T (τ t k)) 0) (le-ltb L L (le_refl L))

module _ (L i : ℕ) (t : Table) where
  pub in_released : Each t.n (λ k. has_task (released_at L t i) k ≡ is_due L t i k)
  in_released k l h = tasks-has (is_due L t i) t.n k l h

  -- before L, whoever's period divides the tick
  pub in_due : i < L → Each t.n (λ k. has_task (released_at L t i) k ≡ eqb (i % T (τ t k)) 0)
  in_due within k l h = in_released k l h ∙ rw (lt-ltb i L within)

  pub released-task : (k : ℕ) → has_task (released_at L t i) k ≡ true → k ≤ t.n
  released-task k e =
      elim (dec_le k t.n) [
        | yes d ↦ d
        | no d ↦ absurd (true≢false (sym e ∙ tasks-above (is_due L t i) t.n k (omega arith)))
      ]

pub in_full : (m : Machine) → Each m.table.n
    (λ k. has_task (full m) k ≡ (runs m k && eqb (job (passed m) k).ran (C (τ m.table k))))
in_full m k l h = tasks-has (λ k. runs m k && eqb (job (passed m) k).ran (C (τ m.table k))) m.table.n k l h

one-false : (b : Bool) → one b ≡ 0 → b ≡ false
one-false true e = absurd (omega arith)
one-false false e = refl

module _ (m : Machine) (g : GoodState m) (k : ℕ) (some : 1 ≤ k) (in_n : k ≤ m.table.n) where
  abbrev τk : Task
  τk = τ m.table k

  pub in_most : k ≤ most_tasks
  in_most = omega (arith, g.table.sizes.few)

  good-row : GoodRow (P m.table) τk
  good-row = each m.table.n (λ k. GoodRow (P m.table) (τ m.table k)) g.table.row k some in_n

  pub sound-row : Sound (row τk)
  sound-row = record { some = good-row.runs; fits = good-row.slack; constrained = good-row.deadline }

  pub good-job : GoodJob (P m.table) τk (job m k)
  good-job = each m.table.n (λ k. GoodJob (P m.table) (τ m.table k) (job m k)) g.each k some in_n

  -- after steps 1 and 2
  module _ (F : ℕ) where
    abbrev now : Machine
    now = finish F (passed m)

    abbrev life_now : Alone.Life
    life_now = Alone.finish (has_task F k) (Alone.rise (T τk) (life (job m k)))

    abbrev ended : Job
    ended = finished_job τk (has_task F k) (job m k)

    is-ended : job now k ≡ ended
    is-ended = finished-job m k some in_n in_most F

    pub idles-now : Alone.idles life_now ≡ one (idles now k)
    idles-now =
        ap Alone.idles (sym (life-finished τk (has_task F k) (job m k)))
        ∙ ((shows ended).idles (finished-staged τk (has_task F k) (job m k) (when_good good-job))
        ∙ ap (λ (j : Job). one (is_idle j.stage)) (sym is-ended))

  age-ended : (f : Bool) → (finished_job τk f (job m k)).age ≡ min ((job m k).age + 1) (T τk)
  age-ended true = refl
  age-ended false = refl

  -- the test of step 3, which says of nobody that he is late
  abbrev late : Machine → ℕ → Bool
  late x k =
      not (idles x k) && eqb ((job m k).age + 1) (D (τ x.table k)) && eqb (job x k).age (D (τ x.table k))

  tested : late_now m ≡ 0 → late (now (full m)) k ≡ false
  tested calm =
      sym (tasks-has (late (now (full m))) (now (full m)).table.n k some (rw (finished-table m 0 (full m)) in_n))
      ∙ (ap (λ (z : ℕ). has_task z k) calm ∙ task-none k)

  pub not_late_lem : late_now m ≡ 0 → Alone.idles (life_now (full m)) ≡ 0 → suc (Alone.age (life (job m k))) ≢ D τk
  not_late_lem calm u e = true≢false (sym is-late ∙ tested calm)
    where
      last : (job m k).age + 1 ≡ D τk
      last = omega (arith, (shows (job m k)).age)

      now-age : (ended (full m)).age ≡ D τk
      now-age = omega (arith, last, age-ended (has_task (full m) k), good-row.deadline)

      unfinished : idles (now (full m)) k ≡ false
      unfinished = one-false _ (sym (idles-now (full m)) ∙ u)

      is-late : late (now (full m)) k ≡ true
      is-late =
          rw (finished-table m 0 (full m), unfinished, is-ended (full m)) (rw (eq-eqb _ _ last, eq-eqb _ _ now-age))
