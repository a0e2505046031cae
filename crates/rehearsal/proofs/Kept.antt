-- What holds before a tick of a rehearsal holds of the fresh machine before tick 0, and of the next machine before the
-- next tick, while nobody is late and L is not reached.
use Prim.Native.Nat.{ℕ, suc, ◌<◌}
use mathlib.Core.Path.{◌≡◌, ◌∙◌}
use mathlib.Core.Bool.{false, cond}
use mathlib.Core.List.{List}
use native.Mathlib.Omega.{arith}
use lib.ListN.{length, length-set}
use Rattle.maths.specs.Tasks.{Each, entry}
use Rattle.maths.proofs.Tasks.{each, lowest_empty, length-tabulate}
use Rattle.table.specs.declared.Table.{Table}
use Rattle.table.specs.Limits.{most_tasks}
use Rattle.table.specs.Tasks.{τ}
use Rattle.sets.specs.TaskSets.{has_task}
use Rattle.machine.specs.declared.Machine.{Machine}
use Rattle.machine.specs.Jobs.{job, waits, waiting}
use Rattle.machine.specs.Fresh.{fresh_job, fresh}
use Rattle.machine.specs.Steps.{pick, passed, finish, awaiting}
use Rattle.machine.specs.Tick.{readied, moved}
use Rattle.machine.proofs.Jobs.{for_length}
use Rattle.machine.proofs.Queue.{picks-none, step_keeps, step-ends}
use Rattle.machine.proofs.StateParts.{GoodState}
use Rattle.machine.proofs.StateFresh.{fresh-n, fresh-rows-length, fresh-task, fresh-job, fresh-state}
use Rattle.machine.proofs.StateTest.{state-good}
use Rattle.admission.specs.Test.{row}
use Rattle.conduct.specs.Lives.{life}
use Rattle.conduct.specs.Conduct.{Conduct}
use Rattle.conduct.proofs.Laws.{tick-moved, conduct}
use Rattle.rehearsal.specs.Rehearsal.{released_at, full, late_now, bench_tick, and_started, none_started}
use Rattle.rehearsal.specs.Bench.{Unrefused}
use Rattle.rehearsal.proofs.Benched.{OnBench, Benched}
use Rattle.rehearsal.proofs.OnBench.{one-tick}
use Rattle.rehearsal.proofs.Members.{in_due, in_most, sound-row, not_late_lem}
use Rattle.rehearsal.proofs.Counts.{entry-started, entry-none}
use Rattle.rehearsal.proofs.Goes.{goes}

-- the fresh machine, in which nobody waits
module _ {t : Table} (u : Unrefused t) where
  fresh-good : GoodState (fresh t)
  fresh-good = fresh-state t u.unrefused u.whole

  module _ (i : ℕ) (l : i < (fresh t).table.n) where
    in_32 : i < most_tasks
    in_32 = omega (arith, fresh-good.table.sizes.few)

    is-fresh : job (fresh t) (suc i) ≡ fresh_job t (suc i)
    is-fresh = fresh-job t i in_32 (rw (fresh-n t) at l)

    fresh-each : OnBench 0 (row (τ (fresh t).table (suc i))) (life (job (fresh t) (suc i)))
        (entry none_started (suc i) 0)
    fresh-each =
        rw (is-fresh, fresh-task t i in_32 (rw (fresh-n t) at l), entry-none (suc i) (omega arith) in_32)
        (record { counts = omega arith; young = λ e. absurd (omega arith) })

    no_wait : waits (fresh t) (suc i) ≡ false
    no_wait = rw is-fresh

  fresh-stopped : pick (fresh t) ≡ 0
  fresh-stopped = picks-none (fresh t) (lowest_empty (waits (fresh t)) (fresh t).table.n no_wait)

  pub benched-fresh : Benched 0 (fresh t) none_started
  unfolding fresh
  benched-fresh =
      record {
        rows = fresh-rows-length t;
        jobs = length-tabulate _ most_tasks;
        entries = length-tabulate _ most_tasks;
        good = fresh-good;
        each = each _ _ fresh-each;
        stopped = fresh-stopped;
      }

-- a tick leaves an array of all jobs
moved_length : (m : Machine) (R F : ℕ) → length (moved m R F).jobs ≡ most_tasks
moved_length m R F =
    step_keeps (λ x. length x.jobs ≡ most_tasks) (λ x i e q. length-set x.jobs i _ ∙ q) (waiting (readied m R F))
    (readied m R F) (for_length (λ k j. cond (has_task R k) (awaiting j) j) (finish F (passed m)))

module _ (L : ℕ) {i : ℕ} {m : Machine} {s : List ℕ} (b : Benched i m s) (calm : late_now m ≡ 0) where
  abbrev x : Machine
  x = (bench_tick L i m).machine

  abbrev R : ℕ
  R = released_at L m.table i

  abbrev S : ℕ
  S = (bench_tick L i m).answer.started

  pub conducted : Conduct m.table m x R (full m) S
  conducted = conduct m R (full m) b.rows (goes L b calm)

  module _ (within : i < L) where
    kept-each : Each m.table.n
        (λ k. OnBench (suc i) (row (τ m.table k)) (life (job x k)) (entry (and_started s S) k 0))
    kept-each k some in_n =
        let g = b.good in
        rw (entry-started s S k some (in_most m g k some in_n), ← conducted.moves k some in_n)
        (one-tick (sound-row m g k some in_n) (b.each k some in_n) (has_task (full m) k)
        (not_late_lem m g k some in_n calm)
        (has_task R k) (has_task S k) (conducted.allows k some in_n)
        (in_due L i m.table within k some in_n))

    pub kept : Benched (suc i) x (and_started s S)
    kept =
        let is : x ≡ moved m R (full m) = tick-moved m R (full m) (goes L b calm) in
        let rows : length x.table.rows ≡ most_tasks = rw conducted.table b.rows in
        record {
          rows = rows;
          jobs = rw is (moved_length m R (full m));
          entries = length-tabulate _ most_tasks;
          good = state-good x rows conducted.good;
          each = rw conducted.table kept-each;
          stopped = rw is (step-ends (readied m R (full m)));
        }
