-- Steps 1, 2 and 4 of an accepted tick leave a good state.
use Prim.Native.Nat.{ℕ, suc, ◌+◌, ◌<◌, ◌≤◌, zero-le}
use mathlib.Core.Path.{◌≡◌, refl, ◌∙◌, ap}
use mathlib.Core.Bool.{Bool, true, false, cond}
use mathlib.Core.Logic.{◌≢◌}
use native.Mathlib.Omega.{arith}
use native.Mathlib.Nat.{le_refl, le_trans}
use Rattle.maths.proofs.Sums.{sum_mono}
use Rattle.table.specs.declared.Task.{Task}
use Rattle.table.specs.Good.{GoodRow}
use Rattle.table.specs.Limits.{most_tasks}
use Rattle.table.specs.Tasks.{P, τ, C}
use Rattle.sets.specs.Sets.{bit, Within}
use Rattle.sets.specs.Families.{Apart}
use Rattle.sets.specs.TaskSets.{has_task}
use Rattle.sets.proofs.Bits.{bit-zero}
use Rattle.sets.proofs.Holders.{apart-within}
use Rattle.machine.specs.declared.Job.{Job}
use Rattle.machine.specs.declared.Machine.{Machine}
use Rattle.machine.specs.Jobs.{is_idle, is_running, no_job, job, held, runs, running}
use Rattle.machine.specs.Steps.{for_tasks, older, awaiting}
use Rattle.machine.specs.Tick.{readied}
use Rattle.machine.proofs.Jobs.{for_past, finished_job, readied_job, readied_pass, readied-job, readied-table}
use Rattle.machine.proofs.Queue.{ended-rests}
use Rattle.machine.proofs.StateParts.{ByStage, is-idle, is-waiting, is-running, GoodJob, GoodState, when_idle}
use Rattle.machine.proofs.Accepted.{Accepted}
use Rattle.machine.proofs.Taken.{taken}
use Rattle.conduct.proofs.Lives.{one}

module _ {p : ℕ} {τ : Task} (row : GoodRow p τ) where
  -- a job that has not run C ticks
  older-good : (j : Job) → GoodJob p τ j → (is_running j.stage ≡ true → (older τ j).ran ≢ C τ)
      → GoodJob p τ (older τ j)
  older-good j g w = record { age = omega arith; stage = by g.stage }
    where
      by : ByStage p τ j j.stage → ByStage p τ (older τ j) j.stage
      by (is-idle q b) =
          is-idle q
          (record { rests = record { none = b.rests.none; unrun = rw q b.rests.unrun }; old = omega arith })
      by (is-waiting q b) = is-waiting q (record { none = b.none; unrun = rw q b.unrun })
      by (is-running q b) =
          let e : is_running j.stage ≡ true = ap is_running q in
          let over : j.ran + 1 ≢ C τ = rw e at (w e) in
          is-running q (record {
            short = rw e (omega (arith, over));
            younger = rw e (omega (arith, over));
            count = b.count;
            cache = b.cache;
          })

  finished-good : (f : Bool) (j : Job) → GoodJob p τ j
      → (is_running j.stage ≡ true → f ≡ false → (older τ j).ran ≢ C τ) → GoodJob p τ (finished_job τ f j)
  finished-good true j g w =
      record { age = omega arith; stage = is-idle refl (record { rests = ended-rests (older τ j); old = omega arith }) }
  finished-good false j g w = older-good j g (λ e. w e refl)

  released-good : (r : Bool) (j : Job) → GoodJob p τ j → (r ≡ true → is_idle j.stage ≡ true)
      → GoodJob p τ (cond r (awaiting j) j)
  released-good true j g w =
      let i = when_idle g (w refl) in
      record { age = zero-le; stage = is-waiting refl (record { none = i.rests.none; unrun = i.rests.unrun }) }
  released-good false j g w = g

-- a job gives up what it held, or keeps it, and takes no core
held-less : (τ : Task) (r f : Bool) (j : Job) → Within (readied_job τ r f j).held j.held
held-less τ true true j q = omega (arith, bit-zero q)
held-less τ true false j q = le_refl (bit j.held q)
held-less τ false true j q = omega (arith, bit-zero q)
held-less τ false false j q = le_refl (bit j.held q)

runs-less : (τ : Task) (r f : Bool) (j : Job) → one (is_running (readied_job τ r f j).stage) ≤ one (is_running j.stage)
runs-less τ true f j = zero-le
runs-less τ false true j = zero-le
runs-less τ false false j = le_refl (one (is_running j.stage))

module _ (m : Machine) (R F : ℕ) (g : GoodState m) (a : Accepted m R F) where
  module _ (i : ℕ) (l : i < m.table.n) where
    few : suc i ≤ most_tasks
    few = omega (arith, g.table.sizes.few)

    is : job (readied m R F) (suc i)
        ≡ readied_job (τ m.table (suc i)) (has_task R (suc i)) (has_task F (suc i)) (job m (suc i))
    is = readied-job m (suc i) (omega arith) l few R F

    each-good : GoodJob (P m.table) (τ m.table (suc i)) (job (readied m R F) (suc i))
    each-good =
        let row = g.table.row i l in
        let t = taken m R F g.table.sizes.few a (suc i) (omega arith) l in
        rw is (released-good row (has_task R (suc i)) _
        (finished-good row (has_task F (suc i)) (job m (suc i)) (g.each i l) t.not_over) t.free)

    within : Within (held (readied m R F) (suc i)) (held m (suc i))
    within = rw (held, is) (held-less (τ m.table (suc i)) (has_task R (suc i)) (has_task F (suc i)) (job m (suc i)))

    fewer : one (runs (readied m R F) (suc i)) ≤ one (runs m (suc i))
    fewer = rw is (runs-less (τ m.table (suc i)) (has_task R (suc i)) (has_task F (suc i)) (job m (suc i)))

  cores : running (readied m R F) ≤ running m
  unfolding running
  cores = rw (readied-table m R F) (sum_mono _ _ m.table.n fewer)

  past : (i : ℕ) → m.table.n ≤ i → i < most_tasks → job (readied m R F) (suc i) ≡ no_job
  past i h l = rw (readied_pass m R F) (for_past _ m (suc i) (omega arith) l ∙ g.no_jobs i h l)

  apart : Apart m.table.n (λ i. held (readied m R F) (suc i))
  apart = apart-within (λ i. held m (suc i)) (λ i. held (readied m R F) (suc i)) m.table.n within g.apart

  pub readied-good : GoodState (readied m R F)
  unfolding for_tasks
  readied-good =
      record {
        unrefused = g.unrefused;
        table = g.table;
        no_tasks = g.no_tasks;
        no_jobs = past;
        each = each-good;
        apart = apart;
        cores = le_trans cores g.cores;
      }
