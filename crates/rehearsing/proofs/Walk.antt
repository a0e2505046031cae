-- Step 5 of the machine r, as the second pass of `tick` makes it: the walk after so many turns, and who starts in it.
-- The second pass of a rehearsal is compared with this walk turn by turn.
use Prim.Native.Nat.{ℕ, zero, suc}
use mathlib.Core.Path.{◌≡◌, refl}
use mathlib.Core.Bool.{Bool, true, ◌&&◌}
use Rattle.table.specs.Tasks.{τ}
use Rattle.machine.specs.declared.Machine.{Machine}
use Rattle.machine.specs.Jobs.{is_running, no_job, job, waits, idle_cores, idle_set, idle_partitions}
use Rattle.ticking.specs.declared.Walk.{Walk}
use Rattle.ticking.specs.Code.Passes as ticking

module _ (r : Machine) where
  unfoldable pub walk : ℕ → Walk
  walk zero =
      record {
        job = no_job;
        goes = true;
        cores = idle_cores r;
        idle = idle_set r;
        partitions = idle_partitions r;
        late = 0;
        started = 0;
      }
  walk (suc k) = ticking.walk_begin (suc k) (τ r.table (suc k)) (job r (suc k)) 0 (walk k)

  abbrev pub starts_now : ℕ → Bool
  starts_now k = waits r k && is_running (walk k).job.stage

  pub walk_more : (k : ℕ) → walk (suc k) ≡ ticking.walk_begin (suc k) (τ r.table (suc k)) (job r (suc k)) 0 (walk k)
  unfolding walk
  walk_more k = refl
