-- Step 5 of tick i, of a job and the lane of its life: the lane waits where the job does, and where the job starts, the
-- lane becomes that of the job begun.
use Prim.Native.Nat.{ℕ, suc, ◌+◌, ◌≤◌, ◌<◌}
use mathlib.Core.Path.{◌≡◌, refl, sym, ◌∙◌, ap}
use mathlib.Core.Bool.{Bool, true, false}
use lib.Dec.{eqb}
use Rattle.table.specs.declared.Task.{Task}
use Rattle.table.specs.Tasks.{D, C}
use Rattle.admission.specs.Test.{row}
use Rattle.machine.specs.declared.Job.{Job}
use Rattle.machine.specs.Jobs.{is_waiting}
use Rattle.machine.specs.Steps.{begun}
use Rattle.lives.specs.Life.{Life}
use Rattle.conduct.specs.Lives.{life}
use Rattle.conduct.proofs.Lives.{one, shows, life-begun}
use Rattle.rehearsal.proofs.Times.{never}
use Rattle.rehearsing.specs.Code.Lanes.{lane_waits, begun_lane}
use Rattle.rehearsing.proofs.LaneLaws.{lane-waits, lane-begun}
use Rattle.rehearsing.specs.Code.Events.{lane_of}

module _ (i s : ℕ) (τ : Task) (j : Job) where
  pub job-waits : i + D τ < never → C τ ≤ D τ → lane_waits (lane_of i (row τ) (life j) s) ≡ is_waiting j.stage
  job-waits l c = lane-waits i (row τ) s l c (life j) ∙ rw (shows j).waits (by (is_waiting j.stage))
    where
      by : (b : Bool) → eqb (one b) 1 ≡ b
      by true = refl
      by false = refl

  pub job-begun : (held : ℕ) → is_waiting j.stage ≡ true
      → begun_lane i τ (lane_of (suc i) (row τ) (life j) s) ≡ lane_of (suc i) (row τ) (life (begun held j)) (s + 1)
  job-begun held w =
      lane-begun i s τ (life j) ((shows j).waits ∙ ap one w)
      ∙ ap (λ (x : Life). lane_of (suc i) (row τ) x (s + 1)) (sym (life-begun held j))
