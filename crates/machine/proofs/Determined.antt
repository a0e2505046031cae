-- Two results that a public function's statement allows are equal.
use mathlib.Core.Path.{◌≡◌}
use mathlib.Core.Bool.{Bool}
use Rattle.std.specs.Prelude.{ℕ}
use Rattle.std.specs.Int.Bits.{bit_or}
use Rattle.sets.specs.TaskSets.{has_task}
use Rattle.machine.specs.declared.Report.{Report}
use Rattle.maths.proofs.Determined.{determined, determined-both}
use Rattle.std.specs.Prelude.{Result}
use Rattle.table.specs.declared.Refusal.{Refusal}
use Rattle.table.specs.Refused.{refusal}
use Rattle.table.specs.Reasons.{outcome}
use Rattle.table.specs.declared.Cores.{Cores}
use Rattle.table.specs.declared.Partitions.{Partitions}
use Rattle.table.specs.declared.Task.{Task}
use Rattle.table.specs.declared.Table.{Table}
use Rattle.machine.specs.declared.Stage.{Stage}
use Rattle.machine.specs.declared.Job.{Job}
use Rattle.machine.specs.declared.Machine.{Machine}
use Rattle.machine.specs.Jobs.{is_idle, is_waiting, is_running, no_job}
use Rattle.machine.specs.Fresh.{SetUp, fresh, set_up}
use Rattle.machine.specs.Steps.{fits_in}

pub is-idle-determined : (x : Stage) (r s : Bool) → r ≡ is_idle x → s ≡ is_idle x → r ≡ s
is-idle-determined x = determined (is_idle x)

pub is-waiting-determined : (x : Stage) (r s : Bool) → r ≡ is_waiting x → s ≡ is_waiting x → r ≡ s
is-waiting-determined x = determined (is_waiting x)

pub is-running-determined : (x : Stage) (r s : Bool) → r ≡ is_running x → s ≡ is_running x → r ≡ s
is-running-determined x = determined (is_running x)

pub none-determined : (r s : Job) → r ≡ no_job → s ≡ no_job → r ≡ s
none-determined = determined no_job

pub fits_in_determined : (cores : Cores) (partitions : Partitions) (τ : Task) (r s : Bool)
    → r ≡ fits_in cores partitions τ → s ≡ fits_in cores partitions τ → r ≡ s
fits_in_determined cores partitions τ = determined (fits_in cores partitions τ)

pub fresh-determined : (t : Table) (r s : Machine) → r ≡ fresh t → s ≡ fresh t → r ≡ s
fresh-determined t = determined (fresh t)

pub set-up-determined : (old : Machine) (t : Table) (r s : Result Unit Refusal) (a b : Machine)
    → (r ≡ outcome (refusal t)) × (a ≡ (set_up old t).machine)
    → (s ≡ outcome (refusal t)) × (b ≡ (set_up old t).machine) → (r ≡ s) × (a ≡ b)
set-up-determined old t = determined-both (outcome (refusal t)) (set_up old t).machine

-- of what a set-up comes to as one record
pub set-up-record-determined : (old : Machine) (t : Table) (r s : SetUp) → r ≡ set_up old t → s ≡ set_up old t → r ≡ s
set-up-record-determined old t = determined (set_up old t)

-- of a report and a task
module _ (x : Report) (k : ℕ) (r s : Bool) where
  pub releases-determined : r ≡ has_task x.released k → s ≡ has_task x.released k → r ≡ s
  releases-determined = determined (has_task x.released k) r s

  pub finishes-determined : r ≡ has_task x.finished k → s ≡ has_task x.finished k → r ≡ s
  finishes-determined = determined (has_task x.finished k) r s

  pub names-determined : r ≡ has_task (bit_or x.released x.finished) k → s ≡ has_task (bit_or x.released x.finished) k
      → r ≡ s
  names-determined = determined (has_task (bit_or x.released x.finished) k) r s
