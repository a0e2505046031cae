-- A fresh machine: all tasks idle with age T and no partition held; and set-up, which leaves the old state where the
-- table is refused.
use Rattle.std.specs.Prelude.{ℕ, cond, leb}
use Rattle.maths.specs.Tasks.{tabulate}
use Rattle.table.specs.declared.Refusal.{Refusal}
use Rattle.table.specs.declared.Table.{Table}
use Rattle.table.specs.Limits.{most_tasks}
use Rattle.table.specs.Tasks.{no_task, τ, T}
use Rattle.table.specs.Refused.{refusal, unrefused}
use Rattle.machine.specs.declared.Job.{Job}
use Rattle.machine.specs.declared.Machine.{Machine}
use Rattle.machine.specs.Jobs.{Idle, no_job}

-- the table with its entries past n zero
abbrev pub trimmed : Table → Table
trimmed t =
    record { platform = t.platform; n = t.n; rows = tabulate most_tasks (λ k. cond (leb k t.n) (τ t k) no_task) }

abbrev pub fresh_job : Table → ℕ → Job
fresh_job t k = record { stage = Idle; age = T (τ t k); ran = 0; held = 0 }

unfoldable pub fresh : Table → Machine
fresh t = record { table = trimmed t; jobs = tabulate most_tasks (λ k. cond (leb k t.n) (fresh_job t k) no_job) }

-- what set-up comes to: why the table is refused, with number 0 where it is not, and the machine that is left
pub record SetUp : Type 0 where
  pub refused : Refusal
  pub machine : Machine

unfoldable pub set_up : Machine → Table → SetUp
set_up old t = record { refused = refusal t; machine = cond (unrefused t) (fresh t) old }
