-- The names for what a state holds: the job of task k, who waits and runs, which partitions are busy and idle.
-- Idle cores and idle partitions are two counts of two kinds, as in the report: each is counted from the jobs and what
-- they hold, and none is stored.
use Rattle.std.specs.Prelude.{ℕ, suc, ◌-◌, Bool, cond, eqb}
use Rattle.maths.specs.Sums.{Σ}
use Rattle.maths.specs.Tasks.{entry}
use Rattle.table.specs.declared.Cores.{Cores}
use Rattle.table.specs.declared.Partitions.{Partitions}
use Rattle.table.specs.declared.Task.{Task}
use Rattle.table.specs.Tasks.{M, P, T}
use Rattle.sets.specs.Sets.{partitions_in, below, without}
use Rattle.sets.specs.Families.{union_of}
use Rattle.machine.specs.declared.Stage.{Stage}
use Rattle.machine.specs.declared.Job.{Job}
use Rattle.machine.specs.declared.Machine.{Machine}

-- the three stages, as numbers
abbrev pub Idle : Stage
Idle = record { 0 = 0 }

abbrev pub Waiting : Stage
Waiting = record { 0 = 1 }

abbrev pub Running : Stage
Running = record { 0 = 2 }

abbrev pub is_idle : Stage → Bool
is_idle s = eqb s.0 0

abbrev pub is_waiting : Stage → Bool
is_waiting s = eqb s.0 1

abbrev pub is_running : Stage → Bool
is_running s = eqb s.0 2

abbrev pub no_job : Job
no_job = record { stage = Idle; age = 0; ran = 0; held = 0 }

-- the job of task k
abbrev pub job : Machine → ℕ → Job
job m k = entry m.jobs k no_job

-- the partitions that task k holds
abbrev pub held : Machine → ℕ → ℕ
held m k = (job m k).held

-- where ages are held: an age counts no further
abbrev pub top : Task → ℕ
top τ = T τ

abbrev pub idles : Machine → ℕ → Bool
idles m k = is_idle (job m k).stage

abbrev pub waits : Machine → ℕ → Bool
waits m k = is_waiting (job m k).stage

abbrev pub runs : Machine → ℕ → Bool
runs m k = is_running (job m k).stage

-- how many jobs wait, and how many run
abbrev pub waiting : Machine → ℕ
waiting m = Σ m.table.n (λ k. cond (waits m k) 1 0)

unfoldable pub running : Machine → ℕ
running m = Σ m.table.n (λ k. cond (runs m k) 1 0)

-- the partitions that some job holds
unfoldable pub busy : Machine → ℕ
busy m = union_of m.table.n (λ i. held m (suc i))

-- the partitions of the platform that no job holds
abbrev pub idle_set : Machine → ℕ
idle_set m = without (below (P m.table)) (busy m)

-- how many cores are idle, a running job having one, and how many partitions are
abbrev pub idle_cores : Machine → Cores
idle_cores m = record { 0 = M m.table - running m }

abbrev pub idle_partitions : Machine → Partitions
idle_partitions m = partitions_in (idle_set m)
