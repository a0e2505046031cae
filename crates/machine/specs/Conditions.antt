-- Refusal 14: the conditions of a state, clause by clause as document 01 lists them.
use Rattle.std.specs.Prelude.{ℕ, suc, ◌-◌, Bool, false, cond, ◌&&◌, ◌||◌, leb, eqb}
use Rattle.maths.specs.Tasks.{every}
use Rattle.table.specs.declared.Task.{Task}
use Rattle.table.specs.Limits.{most_tasks, most_partitions}
use Rattle.table.specs.Tasks.{M, P, τ, D, T, C, A}
use Rattle.table.specs.Refused.{unrefused}
use Rattle.sets.specs.Sets.{size, below, without}
use Rattle.sets.specs.Families.{all_apart}
use Rattle.machine.specs.declared.Stage.{Stage}
use Rattle.machine.specs.declared.Job.{Job}
use Rattle.machine.specs.declared.Machine.{Machine}
use Rattle.machine.specs.Jobs.{is_idle, is_waiting, is_running, job, held, top, running}

abbrev pub is_no_task : Task → Bool
is_no_task τ = eqb (D τ) 0 && eqb (T τ) 0 && eqb (C τ) 0 && eqb (A τ) 0

abbrev pub is_no_job : Job → Bool
is_no_job j = is_idle j.stage && eqb j.age 0 && eqb j.ran 0 && eqb j.held 0

-- it holds no partition and has run 0
abbrev pub has_nothing : Job → Bool
has_nothing j = eqb j.held 0 && eqb j.ran 0

abbrev pub idles_well : Job → Bool
idles_well j = has_nothing j && leb 1 j.age

-- what is asked of a job that runs, on a cache of p partitions
abbrev pub runs_well : ℕ → Task → Job → Bool
runs_well p τ j =
    leb j.ran (C τ - 1)
    && leb j.ran j.age
    && eqb (size most_partitions j.held) (A τ)
    && eqb (without j.held (below p)) 0

-- what is asked of a job by its stage: it is idle, waiting or running
abbrev pub good_stage : ℕ → Task → Job → Stage → Bool
good_stage p τ j s =
    cond (is_idle s) (idles_well j)
    (cond (is_waiting s) (has_nothing j)
    (cond (is_running s) (runs_well p τ j) false))

unfoldable pub good_job : ℕ → Task → Job → Bool
good_job p τ j = leb j.age (top τ) && good_stage p τ j j.stage

unfoldable pub good_state : Machine → Bool
good_state m =
    unrefused m.table
    && every most_tasks (λ k. leb k m.table.n || is_no_task (τ m.table k) && is_no_job (job m k))
    && every m.table.n (λ k. good_job (P m.table) (τ m.table k) (job m k))
    && all_apart m.table.n (λ i. held m (suc i))
    && leb (running m) (M m.table)
