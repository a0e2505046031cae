-- Sets of tasks: tasks are numbered from 1, and task k adds 2 ^ (k - 1).
use Rattle.std.specs.Prelude.{ℕ, suc, ◌-◌, ◌^◌, Bool, cond, ◌&&◌, ltb}
use Rattle.maths.specs.Rules.{outside}
use Rattle.table.specs.Limits.{most_tasks}
use Rattle.sets.specs.Sets.{has, set_where}

-- task k is in the set x
abbrev pub has_task : ℕ → ℕ → Bool
has_task x k = ltb 0 k && has x (k - 1)

-- the set of task k alone, and of no task where there is no task k
abbrev pub task_bit : ℕ → ℕ
task_bit k = cond (outside 1 most_tasks k) 0 (2 ^ (k - 1))

-- the set of the tasks k from 1 to n of which f is true
abbrev pub tasks_where : (ℕ → Bool) → ℕ → ℕ
tasks_where f n = set_where (λ i. f (suc i)) n
