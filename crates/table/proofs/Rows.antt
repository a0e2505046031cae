-- Tasks 1 to n of a table as a list by themselves.
use Prim.Native.Nat.{ℕ, ◌<◌, min}
use mathlib.Core.Path.{◌≡◌, ap, ◌∙◌}
use mathlib.Core.List.{List}
use native.Mathlib.Omega.{arith}
use lib.ListN.{length, take, get_or, length-take}
use lib.Seq.{get_or-take}
use Rattle.table.specs.declared.Task.{Task}
use Rattle.table.specs.declared.Table.{Table}
use Rattle.table.specs.Limits.{most_tasks}
use Rattle.table.specs.Tasks.{no_task}

module _ (t : Table) (tasks : List Task) (are : tasks ≡ take t.n t.rows) (whole : length t.rows ≡ most_tasks) where
  pub tasks-many : length tasks ≡ min t.n most_tasks
  tasks-many = ap length are ∙ simp length-take (omega (arith, whole))

  pub task-at : (i : ℕ) → i < length tasks → get_or tasks i no_task ≡ get_or t.rows i no_task
  task-at i l = rw are (get_or-take t.n t.rows i no_task (omega (arith, l, tasks-many)))
