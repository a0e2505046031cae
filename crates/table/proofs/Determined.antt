-- Two results that a public function's statement allows are equal.
use Prim.Native.Nat.{ℕ, min}
use mathlib.Core.Path.{◌≡◌, sym, ◌∙◌}
use mathlib.Core.List.{List}
use lib.ListN.{take}
use Rattle.maths.proofs.Determined.{determined}
use Rattle.table.specs.declared.Platform.{Platform}
use Rattle.table.specs.declared.Task.{Task}
use Rattle.table.specs.declared.Table.{Table}
use Rattle.std.specs.Prelude.{Result}
use Rattle.table.specs.declared.Reason.{Reason}
use Rattle.table.specs.declared.Refusal.{Refusal}
use Rattle.table.specs.Limits.{most_tasks}
use Rattle.table.specs.Tasks.{no_task, empty_table, table_of}
use Rattle.table.specs.Refused.{sizes_refusal, row_refusal, refusal}
use Rattle.table.specs.Reasons.{number_of, outcome, refusal_for}
use Rattle.table.proofs.Laws.{same-number}

pub none-determined : (r s : Task) → r ≡ no_task → s ≡ no_task → r ≡ s
none-determined = determined no_task

-- `Task::check`, of a row on a cache of p partitions
pub task-check-determined : (p : ℕ) (τ : Task) (r s : Result Unit Reason) → number_of r ≡ row_refusal p τ
    → number_of s ≡ row_refusal p τ → r ≡ s
task-check-determined p τ r s e f = same-number r s (e ∙ sym f)

pub empty_determined : (p : Platform) (r s : Table) → r ≡ empty_table p → s ≡ empty_table p → r ≡ s
empty_determined p = determined (empty_table p)

pub entries-determined : (n : ℕ) (r s : ℕ) → r ≡ min n most_tasks → s ≡ min n most_tasks → r ≡ s
entries-determined n = determined (min n most_tasks)

pub of-determined : (p : Platform) (rows : List Task) (r s : Table) → r ≡ table_of p rows → s ≡ table_of p rows → r ≡ s
of-determined p rows = determined (table_of p rows)

-- `Table::tasks`, of a lent table: the tasks behind the answer
pub tasks-determined : (t : Table) (r s : List Task) → r ≡ take t.n t.rows → s ≡ take t.n t.rows → r ≡ s
tasks-determined t = determined (take t.n t.rows)

pub check-determined : (t : Table) (r s : Result Unit Refusal) → r ≡ outcome (refusal t) → s ≡ outcome (refusal t)
    → r ≡ s
check-determined t = determined (outcome (refusal t))

pub sizes-determined : (t : Table) (r s : Result Unit Reason) → number_of r ≡ sizes_refusal t
    → number_of s ≡ sizes_refusal t → r ≡ s
sizes-determined t r s e f = same-number r s (e ∙ sym f)

pub refusal-determined : (reason : Reason) (row : ℕ) (r s : Refusal) → r ≡ refusal_for reason row
    → s ≡ refusal_for reason row → r ≡ s
refusal-determined reason row = determined (refusal_for reason row)
