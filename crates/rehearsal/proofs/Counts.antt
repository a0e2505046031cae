-- The jobs that each task started, by its number: none at first, and one more for each task of the set that a tick
-- answers.
use Prim.Native.Nat.{ℕ, suc, ◌+◌}
use mathlib.Core.Path.{◌≡◌, sym, ◌∙◌}
use mathlib.Core.Bool.{cond}
use mathlib.Core.List.{List}
use native.Mathlib.Omega.{arith}
use lib.ListN.{length}
use lib.Seq.{ext_get_or}
use Rattle.maths.specs.Tasks.{Each, entry}
use Rattle.maths.proofs.Tasks.{each, length-tabulate, get_d_tabulate}
use Rattle.table.specs.Limits.{most_tasks}
use Rattle.sets.specs.TaskSets.{has_task}
use Rattle.sets.proofs.Wheres.{task-none}
use Rattle.rehearsal.specs.Rehearsal.{and_started, none_started}

pub entry-none : Each most_tasks (λ k. entry none_started k 0 ≡ 0)
entry-none = each most_tasks _ (λ i l. get_d_tabulate _ most_tasks i 0 l)

pub entry-started : (started : List ℕ) (s : ℕ)
    → Each most_tasks (λ k. entry (and_started started s) k 0 ≡ entry started k 0 + cond (has_task s k) 1 0)
entry-started started s = each most_tasks _ (λ i l. get_d_tabulate _ most_tasks i 0 l)

pub nobody-started : (started : List ℕ) → length started ≡ most_tasks → and_started started 0 ≡ started
nobody-started started len =
    let long : length (and_started started 0) ≡ most_tasks = length-tabulate _ most_tasks in
    ext_get_or 0 (and_started started 0) started (long ∙ sym len)
    (λ i l. entry-started started 0 (suc i) (omega arith) (omega arith) ∙ rw (task-none (suc i)) (omega arith))
