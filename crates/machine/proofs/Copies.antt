-- The rows that a fresh machine has of a table, as a table of its tasks has them.
use Prim.Native.Nat.{ℕ, suc, ◌<◌}
use mathlib.Core.Path.{◌≡◌, ◌∙◌}
use mathlib.Core.Bool.{cond}
use mathlib.Core.List.{List}
use native.Mathlib.Omega.{arith}
use native.Mathlib.Decide.{dec_le}
use borrow.Author.Tests.{le-leb, lt-leb}
use lib.Dec.{leb}
use lib.ListN.{take, get_or, get_or-eq_default, length-take}
use lib.Seq.{get_or-take}
use Rattle.maths.specs.Padded.{padded}
use Rattle.maths.specs.Tasks.{tabulate, entry}
use Rattle.maths.proofs.Arrays.{tabulate-ext, padded-entries}
use Rattle.table.specs.declared.Task.{Task}
use Rattle.table.specs.Limits.{most_tasks}
use Rattle.table.specs.Tasks.{no_task}

pub kept_from : (n : ℕ) (rows : List Task) → padded most_tasks no_task (take n rows)
    ≡ tabulate most_tasks (λ k. cond (leb k n) (entry rows k no_task) no_task)
kept_from n rows =
    let xs = take n rows in
    padded-entries no_task most_tasks xs
    ∙ tabulate-ext (λ k. entry xs k no_task) (λ k. cond (leb k n) (entry rows k no_task) no_task) most_tasks at
  where
    at : (i : ℕ) → i < most_tasks
        → get_or (take n rows) i no_task ≡ cond (leb (suc i) n) (get_or rows i no_task) no_task
    at i l =
        elim (dec_le (suc i) n) [
          | yes h ↦ rw (le-leb (suc i) n h) (get_or-take n rows i no_task (omega arith))
          | no h ↦
              rw (lt-leb (suc i) n (omega arith))
              (get_or-eq_default (take n rows) no_task (simp length-take (omega arith)))
        ]
