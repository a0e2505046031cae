-- Two results that a public function's statement allows are equal.
use Prim.Native.Nat.{ℕ, min}
use mathlib.Core.Path.{◌≡◌}
use mathlib.Core.Bool.{Bool}
use Rattle.maths.proofs.Determined.{determined}
use Rattle.table.specs.declared.Partitions.{Partitions}
use Rattle.table.specs.Limits.{most_partitions}
use Rattle.sets.specs.Sets.{partitions_in, below, without}
use Rattle.sets.specs.TaskSets.{has_task, task_bit}
use Rattle.sets.specs.Choice.{choice}

pub has-task-determined : (x k : ℕ) (r s : Bool) → r ≡ has_task x k → s ≡ has_task x k → r ≡ s
has-task-determined x k = determined (has_task x k)

pub task-bit-determined : (k r s : ℕ) → r ≡ task_bit k → s ≡ task_bit k → r ≡ s
task-bit-determined k = determined (task_bit k)

pub size-determined : (x : ℕ) (r s : Partitions) → r ≡ partitions_in x → s ≡ partitions_in x → r ≡ s
size-determined x = determined (partitions_in x)

pub below-determined : (p : Partitions) (r s : ℕ) → r ≡ below (min p.0 most_partitions)
    → s ≡ below (min p.0 most_partitions) → r ≡ s
below-determined p = determined (below (min p.0 most_partitions))

pub without-determined : (x y r s : ℕ) → r ≡ without x y → s ≡ without x y → r ≡ s
without-determined x y = determined (without x y)

pub choose_determined : (idle : ℕ) (a : Partitions) (r s : ℕ) → r ≡ choice idle a.0 → s ≡ choice idle a.0 → r ≡ s
choose_determined idle a = determined (choice idle a.0)
