-- What is had so far is the multiple of the periods passed, and within the limit.
use Prim.Native.Nat.{◌≤◌}
use mathlib.Core.Path.{◌≡◌}
use Rattle.rehearsal.specs.Multiple.{multiple_to, most_multiple}
use Rattle.rehearsing.proofs.multiple.multiple.Given as goal

abbrev pub invariant-loop-task : goal.invariant-loop-task
invariant-loop-task l = (l.so_far ≡ multiple_to l.t l.task-index) × (l.so_far ≤ most_multiple)
