use Rattle.std.proofs.Common.{◌-◌, ◌≡◌, length}
use Rattle.readers.proofs.Tasks.{Here}
use Rattle.readers.proofs.read_tasks.Given as goal

abbrev pub invariant-loop-at : goal.invariant-loop-at
invariant-loop-at l = (l.table.platform ≡ l.fn.platform) × Here l.s l.at l.table.rows l.table.n

abbrev pub decreases-loop-at : goal.decreases-loop-at
decreases-loop-at l = length l.s - l.at
