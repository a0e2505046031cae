use Rattle.std.proofs.Common.{◌-◌, length}
use Rattle.readers.proofs.Ticks.{Counted}
use Rattle.readers.proofs.read_ticks.Given as goal

abbrev pub invariant-loop-at : goal.invariant-loop-at
invariant-loop-at l = Counted l.s l.at l.n

abbrev pub decreases-loop-at : goal.decreases-loop-at
decreases-loop-at l = length l.s - l.at
