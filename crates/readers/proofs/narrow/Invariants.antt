-- The loop's invariant: the numbers so far are kept.
use Rattle.std.proofs.Common.{◌≡◌, length}
use lib.ListN.{take}
use Rattle.readers.proofs.narrow.Given as goal

abbrev pub invariant-loop-i : goal.invariant-loop-i
invariant-loop-i g l = (length l.narrowed ≡ g.row.N) × (take l.i l.narrowed ≡ take l.i l.numbers)
