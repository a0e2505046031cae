-- The loop's invariant: the row goes on from the numbers that have come.
use Rattle.std.proofs.Common.{◌≡◌, [], length}
use lib.ListN.{take, drop}
use Rattle.readers.specs.Places.{row_from}
use Rattle.readers.proofs.row_at.Given as goal

abbrev pub invariant-loop-j : goal.invariant-loop-j
invariant-loop-j g l =
    (length l.numbers ≡ g.row.N)
    × (row_from l.s [] l.columns l.at ≡ row_from l.s (take l.j l.numbers) (drop l.j l.columns) l.next)
