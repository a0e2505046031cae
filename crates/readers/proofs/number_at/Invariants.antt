-- The loop's invariant: the number goes on from what has come of it.
use Rattle.std.proofs.Common.{◌≡◌, ◌<◌}
use mathlib.Core.Option.{some}
use lib.ListN.{drop}
use Rattle.readers.specs.Places.{number_from, number_at}
use Rattle.readers.proofs.number_at.Given as goal

abbrev pub invariant-loop-next : goal.invariant-loop-next
invariant-loop-next l = (0 < l.value)
    × (number_at l.most l.s l.at ≡ number_from l.most l.next (some l.value) (drop l.next l.s))
