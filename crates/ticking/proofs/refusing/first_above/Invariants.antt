use mathlib.Core.Path.{◌≡◌}
use lib.Bits.{bit_or}
use Rattle.maths.specs.Tasks.{lowest}
use Rattle.ticking.proofs.TickRules.{above}
use Rattle.ticking.proofs.refusing.first_above.Given as goal

abbrev pub invariant-loop-i : goal.invariant-loop-i
invariant-loop-i l = lowest l.i (above (bit_or l.report.released l.report.finished) l.n) ≡ 0
