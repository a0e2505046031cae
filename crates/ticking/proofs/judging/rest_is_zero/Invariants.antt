use mathlib.Core.Path.{◌≡◌}
use Rattle.ticking.specs.Code.Passes.{past_none, zero_to}
use Rattle.ticking.proofs.judging.rest_is_zero.Given as goal

abbrev pub invariant-loop-i : goal.invariant-loop-i
invariant-loop-i l = past_none l.past ≡ zero_to l.m l.i
