use mathlib.Core.Path.{◌∙◌, ap}
use native.Mathlib.Omega.{arith}
use Rattle.ticking.specs.Code.Passes.{past_none}
use Rattle.ticking.proofs.TickJudge.{zero-none, zero_more}
use Rattle.ticking.proofs.judging.rest_is_zero.Goals as goal

pub loop-i-init : goal.loop-i-init
loop-i-init c = ap past_none c.start-past.ensures ∙ zero-none c.args.m.now _ (omega arith)

pub loop-i-preserved : goal.loop-i-preserved
loop-i-preserved c =
    ap past_none c.with-past.ensures
    ∙ zero_more c.args.m.now c.loop-i.i c.loop-i.past (omega arith) c.loop-i.invariant
