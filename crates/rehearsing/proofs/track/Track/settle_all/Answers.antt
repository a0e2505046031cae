use mathlib.Core.Path.{◌≡◌, sym, ◌∙◌}
use mathlib.Core.Bool.{true, false}
use native.Mathlib.Omega.{arith}
use borrow.Author.Rules.{rules}
use Rattle.rehearsing.specs.Code.Lanes.{lane_is_late}
use Rattle.rehearsing.specs.Code.Tracks.{lane_at}
use Rattle.rehearsing.proofs.Events.{few}
use Rattle.rehearsing.proofs.FirstPass.{judging_none, judging_more, judging-small, judging-idle}
use Rattle.rehearsing.proofs.AfterFirst.{ends-late}
use Rattle.rehearsing.proofs.track.Track.settle_all.Goals as goal

pub loop-k-init : goal.loop-k-init
loop-k-init c = judging_none c.requires

pub bounds-t-k : goal.bounds-t-k
bounds-t-k c = omega (arith, few c.loop-k.invariant.before, c.loop-k-test.true)

pub settle-requires-clause-in_range : goal.settle-requires-clause-in_range
settle-requires-clause-in_range c = omega (arith, few c.loop-k.invariant.before, c.loop-k-test.true)

pub settle-requires-clause-row : goal.settle-requires-clause-row
settle-requires-clause-row c = judging-small c.loop-k.invariant (search rules)

pub settle-requires-clause-cores : goal.settle-requires-clause-cores
settle-requires-clause-cores c = (judging-idle c.loop-k.invariant (search rules)).0

pub settle-requires-clause-partitions : goal.settle-requires-clause-partitions
settle-requires-clause-partitions c = (judging-idle c.loop-k.invariant (search rules)).1

pub returns-then-settle : goal.returns-then-settle
returns-then-settle c =
    let late : lane_is_late c.args.i (lane_at c.loop-k.self c.loop-k.k) ≡ true =
    sym c.settle.ensures.late ∙ c.if-settle.true in
    rw (c.settle.ensures.track, late) (ends-late c.loop-k.invariant (search rules) late)

pub loop-k-preserved : goal.loop-k-preserved
loop-k-preserved c =
    let calm : lane_is_late c.args.i (lane_at c.loop-k.self c.loop-k.k) ≡ false =
    sym c.settle.ensures.late ∙ c.if-settle.false in
    judging_more c.loop-k.invariant (search rules) _ calm (c.settle.ensures.track ∙ rw calm)
