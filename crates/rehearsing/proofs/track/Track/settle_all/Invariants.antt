use Rattle.rehearsing.proofs.track.Track.settle_all.Given as goal
use Rattle.rehearsing.specs.Code.Events.{Judging}

abbrev pub invariant-loop-k : goal.invariant-loop-k
invariant-loop-k l = Judging l.t l.i l.self l.k
