use Rattle.rehearsing.proofs.SecondPass.{Starting}
use Rattle.rehearsing.proofs.track.Track.begin_all.Given as goal

abbrev pub invariant-loop-k : goal.invariant-loop-k
invariant-loop-k l = Starting l.t l.i l.self l.goes l.next l.k
