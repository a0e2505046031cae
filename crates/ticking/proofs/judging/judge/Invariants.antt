use Rattle.ticking.proofs.TickLook.{Looked}
use Rattle.ticking.proofs.judging.judge.Given as goal

abbrev pub invariant-loop-i : goal.invariant-loop-i
invariant-loop-i l = Looked l.m l.report.released l.report.finished l.i l.look
