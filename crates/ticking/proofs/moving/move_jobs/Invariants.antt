use mathlib.Core.Path.{◌≡◌}
use Rattle.ticking.proofs.TickSteps.{turns, machine_to}
use Rattle.ticking.proofs.moving.move_jobs.Given as goal

abbrev pub invariant-loop-i : goal.invariant-loop-i
invariant-loop-i l = record {
  walked : l.walk ≡ turns l.fn.m l.report.released l.report.finished l.i;
  stored : l.m ≡ machine_to l.fn.m l.report.released l.report.finished l.i;
}
