use mathlib.Core.Path.{sym}
use Rattle.ticking.proofs.TickCode.{judged-accepts, judged-refuses, tick-accepted, unrefused-is}
use Rattle.ticking.proofs.tick.Goals as goal

pub returns-in-Err-clause-answer : goal.returns-in-Err-clause-answer
returns-in-Err-clause-answer c = rw (judged-refuses c.args.m.now _ _ _ (sym c.in-Err.ensures))

pub returns-in-Err-clause-machine : goal.returns-in-Err-clause-machine
returns-in-Err-clause-machine c = rw (judged-refuses c.args.m.now _ _ _ (sym c.in-Err.ensures))

pub returns-in-Ok-clause-answer : goal.returns-in-Ok-clause-answer
returns-in-Ok-clause-answer c =
    let yes = judged-accepts c.args.m.now c.args.released c.args.finished _ (sym c.in-Ok.ensures) in
    rw (
      tick-accepted c.args.m.now _ _ yes,
      unrefused-is c.args.m.now _ _ yes,
      c.move_jobs-walk.ensures.late,
      c.move_jobs-walk.ensures.started,
    )

pub returns-in-Ok-clause-machine : goal.returns-in-Ok-clause-machine
returns-in-Ok-clause-machine c =
    let yes = judged-accepts c.args.m.now c.args.released c.args.finished _ (sym c.in-Ok.ensures) in
    rw (tick-accepted c.args.m.now _ _ yes) c.move_jobs-walk.ensures.machine
