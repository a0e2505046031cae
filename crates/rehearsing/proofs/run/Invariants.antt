use Prim.Native.Nat.{◌-◌}
use Rattle.rehearsing.proofs.run.Given as goal
use Rattle.rehearsing.specs.Code.Events.{Rehearsing}

abbrev pub invariant-loop-task : goal.invariant-loop-task
invariant-loop-task l = Rehearsing l.t l.i l.track

abbrev pub decreases-loop-task : goal.decreases-loop-task
decreases-loop-task l = l.l - l.i
