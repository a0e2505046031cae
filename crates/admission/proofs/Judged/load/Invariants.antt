use mathlib.Core.Path.{◌≡◌}
use Rattle.admission.proofs.Turns.{loaded}
use Rattle.admission.proofs.Judged.load.Given as goal

abbrev pub invariant-loop-task : goal.invariant-loop-task
invariant-loop-task l = l.load ≡ loaded l.x l.self.table.now l.task-index
