use mathlib.Core.Path.{◌≡◌}
use Rattle.admission.specs.Test.{Amax}
use Rattle.admission.proofs.amax.Given as goal

abbrev pub invariant-loop-task : goal.invariant-loop-task
invariant-loop-task l = l.most.0 ≡ Amax l.t l.task-index
