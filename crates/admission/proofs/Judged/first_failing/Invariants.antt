use Prim.Native.Nat.{◌<◌}
use mathlib.Core.Path.{◌≡◌}
use mathlib.Core.Bool.{not}
use Rattle.maths.specs.Tasks.{lowest}
use Rattle.admission.specs.Test.{Amax, passes}
use Rattle.admission.proofs.Turns.{loaded}
use Rattle.admission.proofs.Judged.first_failing.Given as goal

abbrev pub invariant-loop-task : goal.invariant-loop-task
invariant-loop-task l = (l.load ≡ loaded l.x l.t l.task-index) × (0 < l.task-index → l.load < l.limit)

abbrev pub invariant-loop-k : goal.invariant-loop-k
invariant-loop-k l = (l.most.0 ≡ Amax l.t l.k) × (lowest l.k (λ j. not (passes l.t j)) ≡ 0)
