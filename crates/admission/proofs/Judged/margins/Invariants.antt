use mathlib.Core.Path.{◌≡◌}
use Rattle.admission.specs.Test.{Amax}
use Rattle.admission.proofs.Laws.{margins_to}
use Rattle.admission.proofs.Judged.margins.Given as goal

abbrev pub invariant-loop-k : goal.invariant-loop-k
invariant-loop-k l = (l.most.0 ≡ Amax l.t l.k) × (l.margins ≡ margins_to l.t l.k)
