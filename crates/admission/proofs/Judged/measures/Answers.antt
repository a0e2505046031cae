use native.Mathlib.Omega.{arith}
use Rattle.admission.proofs.Bounds.{Amax-le}
use Rattle.admission.proofs.Judged.measures.Goals as goal

pub overflow_sub-result : goal.overflow_sub-result
overflow_sub-result c = rw c.requires.1 (Amax-le c.args.self.now.good _ (omega (arith, c.requires.0)))
