use Rattle.writers.proofs.Cells.{Spelling}
use Rattle.writers.proofs.Cell.push_digits.Given as goal

abbrev pub invariant-loop-rest : goal.invariant-loop-rest
invariant-loop-rest l = Spelling l.initial.self l.n l.rest l.self.bytes l.at

abbrev pub decreases-loop-rest : goal.decreases-loop-rest
decreases-loop-rest l = l.rest
