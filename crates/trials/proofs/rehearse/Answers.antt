use Rattle.trials.proofs.Answers.{tried-few}
use Rattle.trials.proofs.rehearse.Goals as goal

pub invariant_of-write : goal.invariant_of-write
invariant_of-write c = record { few = tried-few _ _ _ _ c.in-Ok.ensures }
