use Rattle.maths.proofs.Results.{handed}
use Rattle.trials.proofs.Answers.{tried-not, tried-told}
use Rattle.trials.proofs.tried_table.Goals as goal

pub returns-in_err-rehearsal : goal.returns-in_err-rehearsal
returns-in_err-rehearsal c =
    let residual = c.from_residual-in_err-rehearsal in
    rw (handed _ residual.ensures, ← c.in_ok-table.ensures) (tried-not _ _ c.in_err-rehearsal.ensures)

pub returns : goal.returns
returns c = rw (← c.in_ok-table.ensures) (tried-told _ _ c.in_ok-rehearsal.ensures)
