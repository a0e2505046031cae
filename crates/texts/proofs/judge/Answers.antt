use mathlib.Core.Path.{refl}
use Rattle.maths.proofs.Results.{handed}
use Rattle.texts.specs.Admit.{admit_text}
use Rattle.texts.proofs.Answers.{judged-margins, judged-refused}
use Rattle.texts.proofs.judge.Goals as goal

pub returns-in_err-table : goal.returns-in_err-table
unfolding admit_text
returns-in_err-table c =
    rw (handed _ c.from_residual.ensures, ← c.in_err-table.ensures) refl

pub returns-in_err-margins : goal.returns-in_err-margins
unfolding admit_text
returns-in_err-margins c =
    rw (handed _ c.from_residual-in_err-margins.ensures, ← c.in_ok-table.ensures)
    (judged-refused _ _ c.in_err-margins.ensures.margins)

pub returns : goal.returns
unfolding admit_text
returns c = rw (← c.in_ok-table.ensures) (judged-margins _ _ c.in_ok-margins.ensures.margins)
