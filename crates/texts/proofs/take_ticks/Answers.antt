use mathlib.Core.Path.{refl}
use Rattle.maths.proofs.Results.{handed}
use Rattle.forms.specs.Forms.{ticks_form}
use Rattle.readers.specs.Inputs.{ticks_read}
use Rattle.texts.proofs.Given.{taken_not, taken-read}
use Rattle.texts.proofs.take_ticks.Goals as goal

pub returns-in_err-take : goal.returns-in_err-take
returns-in_err-take c =
    rw (handed _ c.from_residual.ensures) (taken_not ticks_form _ _ c.in_err-take.ensures ticks_read refl)

pub returns : goal.returns
returns c = rw (← taken-read ticks_form _ _ c.in_ok-take.ensures) c.read_ticks.ensures
