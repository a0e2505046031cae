use mathlib.Core.Path.{refl}
use Rattle.maths.proofs.Results.{handed}
use Rattle.forms.specs.Forms.{tasks_form}
use Rattle.readers.specs.Inputs.{table_read}
use Rattle.texts.proofs.Given.{taken_not, taken-read}
use Rattle.texts.proofs.take_tasks.Goals as goal

pub returns-in_err-take : goal.returns-in_err-take
returns-in_err-take c =
    rw (handed _ c.from_residual.ensures)
    (taken_not tasks_form _ _ c.in_err-take.ensures (table_read c.args.platform) refl)

pub returns : goal.returns
returns c = rw (← taken-read tasks_form _ _ c.in_ok-take.ensures) c.read_tasks.ensures
