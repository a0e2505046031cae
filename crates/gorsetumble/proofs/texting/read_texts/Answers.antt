use mathlib.Core.Path.{◌∙◌, sym, ap}
use Rattle.std.specs.Result.{result_map_both}
use Rattle.maths.proofs.Results.{handed}
use Rattle.forms.specs.Forms.{platform_form, tasks_form}
use Rattle.forms.specs.Reader.{read}
use Rattle.gorsetumble.specs.declared.texting.Failure.TheVariants.{Platform, Tasks}
use Rattle.gorsetumble.specs.Code.TextsRead.{texts_read}
use Rattle.gorsetumble.proofs.FromTexts.{mapped, platform-bad, platform-good}
use Rattle.gorsetumble.proofs.texting.read_texts.Goals as goal

pub returns-in_err-held : goal.returns-in_err-held
unfolding texts_read
returns-in_err-held c =
    let found = mapped Platform c.read_platform.result c.map_err.result c.map_err.ensures.cases
    ∙ ap (result_map_both (λ p. p) Platform) c.read_platform.ensures in
    handed _ c.from_residual.ensures
    ∙ platform-bad (read platform_form c.args.platform.now) (read tasks_form c.args.tasks.now) _
    (sym c.in_err-held.was ∙ found)

pub returns : goal.returns
unfolding texts_read
returns c =
    let found = mapped Platform c.read_platform.result c.map_err.result c.map_err.ensures.cases
    ∙ ap (result_map_both (λ p. p) Platform) c.read_platform.ensures in
    mapped Tasks c.read_tasks.result c.map_err-2.result c.map_err-2.ensures.cases
    ∙ ap (result_map_both (λ t. t) Tasks) c.read_tasks.ensures
    ∙ platform-good (read platform_form c.args.platform.now) (read tasks_form c.args.tasks.now) _
    (sym c.in_ok-held.was ∙ found)
