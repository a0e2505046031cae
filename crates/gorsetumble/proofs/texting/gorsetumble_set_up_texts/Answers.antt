use mathlib.Core.Path.{◌∙◌, ap}
use Rattle.gorsetumble.proofs.FromTexts.{said, texts-told}
use Rattle.gorsetumble.proofs.texting.gorsetumble_set_up_texts.Goals as goal

pub returns-in-Ok : goal.returns-in-Ok
returns-in-Ok c = (
  ap said c.in-Ok.ensures.answer ∙ texts-told c.args.m.now c.args.platform.now c.args.tasks.now,
  c.in-Ok.ensures.machine,
)

pub returns-in-Err : goal.returns-in-Err
returns-in-Err c = (
  c.into.ensures ∙ ap said c.in-Err.ensures.answer
      ∙ texts-told c.args.m.now c.args.platform.now c.args.tasks.now,
  c.in-Err.ensures.machine,
)
