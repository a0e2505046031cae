use mathlib.Core.Path.{◌∙◌, ap}
use Rattle.gorsetumble.proofs.FromTexts.{left, texts-left}
use Rattle.gorsetumble.proofs.texting.set_up.Goals as goal

pub returns-in_err-t-clause-machine : goal.returns-in_err-t-clause-machine
returns-in_err-t-clause-machine c = ap (left c.args.m.now) c.in_err-t.ensures
    ∙ texts-left c.args.m.now c.args.platform.now c.args.tasks.now

pub returns-in_err-set_up-clause-machine : goal.returns-in_err-set_up-clause-machine
returns-in_err-set_up-clause-machine c = c.set_up.ensures.machine ∙ ap (left c.args.m.now) c.in_ok-t.ensures
    ∙ texts-left c.args.m.now c.args.platform.now c.args.tasks.now

pub returns-clause-machine : goal.returns-clause-machine
returns-clause-machine c = c.set_up.ensures.machine ∙ ap (left c.args.m.now) c.in_ok-t.ensures
    ∙ texts-left c.args.m.now c.args.platform.now c.args.tasks.now
