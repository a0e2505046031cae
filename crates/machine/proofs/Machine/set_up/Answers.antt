use mathlib.Core.Path.{refl}
use Rattle.table.specs.Refused.{refusal}
use Rattle.machine.specs.Fresh.{set_up}
use Rattle.machine.proofs.Outcomes.{no-refusal, some-refusal}
use Rattle.machine.proofs.Machine.set_up.Goals as goal

pub returns-in_err-check-clause-machine : goal.returns-in_err-check-clause-machine
unfolding set_up
returns-in_err-check-clause-machine c =
    rw (some-refusal (refusal c.args.t.now) tt _ c.in_err-check.ensures.answer) refl

pub returns-clause-machine : goal.returns-clause-machine
unfolding set_up
returns-clause-machine c = rw (no-refusal (refusal c.args.t.now) tt _ c.in_ok-check.ensures.answer) c.fresh.ensures
