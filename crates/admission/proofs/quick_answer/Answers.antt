use mathlib.Core.Path.{◌∙◌}
use Rattle.table.specs.Refused.{refusal}
use Rattle.admission.proofs.Found.{none_at, value-answered, refused_of, quick_refused_is, quick_is}
use Rattle.admission.proofs.quick_answer.Goals as goal

pub returns-in-Ok : goal.returns-in-Ok
returns-in-Ok c =
    let given = value-answered (refusal c.args.t.now) _ _ c.in-Ok.ensures in
    c.judged.ensures ∙ rw given.0 (quick_is c.args.t.now (none_at c.args.t.now given.1))

pub returns-in-Err : goal.returns-in-Err
returns-in-Err c = c.refused.ensures ∙ quick_refused_is (refused_of c.args.t.now _ _ c.in-Err.ensures)
