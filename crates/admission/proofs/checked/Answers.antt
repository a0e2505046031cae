use mathlib.Core.Path.{refl}
use Rattle.table.specs.Refused.{refusal}
use Rattle.table.proofs.Good.{good_of}
use Rattle.admission.proofs.Found.{none_at, value-answered}
use Rattle.admission.proofs.checked.Goals as goal

pub invariant_of-result : goal.invariant_of-result
invariant_of-result c =
    let t = c.args.t.now in
    let passes = c.in_ok-check.ensures in
    record { good = good_of t passes.rows (value-answered (refusal t) _ _ passes.answer).1 }

pub returns : goal.returns
returns c =
    let t = c.args.t.now in
    (refl, none_at t (value-answered (refusal t) _ _ c.in_ok-check.ensures.answer).1)
