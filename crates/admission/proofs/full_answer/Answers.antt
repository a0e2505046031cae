use Prim.Native.Nat.{suc}
use mathlib.Core.Path.{◌≡◌, ◌∙◌}
use native.Mathlib.Omega.{arith}
use Rattle.std.specs.Prelude.{option_map}
use Rattle.table.specs.Refused.{refusal}
use Rattle.admission.proofs.Found.{none_at, value-answered, refused_of, full-refused-is, full_is, many, place-is}
use borrow.Author.Rules.{rules}
use Rattle.admission.proofs.full_answer.Goals as goal

pub slice_bounds-margins-end : goal.slice_bounds-margins-end
slice_bounds-margins-end c =
    let t = c.args.t.now in
    let given = value-answered (refusal t) _ _ c.in-Ok.ensures.margins in
    rw given.0 (omega (arith, c.in-Ok.ensures.few, many t c.in-Ok.ensures.few))

pub returns-in-Ok : goal.returns-in-Ok
returns-in-Ok c =
    let t = c.args.t.now in
    let given = value-answered (refusal t) _ _ c.in-Ok.ensures.margins in
    let first : c.map-first.result ≡ option_map suc c.first_not_above_0.result = search rules in
    c.with.ensures ∙ rw (
      c.judged.ensures,
      first,
      c.first_not_above_0.ensures,
      given.0,
      place-is t c.in-Ok.ensures.few,
    ) (full_is t (none_at t given.1))

pub returns-in-Err : goal.returns-in-Err
returns-in-Err c =
    c.with-in-Err.ensures
    ∙ rw c.refused.ensures (full-refused-is (refused_of c.args.t.now _ _ c.in-Err.ensures.margins))
