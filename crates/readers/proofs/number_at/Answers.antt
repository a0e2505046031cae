use Prim.Native.Nat.{◌+◌}
use mathlib.Core.Path.{◌≡◌, refl, sym, ◌∙◌}
use native.Mathlib.Omega.{arith}
use lib.ListN.{length, get_or}
use Rattle.readers.proofs.Places.{number_short, number-not, number-first, number-end, number-zero, number-stop}
use Rattle.readers.proofs.Places.{number_more, grown-above}
use Rattle.readers.proofs.number_at.Goals as goal

pub returns-then-s-at : goal.returns-then-s-at
returns-then-s-at c = sym (number_short _ _ _ c.if-s-at.true)

pub returns-in_err-value : goal.returns-in_err-value
returns-in_err-value c =
    c.from_residual.ensures ∙ sym (number-not c.args.most c.args.s.now c.args.at c.if-s-at.false c.in_err-value.ensures)

pub returns-then-value-eq0 : goal.returns-then-value-eq0
returns-then-value-eq0 c =
    let s = c.args.s.now in
    let zero : c.in_ok-value.value ≡ 0 = c.if-value-eq0.true in
    sym (number-first c.args.most s c.args.at c.if-s-at.false _ c.in_ok-value.ensures
    ∙ rw zero (number-zero c.args.most s (c.args.at + 1)))

pub loop-next-init : goal.loop-next-init
loop-next-init c =
    (omega arith, number-first c.args.most c.args.s.now c.args.at c.if-s-at.false _ c.in_ok-value.ensures)

pub returns-in_default : goal.returns-in_default
returns-in_default c =
    let loop = c.loop-next in
    sym (loop.invariant.1
    ∙ number-stop c.args.most c.args.s.now loop.next c.loop-next-test.true _ loop.invariant.0 c.in_default.ensures)

pub loop-next-preserved : goal.loop-next-preserved
loop-next-preserved c =
    let loop = c.loop-next in
    let s = c.args.s.now in
    let more = c.in-Some.ensures in (
      grown-above c.args.most loop.value (get_or s loop.next 0) loop.invariant.0 _ more,
      loop.invariant.1 ∙ number_more c.args.most s loop.next c.loop-next-test.true _ loop.invariant.0 _ more,
    )

pub returns : goal.returns
returns c =
    let s = c.args.s.now in
    let loop = c.loop-next in
    let at-end : loop.next ≡ length s = omega arith in
    sym (loop.invariant.1 ∙ number-end c.args.most s loop.next loop.value (omega arith) ∙ rw at-end refl)
