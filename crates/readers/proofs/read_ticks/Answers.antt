use mathlib.Core.Path.{refl, sym, ap, ◌∙◌}
use native.Mathlib.Omega.{arith}
use Rattle.maths.proofs.Results.{handed}
use Rattle.forms.specs.Forms.{ticks_form}
use Rattle.readers.specs.Inputs.{ticks_read}
use Rattle.readers.proofs.Texts.{head-bad, line-start, line-end, line-bad, line_row, line-next}
use Rattle.readers.proofs.read_ticks.Goals as goal

pub returns-in_err-at : goal.returns-in_err-at
returns-in_err-at c =
    handed _ c.from_residual.ensures ∙ sym (ap ticks_read (head-bad ticks_form c.args.s.now _ c.in_err-at.ensures))

pub loop-at-init : goal.loop-at-init
loop-at-init c = record { rows = _; line = line-start ticks_form refl c.args.s.now _ c.in_ok-at.ensures }

pub returns-in_err-at-2 : goal.returns-in_err-at-2
returns-in_err-at-2 c =
    handed _ c.from_residual-in_err-at-2.ensures
    ∙ sym (ap ticks_read (line-bad ticks_form refl _ _ _ _ c.loop-at.invariant.line c.loop-at-test.true _
    c.in_err-at-2.ensures))

pub loop-at-smaller : goal.loop-at-smaller
loop-at-smaller c =
    let row =
    line_row ticks_form refl _ _ _ _ c.loop-at.invariant.line c.loop-at-test.true _ c.in_ok-at-2.ensures in
    let far = row.far in
    omega arith

pub loop-at-preserved : goal.loop-at-preserved
loop-at-preserved c =
    record {
      rows = _;
      line = line-next ticks_form refl _ _ _ _ c.loop-at.invariant.line c.loop-at-test.true _ c.in_ok-at-2.ensures;
    }

pub returns : goal.returns
returns c =
    let line = c.loop-at.invariant.line in
    sym (ap ticks_read (line-end ticks_form refl _ _ _ _ line c.loop-at-test.false) ∙ rw line.count refl)
