use Rattle.std.proofs.Common.{Err}
use mathlib.Core.Path.{sym, ap, ◌∙◌}
use native.Mathlib.Omega.{arith}
use Rattle.maths.proofs.Results.{handed}
use Rattle.forms.specs.Forms.{platform_form}
use Rattle.readers.specs.Inputs.{platform_read}
use Rattle.readers.proofs.Rows.{row-narrow}
use Rattle.readers.proofs.Texts.{head-bad}
use Rattle.readers.proofs.Platforms.{cut-row, second-row, one-row}
use Rattle.readers.proofs.read_platform.Goals as goal

pub returns-in_err-at : goal.returns-in_err-at
returns-in_err-at c =
    handed _ c.from_residual.ensures
    ∙ sym (ap platform_read (head-bad platform_form c.args.s.now _ c.in_err-at.ensures))

pub returns-in_err-row : goal.returns-in_err-row
returns-in_err-row c =
    handed _ c.from_residual-in_err-row.ensures
    ∙ sym (ap platform_read (cut-row c.args.s.now _ c.in_ok-at.ensures _ c.in_err-row.ensures))

pub returns-then-row-s : goal.returns-then-row-s
returns-then-row-s c =
    ap Err c.from.ensures
    ∙ sym (ap platform_read (second-row c.args.s.now _ c.in_ok-at.ensures _ c.in_ok-row.ensures c.if-row-s.true))

pub narrow-requires : goal.narrow-requires
narrow-requires c = (omega arith, (omega arith, row-narrow c.args.s.now 2 c.in_ok-at.at _ c.in_ok-row.ensures))

pub returns : goal.returns
returns c =
    rw (c.platform_of.ensures, c.narrow.ensures)
    (sym (one-row c.args.s.now _ c.in_ok-at.ensures _ c.in_ok-row.ensures c.if-row-s.false))
