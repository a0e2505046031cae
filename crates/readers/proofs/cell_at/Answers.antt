use mathlib.Core.Path.{sym, ap, ◌∙◌}
use Rattle.maths.proofs.Results.{handed}
use Rattle.readers.specs.Places.{word_at}
use Rattle.readers.proofs.Rows.{cell-none, cell-cut, cell-full}
use Rattle.readers.proofs.cell_at.Goals as goal

pub returns-in_default : goal.returns-in_default
returns-in_default c = sym (cell-none c.args.most c.args.s.now c.args.at _ (sym c.in_default.ensures))

pub returns-in_err-word_at : goal.returns-in_err-word_at
returns-in_err-word_at c =
    handed _ c.from_residual.ensures
    ∙ cell-cut c.args.most c.args.s.now c.args.at _ _ c.in-Some.ensures _
    (c.in_err-word_at.ensures ∙ ap (word_at c.args.s.now c.in-Some.x.next) c.ending.ensures)

pub returns : goal.returns
returns c =
    cell-full c.args.most c.args.s.now c.args.at _ _ c.in-Some.ensures _
    (c.in_ok-word_at.ensures ∙ ap (word_at c.args.s.now c.in-Some.x.next) c.ending.ensures)
