use mathlib.Core.Path.{refl, sym, ap, ◌∙◌}
use native.Mathlib.Omega.{arith}
use Rattle.maths.proofs.Results.{handed}
use Rattle.forms.specs.Forms.{tasks_form}
use Rattle.readers.specs.Inputs.{table_read}
use Rattle.readers.proofs.Rows.{row-narrow}
use Rattle.readers.proofs.Texts.{head-bad}
use Rattle.readers.proofs.Tasks.{here-start, here_end, here-bad, here-far, here-kept, here-full}
use Rattle.readers.proofs.read_tasks.Goals.{then-table-lt-MOST, else-table-lt-MOST}
use Rattle.readers.proofs.read_tasks.Goals as goal

pub returns-in_err-at : goal.returns-in_err-at
returns-in_err-at c =
    handed _ c.from_residual.ensures
    ∙ sym (ap (table_read c.args.platform) (head-bad tasks_form c.args.s.now _ c.in_err-at.ensures))

pub loop-at-init : goal.loop-at-init
loop-at-init c = rw c.empty-table.ensures (refl, here-start c.args.s.now _ c.in_ok-at.ensures)

pub returns-in_err-row : goal.returns-in_err-row
returns-in_err-row c =
    handed _ c.from_residual-in_err-row.ensures
    ∙ sym (ap (table_read c.args.platform) (here-bad _ _ _ _ c.loop-at.invariant.1 c.loop-at-test.true _
    c.in_err-row.ensures))

pub narrow-requires : goal.narrow-requires
narrow-requires c = (omega arith, (omega arith, row-narrow c.args.s.now 4 c.loop-at.at _ c.in_ok-row.ensures))

pub loop-at-smaller : goal.loop-at-smaller
loop-at-smaller c =
    let far = here-far _ _ _ _ c.loop-at.invariant.1 c.loop-at-test.true _ c.in_ok-row.ensures in
    omega arith

pub loop-at-preserved : goal.loop-at-preserved
loop-at-preserved c =
    let here = c.loop-at.invariant.1 in
    let test = c.loop-at-test.true in
    elim c.if-table-lt-MOST.branch [
      | then-table-lt-MOST w ↦ rw (w.table-is, w.task_of.ensures, w.narrow.ensures)
          (c.loop-at.invariant.0, here-kept _ _ _ _ here test _ c.in_ok-row.ensures w.if-table-lt-MOST.true)
      | else-table-lt-MOST w ↦ rw w.table-is
          (c.loop-at.invariant.0, here-full _ _ _ _ here test _ c.in_ok-row.ensures w.if-table-lt-MOST.false)
    ]

pub returns : goal.returns
returns c =
    rw (← c.loop-at.invariant.0)
    (sym (here_end _ _ _ _ c.loop-at.invariant.1 c.loop-at.table.platform c.loop-at-test.false))
