use Rattle.std.proofs.Common.{ap, refl, ◌∙◌, Err}
use Rattle.table.proofs.Laws.{outcome-for, row-good, row-bad, rows_end}
use Rattle.table.proofs.Table.check_rows.Goals as goal

pub returns-in-Err-clause-answer : goal.returns-in-Err-clause-answer
returns-in-Err-clause-answer c =
    rw (c.loop-i.invariant, row-bad _ _ _ c.loop-i-test.true _ c.in-Err.ensures, outcome-for) (ap Err c.new.ensures)

pub loop-i-preserved : goal.loop-i-preserved
loop-i-preserved c = c.loop-i.invariant ∙ row-good _ _ _ c.loop-i-test.true c.in_default.ensures

pub returns-clause-answer : goal.returns-clause-answer
returns-clause-answer c = rw (c.loop-i.invariant, rows_end _ _ _ _ c.loop-i-test.false) refl
