use Rattle.maths.proofs.Results.{handed}
use Rattle.table.proofs.Laws.{outcome-for, sizes-pass, sizes-fail}
use Rattle.table.proofs.Table.check.Goals as goal

pub returns-in_err-check_sizes-clause-answer : goal.returns-in_err-check_sizes-clause-answer
returns-in_err-check_sizes-clause-answer c =
    let t = c.args.self.now in
    rw (sizes-fail t _ c.in_err-check_sizes.ensures, outcome-for) (handed _ c.from_residual.ensures)

pub returns-clause-answer : goal.returns-clause-answer
returns-clause-answer c = rw (sizes-pass c.args.self.now c.in_ok-check_sizes.ensures) c.check_rows.ensures.answer
