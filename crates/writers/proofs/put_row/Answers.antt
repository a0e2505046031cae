use Rattle.std.proofs.Common.{refl}
use Rattle.writers.proofs.Rows.{line-more, line-none}
use Rattle.writers.proofs.Walks.{walk_start, walk_more, walk_stop, walk_end}
use Rattle.writers.proofs.put_row.Goals as goal

pub loop-i-init : goal.loop-i-init
loop-i-init g c = walk_start g.met.S.Sink.laws refl

pub returns-in_err-put_cell : goal.returns-in_err-put_cell
returns-in_err-put_cell g c =
    walk_stop g.met.S.Sink.laws c.loop-i.invariant _ _ (line-more _ _ c.loop-i-test.true) c.in_err-put_cell.ensures
    c.from_residual.ensures

pub loop-i-preserved : goal.loop-i-preserved
loop-i-preserved g c =
    walk_more g.met.S.Sink.laws c.loop-i.invariant _ _ (line-more _ _ c.loop-i-test.true) c.in_ok-put_cell.ensures

pub returns : goal.returns
returns g c = walk_end g.met.S.Sink.laws c.loop-i.invariant (line-none _ _ c.loop-i-test.false)
