use Rattle.std.proofs.Common.{refl, rules}
use Rattle.writers.proofs.Walks.{walk_start, walk_more, walk_stop, walk_end}
use Rattle.shares.proofs.Rows.{task_more, task_end}
use Rattle.shares.proofs.Pairs.put_rows.Goals as goal

pub loop-i-init : goal.loop-i-init
loop-i-init g c = walk_start g.met.S.Sink.laws refl

pub returns-in_err-put_row : goal.returns-in_err-put_row
returns-in_err-put_row g c =
    let comes = task_more c.args.self.now.table.now c.args.k c.loop-i.i (search rules) (search rules) in
    walk_stop g.met.S.Sink.laws c.loop-i.invariant _ _ comes (rw c.row.ensures at c.in_err-put_row.ensures)
    c.from_residual.ensures

pub loop-i-preserved : goal.loop-i-preserved
loop-i-preserved g c =
    let comes = task_more c.args.self.now.table.now c.args.k c.loop-i.i (search rules) (search rules) in
    walk_more g.met.S.Sink.laws c.loop-i.invariant _ _ comes (rw c.row.ensures at c.in_ok-put_row.ensures)

pub returns-in_ok-put_row : goal.returns-in_ok-put_row
returns-in_ok-put_row g c =
    let comes = task_more c.args.self.now.table.now c.args.k c.loop-i.i (search rules) (search rules) in
    let last = walk_more g.met.S.Sink.laws c.loop-i.invariant _ _ comes (rw c.row.ensures at c.in_ok-put_row.ensures) in
    walk_end g.met.S.Sink.laws last (task_end c.args.self.now.table.now c.args.k _ (search rules))
