use Rattle.std.proofs.Common.{rules}
use Rattle.writers.proofs.Walks.{walk_head, walk_halt, walk_more, walk_stop, walk_end}
use Rattle.shares.proofs.Rows.{pairs_more, pairs_end, pairs_split}
use Rattle.shares.proofs.PairsText.put.Goals as goal

pub returns-in_err-word : goal.returns-in_err-word
returns-in_err-word g c =
    let comes = pairs_split c.args.self.now.table.now in
    walk_halt g.met.S.Sink.laws _ _ comes c.in_err-word.ensures.took c.from_residual.ensures

pub loop-k-init : goal.loop-k-init
loop-k-init g c =
    let comes = pairs_split c.args.self.now.table.now in
    walk_head g.met.S.Sink.laws _ _ comes c.in_ok-word.ensures.took

pub returns-in_ok-word : goal.returns-in_ok-word
returns-in_ok-word g c =
    walk_end g.met.S.Sink.laws c.loop-k.invariant (pairs_end c.args.self.now.table.now _ (search rules))

pub returns-in_err-put_rows : goal.returns-in_err-put_rows
returns-in_err-put_rows g c =
    let comes = pairs_more c.args.self.now.table.now c.loop-k.k (search rules) (search rules) in
    walk_stop g.met.S.Sink.laws c.loop-k.invariant _ _ comes c.in_err-put_rows.ensures
    c.from_residual-in_err-put_rows.ensures

pub loop-k-preserved : goal.loop-k-preserved
loop-k-preserved g c =
    let comes = pairs_more c.args.self.now.table.now c.loop-k.k (search rules) (search rules) in
    walk_more g.met.S.Sink.laws c.loop-k.invariant _ _ comes c.in_ok-put_rows.ensures

pub returns-in_ok-put_rows : goal.returns-in_ok-put_rows
returns-in_ok-put_rows g c =
    let comes = pairs_more c.args.self.now.table.now c.loop-k.k (search rules) (search rules) in
    let last = walk_more g.met.S.Sink.laws c.loop-k.invariant _ _ comes c.in_ok-put_rows.ensures in
    walk_end g.met.S.Sink.laws last (pairs_end c.args.self.now.table.now _ (search rules))
