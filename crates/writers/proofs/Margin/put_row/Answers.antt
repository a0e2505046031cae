use Rattle.std.proofs.Common.{refl}
use Rattle.writers.specs.Signed.{margin_row}
use Rattle.writers.proofs.Walks.{walk_head, walk_halt, walk_more, walk_stop, walk_last}
use Rattle.writers.proofs.Margin.put_row.Goals as goal

pub returns-in_err-put_cell : goal.returns-in_err-put_cell
unfolding margin_row
returns-in_err-put_cell g c = walk_halt g.met.S.Sink.laws _ _ refl c.in_err-put_cell.ensures c.from_residual.ensures

pub returns-in_err-word : goal.returns-in_err-word
unfolding margin_row
returns-in_err-word g c =
    let laws = g.met.S.Sink.laws in
    let task = walk_head laws _ _ refl c.in_ok-put_cell.ensures in
    walk_stop laws task _ _ refl (rw c.sign.ensures at c.in_err-word.ensures.took) c.from_residual-in_err-word.ensures

pub returns-in_err-put_cell-2 : goal.returns-in_err-put_cell-2
unfolding margin_row
returns-in_err-put_cell-2 g c =
    let laws = g.met.S.Sink.laws in
    let task = walk_head laws _ _ refl c.in_ok-put_cell.ensures in
    let below = walk_more laws task _ _ refl (rw c.sign.ensures at c.in_ok-word.ensures.took) in
    walk_stop laws below _ _ refl c.in_err-put_cell-2.ensures c.from_residual-in_err-put_cell-2.ensures

pub returns : goal.returns
unfolding margin_row
returns g c =
    let laws = g.met.S.Sink.laws in
    let task = walk_head laws _ _ refl c.in_ok-put_cell.ensures in
    let below = walk_more laws task _ _ refl (rw c.sign.ensures at c.in_ok-word.ensures.took) in
    let size = walk_more laws below _ _ refl c.in_ok-put_cell-2.ensures in
    walk_last laws size c.put_cell-3.ensures
