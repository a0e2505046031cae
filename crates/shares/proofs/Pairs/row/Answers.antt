use Rattle.shares.proofs.Rows.{row_is}
use Rattle.shares.proofs.Pairs.row.Goals as goal

pub returns : goal.returns
returns c =
    let self = c.args.self.now in
    let r = c.requires in
    row_is self.table.now self.judged c.args.k c.args.i r.0 r.1 r.2 r.3 _ c.share_of-x.ensures
