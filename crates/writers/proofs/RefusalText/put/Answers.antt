use Rattle.writers.specs.Outputs.{refused_row}
use Rattle.writers.proofs.Walks.{walk_head, walk_halt, walk_last}
use Rattle.writers.proofs.Wholes.{one-listing}
use Rattle.writers.proofs.RefusalText.put.Goals as goal

pub returns-in_err-word : goal.returns-in_err-word
returns-in_err-word g c =
    walk_halt g.met.S.Sink.laws _ _ (one-listing "refused,row" _) c.in_err-word.ensures.took c.from_residual.ensures

pub returns : goal.returns
returns g c =
    let laws = g.met.S.Sink.laws in
    let first =
    walk_head laws _ _ (one-listing "refused,row" (refused_row c.args.self.now)) c.in_ok-word.ensures.took in
    walk_last laws first (rw c.from.ensures at c.put_row.ensures)
