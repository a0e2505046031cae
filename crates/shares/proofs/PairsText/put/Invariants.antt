-- The loop's invariant: the rows of task k and on are left.
use Rattle.writers.proofs.Walks.{Walk}
use Rattle.shares.specs.Explain.{pairs_text}
use Rattle.shares.proofs.Rows.{pairs_from}
use Rattle.shares.proofs.PairsText.put.Given as goal

abbrev pub invariant-loop-k : goal.invariant-loop-k
invariant-loop-k g l =
    let t = l.self.table.now in
    Walk g.S.Sink.room g.S.Sink.put l.fn.sink (pairs_text t) l.sink (pairs_from t l.k)
