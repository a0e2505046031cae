-- The loop's invariant: the rows of task i and on are left.
use Rattle.writers.proofs.Walks.{Walk}
use Rattle.shares.specs.Code.Pairs.{task_text}
use Rattle.shares.proofs.Rows.{task_from}
use Rattle.shares.proofs.Pairs.put_rows.Given as goal

abbrev pub invariant-loop-i : goal.invariant-loop-i
invariant-loop-i g l =
    let t = l.self.table.now in
    Walk g.S.Sink.room g.S.Sink.put l.fn.sink (task_text t l.k) l.sink (task_from t l.k l.i)
