use Rattle.std.proofs.Common.{suc, take}
use Rattle.table.specs.Limits.{most_tasks}
use Rattle.writers.specs.Outputs.{margin_lines, margins_text}
use Rattle.writers.proofs.Walks.{Walk}
use Rattle.writers.proofs.MarginsText.put.Given as goal

abbrev pub invariant-loop-i : goal.invariant-loop-i
invariant-loop-i g l = let i = l.i-iterator in
    Walk g.S.Sink.room g.S.Sink.put l.fn.sink (margins_text most_tasks l.fn.self.0.now) l.sink
    (margin_lines (suc i.count) (take i.iter.n i.iter.iter.rest.now))
