use Rattle.forms.specs.Forms.{lines}
use Rattle.writers.specs.Outputs.{tick_rows, reports_text}
use Rattle.writers.proofs.Walks.{Walk}
use Rattle.writers.proofs.TicksText.put.Given as goal

abbrev pub invariant-loop-r : goal.invariant-loop-r
invariant-loop-r g l = let i = l.r-iterator in
    Walk g.S.Sink.room g.S.Sink.put l.fn.sink (reports_text l.fn.self.released.now l.fn.self.finished.now) l.sink
    (lines (tick_rows i.a.rest.now i.b.rest.now))
