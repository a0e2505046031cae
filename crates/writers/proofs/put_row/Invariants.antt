use Rattle.std.proofs.Common.{drop}
use Rattle.forms.specs.Forms.{line}
use Rattle.writers.proofs.Walks.{Walk}
use Rattle.writers.proofs.put_row.Given as goal

abbrev pub invariant-loop-i : goal.invariant-loop-i
invariant-loop-i g l =
    Walk g.S.Sink.room g.S.Sink.put l.initial.sink (line l.numbers) l.sink (line (drop l.i l.numbers))
