use Rattle.std.proofs.Common.{take, map}
use Rattle.forms.specs.Forms.{lines}
use Rattle.writers.specs.Outputs.{task_row, tasks_text}
use Rattle.writers.proofs.Walks.{Walk}
use Rattle.writers.proofs.TableText.put.Given as goal

abbrev pub invariant-loop-task : goal.invariant-loop-task
invariant-loop-task g l = let i = l.task-iterator in
    Walk g.S.Sink.room g.S.Sink.put l.fn.sink (tasks_text l.fn.self) l.sink
    (lines (map task_row (take i.n i.iter.rest.now)))
