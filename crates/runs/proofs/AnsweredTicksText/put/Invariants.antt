-- The loop's invariant: the lines of the ticks to come are left.
use Prim.Native.Nat.{ℕ}
use mathlib.Core.List.{List}
use Rattle.writers.proofs.Walks.{Walk}
use Rattle.runs.specs.Ticks.{run_text}
use Rattle.runs.specs.Code.Runs.{ticks_in}
use Rattle.runs.proofs.Runs.{to_come, Going}
use Rattle.runs.proofs.AnsweredTicksText.put.Given as goal

abbrev pub invariant-loop : goal.invariant-loop
invariant-loop g l =
    (rows : List (List ℕ)) × Going l.self.text.now l.self.count l.counter l.run rows
    × Walk g.S.Sink.room g.S.Sink.put l.fn.sink (run_text l.self.machine (ticks_in l.self.text.now)) l.sink
    (to_come l.run rows)
