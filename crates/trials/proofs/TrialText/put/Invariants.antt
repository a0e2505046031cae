-- The loop's invariant: the rows of task i + 1 and on are left.
use Rattle.writers.proofs.Walks.{Walk}
use Rattle.trials.specs.Rehearse.{trial_text}
use Rattle.trials.proofs.Trials.{trial_from}
use Rattle.trials.proofs.TrialText.put.Given as goal

abbrev pub invariant-loop-i : goal.invariant-loop-i
invariant-loop-i g l =
    let self = l.self in
    Walk g.S.Sink.room g.S.Sink.put l.fn.sink (trial_text self.n self.rehearsal) l.sink
    (trial_from self.n self.rehearsal l.i)
