use Rattle.writers.proofs.Walks.{walk_head, walk_halt, walk_more, walk_stop, walk_end}
use Rattle.trials.proofs.Trials.{trial_split, trial_more, trial_end}
use Rattle.trials.proofs.TrialText.put.Goals as goal

pub returns-in_err-word : goal.returns-in_err-word
returns-in_err-word g c =
    let self = c.args.self.now in
    walk_halt g.met.S.Sink.laws _ _ (trial_split self.n self.rehearsal) c.in_err-word.ensures.took
    c.from_residual.ensures

pub loop-i-init : goal.loop-i-init
loop-i-init g c =
    let self = c.args.self.now in
    walk_head g.met.S.Sink.laws _ _ (trial_split self.n self.rehearsal) c.in_ok-word.ensures.took

pub returns-in_err-put_row : goal.returns-in_err-put_row
returns-in_err-put_row g c =
    let self = c.args.self.now in
    let comes = trial_more self.n self.rehearsal c.loop-i.i c.loop-i-test.true _ c.row.ensures in
    walk_stop g.met.S.Sink.laws c.loop-i.invariant _ _ comes c.in_err-put_row.ensures
    c.from_residual-in_err-put_row.ensures

pub loop-i-preserved : goal.loop-i-preserved
loop-i-preserved g c =
    let self = c.args.self.now in
    let comes = trial_more self.n self.rehearsal c.loop-i.i c.loop-i-test.true _ c.row.ensures in
    walk_more g.met.S.Sink.laws c.loop-i.invariant _ _ comes c.in_ok-put_row.ensures

pub returns : goal.returns
returns g c =
    let self = c.args.self.now in
    walk_end g.met.S.Sink.laws c.loop-i.invariant (trial_end self.n self.rehearsal c.loop-i.i c.loop-i-test.false)
