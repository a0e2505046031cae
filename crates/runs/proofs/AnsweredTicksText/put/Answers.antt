use native.Mathlib.Omega.{arith}
use Rattle.writers.proofs.Walks.{walk_head, walk_halt, walk_more, walk_stop, walk_end}
use Rattle.runs.specs.Code.Runs.{ticks_in}
use Rattle.runs.proofs.Runs.{run_split, going_start, going_on, going_end}
use Rattle.runs.proofs.AnsweredTicksText.put.Goals as goal

pub returns-in_err-word : goal.returns-in_err-word
returns-in_err-word g c =
    let self = c.args.self.now in
    let comes = run_split self.machine (ticks_in self.text.now) in
    walk_halt g.met.S.Sink.laws _ _ comes c.in_err-word.ensures.took c.from_residual.ensures

pub loop-init : goal.loop-init
loop-init g c =
    let self = c.args.self.now in
    let comes = run_split self.machine (ticks_in self.text.now) in (
      ticks_in self.text.now,
      going_start self.text.now self.count self.machine self.counted,
      walk_head g.met.S.Sink.laws _ _ comes c.in_ok-word.ensures.took,
    )

pub on-requires : goal.on-requires
on-requires g c =
    let few = c.loop.invariant.1.few in
    omega arith

pub returns-in_err-put_row : goal.returns-in_err-put_row
returns-in_err-put_row g c =
    let self = c.args.self.now in
    let on = going_on self.text.now self.count c.loop.invariant.1 c.loop-test.true _ _
    c.on.ensures.run c.on.ensures.row in
    walk_stop g.met.S.Sink.laws c.loop.invariant.2 _ _ on.comes c.in_err-put_row.ensures
    c.from_residual-in_err-put_row.ensures

pub loop-preserved : goal.loop-preserved
loop-preserved g c =
    let self = c.args.self.now in
    let on = going_on self.text.now self.count c.loop.invariant.1 c.loop-test.true _ _
    c.on.ensures.run c.on.ensures.row in
    (on.more, on.going, walk_more g.met.S.Sink.laws c.loop.invariant.2 _ _ on.comes c.in_ok-put_row.ensures)

pub returns : goal.returns
returns g c =
    let self = c.args.self.now in
    let end = going_end self.text.now self.count c.loop.invariant.1 c.loop-test.false in
    walk_end g.met.S.Sink.laws c.loop.invariant.2 end
