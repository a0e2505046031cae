use mathlib.Core.Path.{◌≡◌, sym, ◌∙◌, ap}
use native.Mathlib.Omega.{arith}
use borrow.Author.Rules.{rules}
use lib.ListN.{length}
use Prim.Native.Nat.{◌<◌}
use Rattle.table.specs.Limits.{most_tasks}
use Rattle.machine.specs.declared.Machine.{Machine}
use Rattle.ticking.specs.Code.Passes.{walk_start, turn_of}
use Rattle.ticking.proofs.TickCode.{judged-moves, judged-busy, machine-none, turn-is, machine-more, turn-period}
use Rattle.ticking.proofs.TickCode.{turns-more}
use Rattle.ticking.proofs.TickSteps.{moved-is, started_so, late_so}
use Rattle.ticking.proofs.TickWalk.{walk_none}
use Rattle.ticking.proofs.moving.move_jobs.Goals as goal

pub loop-i-init : goal.loop-i-init
loop-i-init c =
    let m = c.args.m.now in
    let len : length m.jobs ≡ most_tasks = c.full_lists.ensures.jobs in
    record {
      walked = c.start-walk.ensures
          ∙ (ap (walk_start m.table.platform) (judged-busy m _ _ _ c.requires) ∙ walk_none m _ _ _);
      stored = machine-none m _ _ len;
    }

pub of-requires : goal.of-requires
of-requires c =
    let m = c.args.m.now in
    let rows : length m.table.rows ≡ most_tasks = c.full_lists.ensures.rows in
    let a = judged-moves m _ _ rows _ c.requires in
    omega (arith, a.good.table.sizes.few)

pub with-walk-requires : goal.with-walk-requires
with-walk-requires c =
    let m = c.args.m.now in
    let rows : length m.table.rows ≡ most_tasks = c.full_lists.ensures.rows in
    let a = judged-moves m _ _ rows _ c.requires in
    let few : c.loop-i.i < most_tasks = omega (arith, a.good.table.sizes.few) in
    let turn = c.of.ensures
    ∙ (ap (λ (z : Machine). turn_of z c.loop-i.i) c.loop-i.invariant.stored
    ∙ turn-is m c.args.report.released c.args.report.finished c.loop-i.i few) in
    rw turn (turn-period m c.args.report.released c.args.report.finished c.loop-i.i few (search rules) a)

pub offset_bounds-m-i : goal.offset_bounds-m-i
offset_bounds-m-i c =
    let m = c.args.m.now in
    let rows : length m.table.rows ≡ most_tasks = c.full_lists.ensures.rows in
    let a = judged-moves m _ _ rows _ c.requires in
    omega (arith, a.good.table.sizes.few)

pub bounds-m-i : goal.bounds-m-i
bounds-m-i c =
    let m = c.args.m.now in
    let rows : length m.table.rows ≡ most_tasks = c.full_lists.ensures.rows in
    let a = judged-moves m _ _ rows _ c.requires in
    omega (arith, a.good.table.sizes.few)

pub loop-i-preserved : goal.loop-i-preserved
loop-i-preserved c =
    let m = c.args.m.now in
    let R = c.args.report.released in
    let F = c.args.report.finished in
    let rows : length m.table.rows ≡ most_tasks = c.full_lists.ensures.rows in
    let few : c.loop-i.i < most_tasks =
    omega (arith, (judged-moves m _ _ rows _ c.requires).good.table.sizes.few) in
    let turn = c.of.ensures ∙ ap (λ (z : Machine). turn_of z c.loop-i.i) c.loop-i.invariant.stored in
    let next = turns-more m R F c.loop-i.i few _ turn _ c.loop-i.invariant.walked _ c.with-walk.ensures in
    record {
      walked = next;
      stored = rw c.loop-i.invariant.stored (machine-more m R F c.loop-i.i few _ next);
    }

pub returns-clause-late : goal.returns-clause-late
returns-clause-late c =
    let m = c.args.m.now in
    let rows : length m.table.rows ≡ most_tasks = c.full_lists.ensures.rows in
    let at-end : c.loop-i.i ≡ m.table.n = omega arith in
    rw (c.loop-i.invariant.walked, at-end)
    (sym (late_so m _ _ (judged-moves m _ _ rows _ c.requires)))

pub returns-clause-started : goal.returns-clause-started
returns-clause-started c =
    let m = c.args.m.now in
    let rows : length m.table.rows ≡ most_tasks = c.full_lists.ensures.rows in
    let at-end : c.loop-i.i ≡ m.table.n = omega arith in
    rw (c.loop-i.invariant.walked, at-end)
    (sym (started_so m _ _ (judged-moves m _ _ rows _ c.requires)))

pub returns-clause-machine : goal.returns-clause-machine
returns-clause-machine c =
    let m = c.args.m.now in
    let rows : length m.table.rows ≡ most_tasks = c.full_lists.ensures.rows in
    let at-end : c.loop-i.i ≡ m.table.n = omega arith in
    rw (c.loop-i.invariant.stored, at-end)
    (sym (moved-is m _ _ (judged-moves m _ _ rows _ c.requires)))
