use Rattle.std.proofs.Common.{ap, Err}
use mathlib.Core.Path.{◌≡◌, sym, ◌∙◌}
use native.Mathlib.Omega.{arith}
use borrow.Author.Rules.{rules}
use lib.ListN.{length}
use Rattle.maths.proofs.Results.{handed}
use Rattle.table.specs.Limits.{most_tasks}
use Rattle.ticking.proofs.TickCode.{judged-stays}
use Rattle.ticking.proofs.TickJudge.{few-tasks, no-task-above, judged-bad, judged-nine, judged-given, judged-none}
use Rattle.ticking.proofs.TickJudge.{sizes-bad, task-bad, rest-bad, cores-bad, passed}
use Rattle.ticking.proofs.TickLook.{Looked, looked-none, looked-on, looked-out, look-fewer}
use Rattle.ticking.proofs.judging.judge.Goals.{then-platform-look-via-then-platform-look}
use Rattle.ticking.proofs.judging.judge.Goals.{then-platform-look-via-else-platform-look+then-not-rest_is_zero}
use Rattle.ticking.proofs.judging.judge.Goals as goal

pub returns-then-is_err : goal.returns-then-is_err
returns-then-is_err c =
    let m = c.args.m.now in
    let R = c.args.report.released in
    let F = c.args.report.finished in
    let len : length m.table.rows ≡ most_tasks = c.full_lists.ensures.rows in
    rw (
      c.from.ensures,
      judged-bad m R F (sizes-bad m R F len _ c.check_sizes.ensures (sym c.is_err.ensures.value ∙ c.if-is_err.true)),
    )

pub loop-i-init : goal.loop-i-init
loop-i-init c = rw c.start-look.ensures (looked-none c.args.m.now _ _)

pub of-requires : goal.of-requires
of-requires c =
    let few = few-tasks c.args.m.now.table _ c.check_sizes.ensures
    (sym c.is_err.ensures.value ∙ c.if-is_err.false) in omega (arith, few)

pub with-requires : goal.with-requires
with-requires c =
    let few = few-tasks c.args.m.now.table _ c.check_sizes.ensures
    (sym c.is_err.ensures.value ∙ c.if-is_err.false) in
    look-fewer c.args.m.now _ _ c.loop-i.i _ c.loop-i.invariant (omega (arith, few))

pub returns-in_err-look : goal.returns-in_err-look
returns-in_err-look c =
    let m = c.args.m.now in
    let len : length m.table.rows ≡ most_tasks = c.full_lists.ensures.rows in
    let out = looked-out m _ _ c.loop-i.i c.loop-i.look c.loop-i.invariant _
    (rw c.of.ensures at c.in_err-look.ensures) in
    handed _ c.from_residual.ensures
    ∙ (ap Err (rw out.0)
    ∙ sym (judged-bad m _ _ (task-bad m _ _ len c.loop-i.i _ c.loop-i.invariant (search rules) out.1)))

pub loop-i-preserved : goal.loop-i-preserved
loop-i-preserved c =
    looked-on c.args.m.now _ _ c.loop-i.i c.loop-i.look c.loop-i.invariant _
    (rw c.of.ensures at c.in_ok-look.ensures)

pub rest_is_zero-requires : goal.rest_is_zero-requires
rest_is_zero-requires c =
    few-tasks c.args.m.now.table _ c.check_sizes.ensures (sym c.is_err.ensures.value ∙ c.if-is_err.false)

pub returns-then-platform-look : goal.returns-then-platform-look
returns-then-platform-look c =
    let m = c.args.m.now in
    let R = c.args.report.released in
    let F = c.args.report.finished in
    let len : length m.table.rows ≡ most_tasks = c.full_lists.ensures.rows in
    let at-end : c.loop-i.i ≡ m.table.n = omega arith in
    let seen : Looked m R F m.table.n c.loop-i.look = rw at-end at c.loop-i.invariant in
    elim c.then-platform-look.branch [
      | then-platform-look-via-then-platform-look w ↦
          rw (
            c.from-then-platform-look.ensures,
            judged-bad m R F (cores-bad m R F len _ seen w.if-platform-look.true),
          )
      | then-platform-look-via-else-platform-look+then-not-rest_is_zero w ↦
          rw (
            c.from-then-platform-look.ensures,
            judged-bad m R F (rest-bad m R F len (sym w.rest_is_zero.ensures ∙ w.if-not-rest_is_zero.true)),
          )
    ]

pub first_above-requires : goal.first_above-requires
first_above-requires c =
    few-tasks c.args.m.now.table _ c.check_sizes.ensures (sym c.is_err.ensures.value ∙ c.if-is_err.false)

pub returns-in-Some : goal.returns-in-Some
returns-in-Some c =
    let m = c.args.m.now in
    let R = c.args.report.released in
    let F = c.args.report.finished in
    let p = passed m R F c.full_lists.ensures.rows _ _ c.loop-i.invariant c.loop-i-test.false (search rules) _
    c.check_sizes.ensures (sym c.is_err.ensures.value ∙ c.if-is_err.false)
    (sym c.rest_is_zero.ensures ∙ c.if-not-rest_is_zero.false) c.if-platform-look.false in
    rw (c.new.ensures, judged-nine m R F p.good c.in-Some.k (sym c.first_above.ensures ∙ c.in-Some.is))

pub returns-in_err-look-2 : goal.returns-in_err-look-2
returns-in_err-look-2 c =
    let m = c.args.m.now in
    let R = c.args.report.released in
    let F = c.args.report.finished in
    let p = passed m R F c.full_lists.ensures.rows _ _ c.loop-i.invariant c.loop-i-test.false (search rules) _
    c.check_sizes.ensures (sym c.is_err.ensures.value ∙ c.if-is_err.false)
    (sym c.rest_is_zero.ensures ∙ c.if-not-rest_is_zero.false) c.if-platform-look.false in
    let none = no-task-above _ (λ x e. c.in_default.not-Some x (c.first_above.ensures ∙ e)) in
    handed _ c.from_residual-in_err-look-2.ensures
    ∙ sym (judged-given m R F p.good none _ p.seen _ c.in_err-look-2.was)

pub returns : goal.returns
returns c =
    let m = c.args.m.now in
    let R = c.args.report.released in
    let F = c.args.report.finished in
    let p = passed m R F c.full_lists.ensures.rows _ _ c.loop-i.invariant c.loop-i-test.false (search rules) _
    c.check_sizes.ensures (sym c.is_err.ensures.value ∙ c.if-is_err.false)
    (sym c.rest_is_zero.ensures ∙ c.if-not-rest_is_zero.false) c.if-platform-look.false in
    let none = no-task-above _ (λ x e. c.in_default.not-Some x (c.first_above.ensures ∙ e)) in
    sym (judged-stays m R F c.full_lists.ensures.rows
    (judged-none m R F p.good none _ p.seen _ c.in_ok-look-2.was) _ p.seen)
