use Prim.Native.Nat.{suc, ◌+◌, ◌<◌, ◌≤◌}
use mathlib.Core.Path.{◌≡◌, sym, ◌∙◌}
use mathlib.Core.Bool.{not}
use native.Mathlib.Numerals.{add-one}
use native.Mathlib.Omega.{arith}
use Rattle.maths.proofs.Tasks.{lowest-zero, lowest-past, lowest-found, lowest-stays}
use Rattle.admission.specs.Test.{passes, load, limit}
use Rattle.admission.proofs.Found.{found-some}
use Rattle.admission.proofs.Bounds.{Amax-zero, Amax-suc}
use Rattle.admission.proofs.Laws.{Amax-more, passes-below, fails-reached}
use Rattle.admission.proofs.Turns.{Measured, loaded-none, loaded-more, loaded-small, loaded-grows}
use Rattle.admission.proofs.Turns.{loading_more, limit-is}
use Rattle.admission.proofs.Judged.first_failing.Goals as goal

pub loop-k-init : goal.loop-k-init
loop-k-init c = (sym (Amax-zero _), lowest-zero _)

pub measures-x-requires : goal.measures-x-requires
measures-x-requires c = (
  c.loop-k-test.true,
  c.largest-most.ensures ∙ rw c.loop-k.invariant.0 (sym (Amax-suc c.args.self.now.good c.loop-k.k)),
)

pub loop-task-init : goal.loop-task-init
loop-task-init c = (loaded-none c.measures-x.result c.args.self.now.table.now, λ z. omega arith)

pub overflow_add-load : goal.overflow_add-load
overflow_add-load c =
    let t = c.args.self.now.table.now in
    let x = c.measures-x.result in
    let tasks = c.first_tasks-task-items.ensures in
    let l : c.loop-task.task-index < t.n = omega (arith, tasks.many, c.loop-task-test.true) in
    let more = loaded-more x t c.loop-task.invariant.0 tasks.are l c.share-load.ensures in
    omega (arith, loaded-small x t c.args.self.now.good more (omega (arith, l)))

pub loop-task-preserved : goal.loop-task-preserved
loop-task-preserved c =
    let t = c.args.self.now.table.now in
    let tasks = c.first_tasks-task-items.ensures in
    let l : c.loop-task.task-index < t.n = omega (arith, tasks.many, c.loop-task-test.true) in (
      loaded-more c.measures-x.result t c.loop-task.invariant.0 tasks.are l c.share-load.ensures,
      λ z. c.if-limit-load.false,
    )

pub loop-k-preserved : goal.loop-k-preserved
loop-k-preserved c =
    let t = c.args.self.now.table.now in
    let k = c.loop-k.k in
    let e = c.measures-x.ensures in
    let x : Measured t k c.measures-x.result = record { m = e.0; b = e.1; s = e.2 } in
    let tasks = c.first_tasks-task-items.ensures in
    let at-end : c.loop-task.task-index ≡ t.n = omega (arith, tasks.many) in
    let low = c.loop-task.invariant.1 (omega (arith, at-end, c.args.self.now.good.sizes.some)) in
    let sum : c.loop-task.load ≡ load t (suc k) = c.loop-task.invariant.0 ∙ rw at-end (loading_more x) in
    let below : load t (suc k) < limit t (suc k) = omega (arith, sum, c.limit-limit.ensures, limit-is x, low) in (
      Amax-more t k c.loop-k.invariant.0 c.largest-most.ensures,
      lowest-past (λ j. not (passes t j)) k c.loop-k.invariant.1 (passes-below t (suc k) below),
    )

pub returns-then-limit-load : goal.returns-then-limit-load
returns-then-limit-load c =
    let t = c.args.self.now.table.now in
    let k = c.loop-k.k in
    let i = c.loop-task.task-index in
    let e = c.measures-x.ensures in
    let x : Measured t k c.measures-x.result = record { m = e.0; b = e.1; s = e.2 } in
    let tasks = c.first_tasks-task-items.ensures in
    let l : i < t.n = omega (arith, tasks.many, c.loop-task-test.true) in
    let more = loaded-more c.measures-x.result t c.loop-task.invariant.0 tasks.are l c.share-load.ensures in
    let up = loaded-grows c.measures-x.result t (i + 1) t.n (omega (arith, l)) in
    let reached : limit t (suc k) ≤ load t (suc k) =
    omega (arith, up, loading_more x, more, c.limit-limit.ensures, limit-is x, c.if-limit-load.true) in
    let here = lowest-found (λ j. not (passes t j)) k c.loop-k.invariant.1 (fails-reached t (suc k) reached) in
    let within : k + 1 ≤ t.n = omega (arith, c.loop-k-test.true) in
    found-some (lowest-stays (λ j. not (passes t j)) (k + 1) t.n k within (here ∙ add-one k))
