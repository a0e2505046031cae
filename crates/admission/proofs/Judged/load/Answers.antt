use Prim.Native.Nat.{◌<◌}
use native.Mathlib.Omega.{arith}
use Rattle.admission.proofs.Turns.{loaded-none, loaded-more, loaded-small}
use Rattle.admission.proofs.Judged.load.Goals as goal

pub loop-task-init : goal.loop-task-init
loop-task-init c = loaded-none c.args.x.now c.args.self.now.table.now

pub overflow_add-load : goal.overflow_add-load
overflow_add-load c =
    let t = c.args.self.now.table.now in
    let x = c.args.x.now in
    let tasks = c.first_tasks-task-items.ensures in
    let l : c.loop-task.task-index < t.n = omega (arith, tasks.many, c.loop-task-test.true) in
    let more = loaded-more x t c.loop-task.invariant tasks.are l c.share-load.ensures in
    omega (arith, loaded-small x t c.args.self.now.good more (omega (arith, l)))

pub loop-task-preserved : goal.loop-task-preserved
loop-task-preserved c =
    let t = c.args.self.now.table.now in
    let tasks = c.first_tasks-task-items.ensures in
    let l : c.loop-task.task-index < t.n = omega (arith, tasks.many, c.loop-task-test.true) in
    loaded-more c.args.x.now t c.loop-task.invariant tasks.are l c.share-load.ensures
