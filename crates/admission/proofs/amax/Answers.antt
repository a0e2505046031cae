use Prim.Native.Nat.{◌<◌}
use mathlib.Core.Path.{sym, ◌∙◌}
use native.Mathlib.Omega.{arith}
use lib.Seq.{get_or-take}
use Rattle.table.specs.Tasks.{no_task}
use Rattle.admission.proofs.Bounds.{Amax-zero}
use Rattle.admission.proofs.Laws.{Amax-more}
use Rattle.admission.proofs.amax.Goals as goal

pub loop-task-init : goal.loop-task-init
loop-task-init c = sym (Amax-zero _)

pub loop-task-preserved : goal.loop-task-preserved
loop-task-preserved c =
    let t = c.args.t.now in
    let i = c.loop-task.task-index in
    let tasks = c.first_tasks-task-items.ensures in
    let l : i < c.args.k = omega (arith, tasks.many, c.loop-task-test.true) in
    Amax-more t i c.loop-task.invariant
    (c.largest-most.ensures ∙ rw (tasks.are, get_or-take c.args.k t.rows i no_task l))
