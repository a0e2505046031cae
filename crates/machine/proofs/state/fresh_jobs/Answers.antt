use Prim.Native.Nat.{min, ◌<◌}
use mathlib.Core.Path.{◌≡◌, ◌∙◌}
use native.Mathlib.Omega.{arith}
use Rattle.maths.specs.Tasks.{tabulate}
use Rattle.maths.proofs.Arrays.{up_none, up_more, up-most}
use Rattle.table.specs.Limits.{most_tasks}
use Rattle.table.proofs.Rows.{tasks-many, task-at}
use Rattle.machine.specs.Jobs.{no_job}
use Rattle.machine.specs.Fresh.{fresh_job, fresh}
use Rattle.machine.proofs.state.fresh_jobs.Goals as goal

pub loop-i-init : goal.loop-i-init
unfolding tabulate
loop-i-init c = rw c.none-none.ensures (up_none most_tasks (fresh_job c.args.t.now) (λ k. no_job))

pub loop-i-preserved : goal.loop-i-preserved
loop-i-preserved c =
    let t = c.args.t.now in
    let tasks = c.tasks-task-items.ensures in
    let few : c.loop-i.i < most_tasks = omega (arith, c.loop-i-test.true, tasks-many t _ tasks.are tasks.rows) in
    rw (c.none-none.ensures, c.loop-i.invariant, task-at t _ tasks.are tasks.rows c.loop-i.i c.loop-i-test.true)
    (up_more most_tasks (fresh_job t) (λ k. no_job) c.loop-i.i few)

pub returns : goal.returns
unfolding fresh
returns c =
    let t = c.args.t.now in
    let tasks = c.tasks-task-items.ensures in
    let at-end : c.loop-i.i ≡ min t.n most_tasks = omega (arith, tasks-many t _ tasks.are tasks.rows) in
    c.loop-i.invariant ∙ (rw at-end (up-most most_tasks (fresh_job t) (λ k. no_job) t.n))
