use mathlib.Core.Path.{◌≡◌}
use Rattle.maths.proofs.Arrays.{up_to}
use Rattle.table.specs.Limits.{most_tasks}
use Rattle.machine.specs.Jobs.{no_job}
use Rattle.machine.specs.Fresh.{fresh_job}
use Rattle.machine.proofs.state.fresh_jobs.Given as goal

abbrev pub invariant-loop-i : goal.invariant-loop-i
invariant-loop-i l = l.jobs ≡ up_to most_tasks (fresh_job l.t) (λ k. no_job) l.i
