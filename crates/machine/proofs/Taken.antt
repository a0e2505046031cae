-- An accepted tick, task by task.
use Prim.Native.Nat.{ℕ, ◌≤◌}
use mathlib.Core.Path.{◌≡◌}
use mathlib.Core.Bool.{Bool, true, false}
use mathlib.Core.Logic.{◌≢◌}
use native.Mathlib.Omega.{arith}
use Rattle.maths.specs.Tasks.{Each}
use Rattle.table.specs.declared.Task.{Task}
use Rattle.table.specs.Limits.{most_tasks}
use Rattle.table.specs.Tasks.{τ, T, C}
use Rattle.sets.specs.TaskSets.{has_task}
use Rattle.machine.specs.declared.Job.{Job}
use Rattle.machine.specs.declared.Machine.{Machine}
use Rattle.machine.specs.Jobs.{is_idle, is_running, job}
use Rattle.machine.specs.Steps.{older}
use Rattle.machine.proofs.Jobs.{finished_job, passed-job, finished-job}
use Rattle.machine.proofs.Accepted.{Accepted}

-- Of a task τ and its job j, finished and released as f and r say: that none of 10 to 13 is given.
pub record Taken (τ : Task) (r f : Bool) (j : Job) : Type 0 where
  pub was_running : f ≡ true → is_running j.stage ≡ true
  pub not_over : is_running j.stage ≡ true → f ≡ false → (older τ j).ran ≢ C τ
  pub due : r ≡ true → T τ ≤ (older τ j).age
  pub free : r ≡ true → is_idle (finished_job τ f j).stage ≡ true

pub taken : (m : Machine) (R F : ℕ) → m.table.n ≤ most_tasks → Accepted m R F
    → Each m.table.n (λ k. Taken (τ m.table k) (has_task R k) (has_task F k) (job m k))
taken m R F few a k l h =
    let in_32 : k ≤ most_tasks = omega arith in
    record {
      was_running = a.before.ran k l in_32;
      not_over = λ p q. rw (passed-job m k l h in_32) at (a.before.over k l in_32 p q);
      due = λ p. rw (passed-job m k l h in_32) at (a.before.due k l in_32 p);
      free = λ p. rw (finished-job m k l h in_32 F) at (a.free k l in_32 p);
    }
