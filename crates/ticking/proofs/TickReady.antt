-- The state before step 5 of an accepted tick, task by task: who runs in it, what is held, and that a job that waits
-- holds nothing.
use Prim.Native.Nat.{ℕ, suc, ◌<◌, ◌≤◌}
use mathlib.Core.Path.{◌≡◌, refl, sym}
use mathlib.Core.Bool.{Bool, true, false, cond, true≢false}
use native.Mathlib.Omega.{arith}
use lib.ListN.{length}
use Rattle.maths.specs.Sums.{Σ}
use Rattle.maths.proofs.Sums.{Σ-ext}
use Rattle.maths.proofs.Tasks.{each}
use Rattle.table.specs.declared.Task.{Task}
use Rattle.table.specs.Limits.{most_tasks}
use Rattle.table.specs.Tasks.{P, τ}
use Rattle.sets.specs.Families.{union_of}
use Rattle.sets.specs.TaskSets.{has_task}
use Rattle.sets.proofs.Unions.{union-same}
use Rattle.machine.specs.declared.Job.{Job}
use Rattle.machine.specs.declared.Machine.{Machine}
use Rattle.machine.specs.Jobs.{is_waiting, is_running, job, waits, runs, running, busy}
use Rattle.machine.specs.Code.Readied.{readied_job}
use Rattle.machine.specs.Tick.{readied}
use Rattle.machine.proofs.Jobs.{readied-table, readied-job, readied_pass, for_past, for_length}
use Rattle.machine.proofs.Taken.{Taken}
use Rattle.machine.proofs.StateParts.{idle-not-runs, GoodJob, when_idle, when_waiting}
use Rattle.ticking.proofs.TickJudge.{Accepts}
use Rattle.ticking.proofs.TickLook.{kept, stays}

-- one task
ready_held : (task : Task) (j : Job) (r f : Bool) → (readied_job task r f j).held ≡ cond f 0 j.held
ready_held task j true true = refl
ready_held task j true false = refl
ready_held task j false true = refl
ready_held task j false false = refl

ready-runs : (task : Task) (j : Job) (r f : Bool) → Taken task r f j
    → cond {A = ℕ} (is_running (readied_job task r f j).stage) 1 0 ≡ cond f 0 (cond (is_running j.stage) 1 0)
ready-runs task j true true a = refl
ready-runs task j true false a = rw (idle-not-runs j.stage (a.free refl))
ready-runs task j false true a = refl
ready-runs task j false false a = refl

ready-free : (p : ℕ) (task : Task) (j : Job) (r f : Bool) → GoodJob p task j → Taken task r f j
    → is_waiting (readied_job task r f j).stage ≡ true → (readied_job task r f j).held ≡ 0
ready-free p task j true true g a e = refl
ready-free p task j true false g a e = (when_idle g (a.free refl)).rests.none
ready-free p task j false true g a e = absurd (true≢false (sym e))
ready-free p task j false false g a e = (when_waiting g e).none

-- the state before step 5, with the table of the lent one
abbrev pub ready : Machine → ℕ → ℕ → Machine
ready m released finished = record { table = m.table; jobs = (readied m released finished).jobs }

module _ (m : Machine) (released finished : ℕ) where
  pub ready-is : readied m released finished ≡ ready m released finished
  ready-is = λ i. record { table = readied-table m released finished i; jobs = (readied m released finished).jobs }

  pub ready-length : length (ready m released finished).jobs ≡ most_tasks
  ready-length = rw (readied_pass m released finished) (for_length _ m)

  pub ready-past : (i : ℕ) → m.table.n ≤ i → i < most_tasks → job (ready m released finished) (suc i) ≡ job m (suc i)
  ready-past i h l = rw (readied_pass m released finished) (for_past _ m (suc i) (omega arith) l)

  module _ (a : Accepts m released finished) where
    pub ready-job : (i : ℕ) → i < m.table.n
        → job (ready m released finished) (suc i)
        ≡ readied_job (τ m.table (suc i)) (has_task released (suc i)) (has_task finished (suc i)) (job m (suc i))
    ready-job i l = readied-job m (suc i) (omega arith) l (omega (arith, a.good.table.sizes.few)) released finished

    pub ready-running : Σ m.table.n (stays m released finished) ≡ running (ready m released finished)
    unfolding running
    ready-running =
        Σ-ext m.table.n (stays m released finished) (λ k. cond (runs (ready m released finished) k) 1 0)
        (each m.table.n _ (λ i l. rw (ready-job i l) (sym (ready-runs (τ m.table (suc i)) (job m (suc i))
        (has_task released (suc i)) (has_task finished (suc i)) (a.each i l)))))

    pub ready-busy : union_of m.table.n (λ i. kept m released finished (suc i)) ≡ busy (ready m released finished)
    unfolding busy
    ready-busy =
        union-same (λ i. kept m released finished (suc i))
        (λ i. (job (ready m released finished) (suc i)).held) m.table.n
        (λ i l. rw (ready-job i l)
        (sym (ready_held (τ m.table (suc i)) (job m (suc i)) (has_task released (suc i)) (has_task finished (suc i)))))

    pub ready-waits : (i : ℕ) → i < m.table.n → waits (ready m released finished) (suc i) ≡ true
        → (job (ready m released finished) (suc i)).held ≡ 0
    ready-waits i l e =
        rw (ready-job i l)
        (ready-free (P m.table) (τ m.table (suc i)) (job m (suc i)) (has_task released (suc i))
        (has_task finished (suc i)) (a.good.each i l) (a.each i l) (rw (ready-job i l) at e))
