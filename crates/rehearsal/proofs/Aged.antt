-- A machine one tick older, where nothing else happens: who waits, who runs and what is idle stay as they were, so that
-- step 5 picks whom it picked before.
use Prim.Native.Nat.{ℕ, zero, suc, ◌-◌, ◌≤◌, ◌<◌}
use mathlib.Core.Path.{◌≡◌, ◌∙◌, ap, fun_ext}
use mathlib.Core.Bool.{cond}
use native.Mathlib.Omega.{arith}
use Rattle.maths.proofs.Sums.{sum-ext}
use Rattle.maths.proofs.Tasks.{lowest-ext}
use Rattle.table.specs.Limits.{most_tasks}
use Rattle.table.specs.Tasks.{M, P, τ}
use Rattle.sets.specs.Sets.{partitions_in, below, without}
use Rattle.sets.proofs.Unions.{union-same}
use Rattle.sets.proofs.Wheres.{where_empty, task-none}
use Rattle.machine.specs.declared.Job.{Job}
use Rattle.machine.specs.declared.Machine.{Machine}
use Rattle.machine.specs.Jobs.{is_waiting, is_running, job, waits, waiting, running, busy, idle_cores, idle_partitions}
use Rattle.machine.specs.Steps.{for_tasks, older, passed, first_waiting, fits_in, pick, start_waiting, start_all}
use Rattle.machine.specs.Tick.{readied, moved, started_set}
use Rattle.machine.proofs.Jobs.{readied_pass, passed-job}
use Rattle.machine.proofs.Queue.{start_none, start-turn}
use Rattle.machine.proofs.StateParts.{not-both}

-- where nobody is picked, step 5 starts nobody
stays : (m : Machine) → pick m ≡ 0 → (turns : ℕ) → start_waiting turns m ≡ m
stays m e zero = start_none m
stays m e (suc turns) = start-turn turns m ∙ rw e

module _ (m : Machine) (few : m.table.n ≤ most_tasks) where
  -- steps 2 and 4 of nobody
  pub readied-none : readied m 0 0 ≡ passed m
  readied-none =
      readied_pass m 0 0
      ∙ ap (λ (f : ℕ → Job → Job). for_tasks f m) (fun_ext λ k. fun_ext λ j. rw (task-none k))

  module _ (i : ℕ) (l : i < m.table.n) where
    aged : job (passed m) (suc i) ≡ older (τ m.table (suc i)) (job m (suc i))
    aged = passed-job m (suc i) (omega arith) l (omega arith)

  first-same : first_waiting (passed m) ≡ first_waiting m
  unfolding for_tasks
  first-same =
      lowest-ext (waits (passed m)) (waits m) m.table.n (λ i l. ap (λ (j : Job). is_waiting j.stage) (aged i l))

  running-same : running (passed m) ≡ running m
  unfolding running for_tasks
  running-same = sum-ext _ _ m.table.n (λ i l. ap (λ (j : Job). cond (is_running j.stage) 1 0) (aged i l))

  busy-same : busy (passed m) ≡ busy m
  unfolding busy for_tasks
  busy-same = union-same _ _ m.table.n (λ i l. ap (λ (j : Job). j.held) (aged i l))

  pub cores-same : idle_cores (passed m) ≡ idle_cores m
  unfolding for_tasks
  cores-same = λ i. record { 0 = M m.table - running-same i }

  pub partitions-same : idle_partitions (passed m) ≡ idle_partitions m
  unfolding for_tasks
  partitions-same = ap (λ (used : ℕ). partitions_in (without (below (P m.table)) used)) busy-same

  pub pick_same : pick (passed m) ≡ pick m
  unfolding for_tasks
  pick_same = λ i.
      cond (fits_in (cores-same i) (partitions-same i) (τ m.table (first-same i))) (first-same i) 0

  module _ (stopped : pick m ≡ 0) where
    pub moved_none : moved m 0 0 ≡ passed m
    moved_none = ap start_all readied-none ∙ stays (passed m) (pick_same ∙ stopped) (waiting (passed m))

    -- who waits does not run
    pub none-start : started_set (readied m 0 0) (moved m 0 0) ≡ 0
    none-start =
        rw (moved_none, readied-none)
        (where_empty _ (passed m).table.n (λ i l. not-both (job (passed m) (suc i)).stage))
