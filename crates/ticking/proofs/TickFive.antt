-- Step 5 by one pass over the tasks from the lowest: each turn is a start, or nothing, or the end of the step.
use Prim.Native.Nat.{ℕ, suc, ◌<◌, ◌≤◌}
use mathlib.Core.Path.{◌≡◌, sym, ◌∙◌}
use native.Mathlib.Numerals.{add-one}
use native.Mathlib.Omega.{arith}
use borrow.Author.Count.{below_more}
use lib.ListN.{length, set}
use lib.Seq.{set-get_or}
use Rattle.maths.proofs.Arrays.{up_to, up_none, up_more, up_in, up-past, tabulate-entry}
use Rattle.table.specs.Limits.{most_tasks}
use Rattle.table.specs.Tasks.{τ, A}
use Rattle.sets.specs.Choice.{choice}
use Rattle.machine.specs.declared.Machine.{Machine}
use Rattle.ticking.specs.declared.Walk.{Walk}
use Rattle.machine.specs.Jobs.{no_job, job, idle_set}
use Rattle.machine.specs.Steps.{begun, start}

-- what holds below i, and of i
pub below_suc : (Q : ℕ → Type 0) (i : ℕ) → ((j : ℕ) → j < i → Q j) → Q i → (j : ℕ) → j < suc i → Q j
below_suc Q i h q = rw (← add-one i) (below_more Q i h q)

-- tasks 1 to i have the jobs that the pass gave them, the others still theirs
abbrev pub walked : Machine → (ℕ → Walk) → ℕ → Machine
walked r w i = record { table = r.table; jobs = up_to most_tasks (λ k. (w k).job) (job r) i }

module _ (r : Machine) (w : ℕ → Walk) where
  pub walked_none : length r.jobs ≡ most_tasks → walked r w 0 ≡ r
  walked_none len =
      let same : (walked r w 0).jobs ≡ r.jobs =
      sym (up_none most_tasks (λ k. (w k).job) (job r)) ∙ tabulate-entry r.jobs most_tasks no_job len in
      λ i. record { table = r.table; jobs = same i }

  module _ (i : ℕ) where
    -- of a task that the pass has come to, and of one that it has not
    pub walked-done : (j : ℕ) → j < i → j < most_tasks → job (walked r w i) (suc j) ≡ (w (suc j)).job
    walked-done j = up_in most_tasks (λ k. (w k).job) (job r) i j no_job

    pub walked-left : (j : ℕ) → i ≤ j → j < most_tasks → job (walked r w i) (suc j) ≡ job r (suc j)
    walked-left j = up-past most_tasks (λ k. (w k).job) (job r) i j no_job

    module _ (l : i < most_tasks) where
      walked_more : set (walked r w i).jobs i (w (suc i)).job ≡ (walked r w (suc i)).jobs
      walked_more = up_more most_tasks (λ k. (w k).job) (job r) i l ∙ rw add-one

      -- the turn that leaves the job as it was
      pub walked_by : (w (suc i)).job ≡ job r (suc i) → walked r w (suc i) ≡ walked r w i
      walked_by e =
          let was : (w (suc i)).job ≡ job (walked r w i) (suc i) = e ∙ sym (walked-left i (omega arith) l) in
          let same : (walked r w (suc i)).jobs ≡ (walked r w i).jobs =
          sym walked_more ∙ rw was (set-get_or (walked r w i).jobs i no_job) in
          λ k. record { table = r.table; jobs = same k }

      -- the turn that is a start
      pub walked-go : (w (suc i)).job ≡ begun (choice (w i).idle (A (τ r.table (suc i)))) (job r (suc i))
          → (w i).idle ≡ idle_set (walked r w i) → walked r w (suc i) ≡ start (walked r w i) i
      walked-go e idle =
          let new : (w (suc i)).job
          ≡ begun (choice (idle_set (walked r w i)) (A (τ r.table (suc i)))) (job (walked r w i) (suc i)) =
          e ∙ rw (idle, walked-left i (omega arith) l) in
          let same : (walked r w (suc i)).jobs ≡ (start (walked r w i) i).jobs = sym walked_more ∙ rw new in
          λ k. record { table = r.table; jobs = same k }
