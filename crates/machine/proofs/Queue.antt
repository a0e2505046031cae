-- Laws of steps 2 and 5 on which the pass of the code and the theorem about sequences stand: who finishes holds
-- nothing, who is picked, what a start changes, and that the step ends only where nobody is picked.
use Prim.Native.Nat.{ℕ, zero, suc, ◌+◌, ◌-◌, ◌<◌, ◌≤◌}
use mathlib.Core.Path.{◌≡◌, refl, sym, ◌∙◌, ap}
use mathlib.Core.Bool.{Bool, true, false, cond, ◌&&◌, true≢false}
use native.Mathlib.Decide.{dec_lt}
use native.Mathlib.Omega.{arith}
use borrow.Author.Tests.{lt-ltb, le-ltb, le-leb, lt-leb}
use lib.Bits.{bit_or}
use lib.Dec.{ltb, leb}
use lib.ListN.{length, get_or-eq_default}
use Rattle.maths.specs.Sums.{Σ}
use Rattle.maths.proofs.Sums.{sum_but, sum_one}
use Rattle.maths.proofs.Tasks.{lowest-none, lowest-holds, lowest-first}
use Rattle.table.specs.Tasks.{M, P, τ, A}
use Rattle.sets.specs.Sets.{below, without}
use Rattle.sets.specs.Choice.{choice}
use Rattle.sets.proofs.Holders.{union-take}
use Rattle.sets.proofs.Same.{without-both}
use Rattle.machine.specs.declared.Job.{Job}
use Rattle.machine.specs.declared.Machine.{Machine}
use Rattle.machine.specs.declared.Stage.{Stage}
use Rattle.machine.specs.Jobs.{Running, is_waiting, is_running, no_job, job, waits, waiting, running, busy, idle_set}
use Rattle.machine.specs.Jobs.{idle_cores, idle_partitions}
use Rattle.machine.specs.Steps.{ended, first_waiting, fits, pick, begun, start, start_picked, start_waiting}
use Rattle.machine.specs.Steps.{start_all}
use Rattle.machine.proofs.Jobs.{start-same, start-other}
use Rattle.machine.proofs.StateParts.{Rests, waits-not-runs}

-- a job that finished has given up its partitions
pub ended-rests : (j : Job) → Rests (ended j)
ended-rests j = record { none = refl; unrun = refl }

-- the first that waits: where there is none, nobody waits; else it is one of tasks 1 to n, it waits, and none before it
-- does
pub first-none : (m : Machine) → first_waiting m ≡ 0 → (k : ℕ) → k < m.table.n → waits m (suc k) ≡ false
first-none m e = lowest-none (waits m) m.table.n e

module _ (m : Machine) (i : ℕ) (first : first_waiting m ≡ suc i) where
  pub first-task : i < m.table.n
  first-task = (lowest-holds (waits m) m.table.n i first).0

  pub first-waits : waits m (suc i) ≡ true
  first-waits = (lowest-holds (waits m) m.table.n i first).1

  pub first-lowest : (k : ℕ) → k < i → waits m (suc k) ≡ false
  first-lowest k l = lowest-first (waits m) m.table.n i first k l

-- what fits, in the words of document 01: fewer than M jobs run and at least A partitions are idle
pub fits-is : (m : Machine) (k : ℕ)
    → fits m k ≡ (ltb (running m) (M m.table) && leb (A (τ m.table k)) (idle_partitions m).0)
fits-is m k = ap (λ (b : Bool). b && leb (A (τ m.table k)) (idle_partitions m).0) core
  where
    core : leb 1 (idle_cores m).0 ≡ ltb (running m) (M m.table)
    core =
        elim (dec_lt (running m) (M m.table)) [
          | yes l ↦ rw (lt-ltb (running m) (M m.table) l) (le-leb 1 (M m.table - running m) (omega arith))
          | no l ↦ rw (le-ltb (running m) (M m.table) (omega arith))
              (lt-leb 1 (M m.table - running m) (omega arith))
        ]

-- the first that waits is picked if it fits, and else nobody is
pub pick_first : (m : Machine) (k : ℕ) → first_waiting m ≡ k → pick m ≡ cond (fits m k) k 0
pick_first m k e = ap (λ (z : ℕ). cond (fits m z) z 0) e

pub picks-none : (m : Machine) → first_waiting m ≡ 0 → pick m ≡ 0
picks-none m e = pick_first m 0 e ∙ by (fits m 0)
  where
    by : (b : Bool) → cond {A = ℕ} b 0 0 ≡ 0
    by true = refl
    by false = refl

pub picks_first : (m : Machine) (i : ℕ) → pick m ≡ suc i → (first_waiting m ≡ suc i) × (fits m (suc i) ≡ true)
picks_first m i e = by (fits m (first_waiting m)) refl e
  where
    by : (b : Bool) → fits m (first_waiting m) ≡ b → cond b (first_waiting m) 0 ≡ suc i
        → (first_waiting m ≡ suc i) × (fits m (suc i) ≡ true)
    by true f q = (q, ap (fits m) (sym q) ∙ f)
    by false f q = absurd (omega (arith, q))

-- all that the step needs of who is picked, in any style
pub record Picked (m : Machine) (i : ℕ) : Type 0 where
  pub task : i < m.table.n
  pub queued : waits m (suc i) ≡ true
  pub room : fits m (suc i) ≡ true

pub picked : (m : Machine) (i : ℕ) → pick m ≡ suc i → Picked m i
picked m i e =
    let p = picks_first m i e in
    record { task = first-task m i p.0; queued = first-waits m i p.0; room = p.1 }

-- a start: the job that waited runs, with partitions that were idle
module _ (m : Machine) (i : ℕ) (w : waits m (suc i) ≡ true) where
  abbrev taken : ℕ
  taken = choice (idle_set m) (A (τ m.table (suc i)))

  -- a job that waits stands in the array
  there : i < length m.jobs
  there =
      elim (dec_lt i (length m.jobs)) [
        | yes l ↦ l
        | no l ↦
            let none : job m (suc i) ≡ no_job = get_or-eq_default m.jobs no_job (omega arith) in
            absurd (true≢false (sym w ∙ ap (λ (j : Job). is_waiting j.stage) none))
      ]

  pub new-job : job (start m i) (suc i) ≡ begun taken (job m (suc i))
  new-job = start-same m i there

  module _ (l : i < m.table.n) where
    -- of those that are counted by their stage
    counted : (f : Stage → Bool)
        → Σ m.table.n (λ k. cond (f (job (start m i) k).stage) 1 0) + cond (f (job m (suc i)).stage) 1 0
        ≡ Σ m.table.n (λ k. cond (f (job m k).stage) 1 0) + cond (f Running) 1 0
    counted f =
        let one : Job → ℕ = λ j. cond (f j.stage) 1 0 in
        sum_but (λ j. one (job m (suc j))) (λ j. one (job (start m i) (suc j))) m.table.n i l
        (λ j h e. ap one (start-other m i j e))
        ∙ ap (λ (z : ℕ). Σ m.table.n (λ k. one (job m k)) + z) (ap one new-job)

    pub fewer_wait : waiting (start m i) + 1 ≡ waiting m
    fewer_wait = omega (arith, rw w at (counted is_waiting))

    pub more-run : running (start m i) ≡ running m + 1
    unfolding running
    more-run = omega (arith, rw (waits-not-runs (job m (suc i)).stage w) at (counted is_running))

    pub less-idle : (job m (suc i)).held ≡ 0 → idle_set (start m i) ≡ without (idle_set m) taken
    unfolding busy
    less-idle free =
        let take =
        union-take (λ j. (job m (suc j)).held) (λ j. (job (start m i) (suc j)).held) m.table.n i l
        (λ j h e. ap (λ (x : Job). x.held) (start-other m i j e))
        free in
        ap (λ (z : ℕ). without (below (P m.table)) z) (take ∙ ap (λ (x : Job). bit_or (busy m) x.held) new-job)
        ∙ without-both (below (P m.table)) (busy m) taken

-- a turn of the step
pub start_none : (m : Machine) → start_waiting 0 m ≡ m
unfolding start_waiting
start_none m = refl

pub start-turn : (turns : ℕ) (m : Machine) → start_waiting (suc turns) m ≡ start_picked (start_waiting turns) m (pick m)
unfolding start_waiting
start-turn turns m = refl

-- what each start keeps, the step keeps
module _ (Q : Machine → Type 0) (keeps : (m : Machine) (i : ℕ) → pick m ≡ suc i → Q m → Q (start m i)) where
  pub step_keeps : (turns : ℕ) (m : Machine) → Q m → Q (start_waiting turns m)
  step_keeps zero m q = rw (start_none m) q
  step_keeps (suc turns) m q = rw (start-turn turns m) (by (pick m) refl (step_keeps turns))
    where
      by : (k : ℕ) → pick m ≡ k → ((next : Machine) → Q next → Q (start_waiting turns next))
          → Q (start_picked (start_waiting turns) m k)
      by zero e rest = q
      by (suc i) e rest = rest (start m i) (keeps m i e q)

pub step-table : (m : Machine) → (start_all m).table ≡ m.table
step-table m = step_keeps (λ x. x.table ≡ m.table) (λ x i e q. q) (waiting m) m refl

-- who waits is counted
pub some_wait : (m : Machine) (i : ℕ) → i < m.table.n → waits m (suc i) ≡ true → 1 ≤ waiting m
some_wait m i l w = omega (arith, rw w at (sum_one (λ j. cond (waits m (suc j)) 1 0) m.table.n i l))

-- as many turns as jobs wait are enough, of any machine
ends : (turns : ℕ) (m : Machine) → waiting m ≤ turns → pick (start_waiting turns m) ≡ 0
ends zero m few = rw (start_none m) (by (pick m) refl)
  where
    by : (k : ℕ) → pick m ≡ k → k ≡ 0
    by zero e = refl
    by (suc i) e =
        let p = picked m i e in
        absurd (omega (arith, some_wait m i p.task p.queued))
ends (suc turns) m few = rw (start-turn turns m) (by (pick m) refl (ends turns))
  where
    by : (k : ℕ) → pick m ≡ k → ((next : Machine) → waiting next ≤ turns → pick (start_waiting turns next) ≡ 0)
        → pick (start_picked (start_waiting turns) m k) ≡ 0
    by zero e rest = e
    by (suc i) e rest =
        let p = picked m i e in
        rest (start m i) (omega (arith, fewer_wait m i p.queued p.task))

pub step-ends : (m : Machine) → pick (start_all m) ≡ 0
step-ends m = ends (waiting m) m (omega arith)
