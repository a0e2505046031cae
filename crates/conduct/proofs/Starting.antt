-- Step 5, by induction over its starts: what each keeps, and whom it takes before whom. Another style has another
-- `Before` and another `before-other`.
use Prim.Native.Nat.{ℕ, suc, ◌<◌}
use mathlib.Core.Path.{◌≡◌, refl, sym, ◌∙◌, ap, subst}
use mathlib.Core.Bool.{true, true≢false}
use mathlib.Core.Logic.{◌≢◌}
use native.Mathlib.Decide.{dec_lt, ℕ_discrete}
use native.Mathlib.Omega.{arith}
use Rattle.table.specs.declared.Table.{Table}
use Rattle.table.specs.Tasks.{τ, A}
use Rattle.sets.specs.Choice.{choice}
use Rattle.machine.specs.declared.Job.{Job}
use Rattle.machine.specs.declared.Machine.{Machine}
use Rattle.machine.specs.Jobs.{is_waiting, job, waits, waiting, runs, idle_set}
use Rattle.machine.specs.Steps.{pick, begun, start, start_all}
use Rattle.machine.proofs.Jobs.{start-other}
use Rattle.machine.proofs.Queue.{first-lowest, picks_first, Picked, picked, new-job, step_keeps, step-ends}
use Rattle.machine.proofs.StateParts.{GoodState, waits-not-runs}
use Rattle.conduct.proofs.Begin.{start-good}

-- what step 5 makes of a job: it stays, or it waited and has begun
pub data Began (a b : Job) : Type 0 where
  stayed : b ≡ a → Began a b
  began : (held : ℕ) → is_waiting a.stage ≡ true → b ≡ begun held a → Began a b

still-waits : {a b : Job} → Began a b → is_waiting b.stage ≡ true → b ≡ a
still-waits (stayed e) w = e
still-waits (began h v e) w = absurd (true≢false (sym w ∙ ap (λ (j : Job). is_waiting j.stage) e))

-- task i + 1 of the table, with job a, is taken before task k + 1, with job b: by their numbers alone
abbrev Before : Table → ℕ → ℕ → Job → Job → Type 0
Before t i k a b = i < k

before-other : (m : Machine) (i k : ℕ) → pick m ≡ suc i → waits m (suc k) ≡ true → k ≢ i
    → Before m.table i k (job m (suc i)) (job m (suc k))
before-other m i k e w d =
    elim (dec_lt k i) [
      | yes l ↦ absurd (true≢false (sym w ∙ first-lowest m i (picks_first m i e).0 k l))
      | no l ↦ omega arith
    ]

-- from `before`, by starts, to `now`
pub record Reached (before now : Machine) : Type 0 where
  pub table : now.table ≡ before.table
  pub good : GoodState now
  pub jobs : (i : ℕ) → i < now.table.n → Began (job before (suc i)) (job now (suc i))
  -- who has started comes before who still waits
  pub order : (i k : ℕ) → i < now.table.n → k < now.table.n → waits before (suc i) ≡ true → runs now (suc i) ≡ true
      → waits now (suc k) ≡ true → Before now.table i k (job before (suc i)) (job before (suc k))

module _ (before m : Machine) (i : ℕ) (e : pick m ≡ suc i) (r : Reached before m) where
  abbrev n : ℕ
  n = m.table.n

  p : Picked m i
  p = picked m i e

  -- after a start who waits waited before, and is another
  still : (k : ℕ) → waits (start m i) (suc k) ≡ true → (waits m (suc k) ≡ true) × (k ≢ i)
  still k w = by (ℕ_discrete k i)
    where
      by : Dec (k ≡ i) → (waits m (suc k) ≡ true) × (k ≢ i)
      by (yes q) =
          absurd (true≢false (sym (rw q at w) ∙ ap (λ (j : Job). is_waiting j.stage) (new-job m i p.queued)))
      by (no q) = (rw (start-other m i k q) at w, q)

  new-began : Began (job before (suc i)) (job (start m i) (suc i))
  new-began =
      let held = choice (idle_set m) (A (τ m.table (suc i))) in
      let was = still-waits (r.jobs i p.task) p.queued in
      began held (rw was at p.queued) (new-job m i p.queued ∙ ap (begun held) was)

  jobs-began : (j : ℕ) → j < n → Began (job before (suc j)) (job (start m i) (suc j))
  jobs-began j l =
      elim (ℕ_discrete j i) [
        | yes q ↦ rw q new-began
        | no q ↦ rw (start-other m i j q) (r.jobs j l)
      ]

  in_order : (j k : ℕ) → j < n → k < n → waits before (suc j) ≡ true → runs (start m i) (suc j) ≡ true
      → waits (start m i) (suc k) ≡ true → Before m.table j k (job before (suc j)) (job before (suc k))
  in_order j k l h v b w = by (ℕ_discrete j i)
    where
      was : (waits m (suc k) ≡ true) × (k ≢ i)
      was = still k w

      by : Dec (j ≡ i) → Before m.table j k (job before (suc j)) (job before (suc k))
      by (yes q) =
          rw q
          (subst (λ (a : Job). Before m.table i k a (job before (suc k)))
          (still-waits (r.jobs i p.task) p.queued)
          (subst (λ (b : Job). Before m.table i k (job m (suc i)) b) (still-waits (r.jobs k h) was.0)
          (before-other m i k e was.0 was.1)))
      by (no q) = r.order j k l h v (rw (start-other m i j q) at b) was.0

  start-reached : Reached before (start m i)
  start-reached = record {
    table = r.table;
    good = start-good m i p.queued r.good p.task p.room;
    jobs = jobs-began;
    order = in_order;
  }

-- who waits does not run, so that nobody has started yet
unstarted : (m : Machine) → GoodState m → Reached m m
unstarted m g =
    record {
      table = refl;
      good = g;
      jobs = λ i l. stayed refl;
      order = λ i k l h v b w. absurd (true≢false (sym b ∙ waits-not-runs (job m (suc i)).stage v));
    }

pub record Ended (before now : Machine) : Type 0 where
  pub reached : Reached before now
  pub stopped : pick now ≡ 0

pub step_5 : (m : Machine) → GoodState m → Ended m (start_all m)
step_5 m g =
    record { reached = step_keeps (Reached m) (start-reached m) (waiting m) m (unstarted m g); stopped = step-ends m }
