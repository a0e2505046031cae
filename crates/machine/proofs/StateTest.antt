-- From the test of refusal 14 to the conditions of a state part by part, and back.
use Prim.Native.Nat.{ℕ, suc, ◌-◌, ◌^◌, ◌<◌, ◌≤◌}
use mathlib.Core.Path.{◌≡◌, refl, sym}
use mathlib.Core.Bool.{Bool, true, false, cond, ◌&&◌, ◌||◌, true≢false, or-true}
use native.Mathlib.Omega.{arith}
use native.Mathlib.Nat.{mod-lt, mod-eq_of_lt}
use native.Mathlib.Decide.{dec_le}
use borrow.Author.Tests.{le-leb, lt-leb, leb-true, eq-eqb, eqb-true}
use lib.Bits.{and_mask}
use lib.Dec.{leb}
use lib.ListN.{length}
use lib.Pow.{pow_pos}
use Rattle.maths.proofs.Tasks.{every_holds, every_of}
use Rattle.maths.proofs.Tests.{both}
use Rattle.table.specs.declared.Task.{Task}
use Rattle.table.specs.Limits.{most_tasks, most_partitions}
use Rattle.table.specs.Tasks.{M, P, τ, D, T, C, A, no_task}
use Rattle.table.specs.Refused.{refusal}
use Rattle.table.proofs.Good.{good_of}
use Rattle.sets.specs.Sets.{size, below, without}
use Rattle.sets.proofs.Unions.{all_apart_lem, apart-all}
use Rattle.machine.specs.declared.Stage.{Stage}
use Rattle.machine.specs.declared.Job.{Job}
use Rattle.machine.specs.declared.Machine.{Machine}
use Rattle.machine.specs.Jobs.{is_idle, is_waiting, is_running, no_job, job, running}
use Rattle.machine.specs.Conditions.{is_no_task, is_no_job, has_nothing, idles_well, runs_well, good_stage, good_job}
use Rattle.machine.specs.Conditions.{good_state}
use Rattle.machine.proofs.StateParts.{Rests, Runs, ByStage, is-idle, is-waiting, is-running, GoodJob, GoodState}
use Rattle.machine.proofs.StateParts.{idle-is, waiting-is, running-is}

-- all of x is below p
below_lt : (x p : ℕ) → without x (below p) ≡ 0 → x < 2 ^ p
below_lt x p e = omega (arith, rw (and_mask x p) at e, mod-lt x (pow_pos p))

lt_below : (x p : ℕ) → x < 2 ^ p → without x (below p) ≡ 0
lt_below x p h = rw (and_mask x p, mod-eq_of_lt h) (omega arith)

no-task : (τ : Task) → is_no_task τ ≡ true → τ ≡ no_task
no-task τ e =
    let dtc = both _ _ e in
    let dt = both _ _ dtc.0 in
    let d = both _ _ dt.0 in
    λ i.
    record {
      d = eqb-true (D τ) 0 d.0 i;
      t = eqb-true (T τ) 0 d.1 i;
      c = eqb-true (C τ) 0 dt.1 i;
      a = record { 0 = eqb-true (A τ) 0 dtc.1 i };
    }

no-job : (j : Job) → is_no_job j ≡ true → j ≡ no_job
no-job j e =
    let sar = both _ _ e in
    let sa = both _ _ sar.0 in
    let s = both _ _ sa.0 in
    λ i.
    record {
      stage = idle-is j.stage s.0 i;
      age = eqb-true j.age 0 s.1 i;
      ran = eqb-true j.ran 0 sa.1 i;
      held = eqb-true j.held 0 sar.1 i;
    }

-- a job's conditions from their test
rests : (j : Job) → has_nothing j ≡ true → Rests j
rests j e =
    let b = both _ _ e in
    record { none = eqb-true j.held 0 b.0; unrun = eqb-true j.ran 0 b.1 }

runs_of : (p : ℕ) (τ : Task) (j : Job) → runs_well p τ j ≡ true → Runs p τ j
runs_of p τ j e =
    let b = both _ _ e in
    let c = both _ _ b.0 in
    let d = both _ _ c.0 in
    record {
      short = leb-true j.ran (C τ - 1) d.0;
      younger = leb-true j.ran j.age d.1;
      count = eqb-true (size most_partitions j.held) (A τ) c.1;
      cache = below_lt j.held p (eqb-true (without j.held (below p)) 0 b.1);
    }

by-stage : (p : ℕ) (τ : Task) (j : Job) (s : Stage) → good_stage p τ j s ≡ true → ByStage p τ j s
by-stage p τ j s = by (is_idle s) (is_waiting s) (is_running s) refl refl refl
  where
    by : (a b c : Bool) → is_idle s ≡ a → is_waiting s ≡ b → is_running s ≡ c
        → cond a (idles_well j) (cond b (has_nothing j) (cond c (runs_well p τ j) false)) ≡ true → ByStage p τ j s
    by true b c i w r e =
        let h = both _ _ e in
        is-idle (idle-is s i) (record { rests = rests j h.0; old = leb-true 1 j.age h.1 })
    by false true c i w r e = is-waiting (waiting-is s w) (rests j e)
    by false false true i w r e = is-running (running-is s r) (runs_of p τ j e)
    by false false false i w r e = absurd (true≢false (sym e))

pub job_good : (p : ℕ) (τ : Task) (j : Job) → good_job p τ j ≡ true → GoodJob p τ j
unfolding good_job
job_good p τ j e =
    let b = both _ _ e in
    record { age = leb-true j.age (T τ) b.0; stage = by-stage p τ j j.stage b.1 }

-- and back
rests-test : (j : Job) → Rests j → has_nothing j ≡ true
rests-test j r = rw (r.none, r.unrun)

stage-test : (p : ℕ) (τ : Task) (j : Job) (s : Stage) → ByStage p τ j s → good_stage p τ j s ≡ true
stage-test p τ j s (is-idle q g) = rw (q, rests-test j g.rests, le-leb 1 j.age g.old)
stage-test p τ j s (is-waiting q g) = rw q (rests-test j g)
stage-test p τ j s (is-running q g) =
    rw (
      q,
      le-leb j.ran (C τ - 1) g.short,
      le-leb j.ran j.age g.younger,
      eq-eqb (size most_partitions j.held) (A τ) g.count,
      eq-eqb (without j.held (below p)) 0 (lt_below j.held p g.cache),
    )

pub job-test : (p : ℕ) (τ : Task) (j : Job) → GoodJob p τ j → good_job p τ j ≡ true
unfolding good_job
job-test p τ j g = rw (le-leb j.age (T τ) g.age, stage-test p τ j j.stage g.stage)

-- what is asked of entries past n alone
pub past-test : (n i : ℕ) (b : Bool) → (n ≤ i → b ≡ true) → leb (suc i) n || b ≡ true
past-test n i b h =
    elim (dec_le (suc i) n) [
      | yes l ↦ rw (le-leb (suc i) n l)
      | no l ↦ rw (h (omega arith)) (or-true (leb (suc i) n))
    ]

pub state-good : (m : Machine) → length m.table.rows ≡ most_tasks → good_state m ≡ true → GoodState m
unfolding good_state
state-good m len e =
    let b = both _ _ e in
    let c = both _ _ b.0 in
    let d = both _ _ c.0 in
    let f = both _ _ d.0 in
    let n = m.table.n in
    let unrefused : (refusal m.table).number ≡ 0 = eqb-true (refusal m.table).number 0 f.0 in
    let past : (i : ℕ) → n ≤ i → i < most_tasks
    → (is_no_task (τ m.table (suc i)) ≡ true) × (is_no_job (job m (suc i)) ≡ true) =
    λ i l h. both _ _ (rw (lt-leb (suc i) n (omega arith)) at (every_holds _ most_tasks f.1 i h)) in
    record {
      unrefused = unrefused;
      table = good_of m.table len unrefused;
      no_tasks = λ i l h. no-task _ (past i l h).0;
      no_jobs = λ i l h. no-job _ (past i l h).1;
      each = λ i l. job_good _ _ _ (every_holds _ n d.1 i l);
      apart = all_apart_lem _ n c.1;
      cores = leb-true (running m) (M m.table) b.1;
    }

pub state-test : (m : Machine) → GoodState m → good_state m ≡ true
unfolding good_state
state-test m g =
    rw (
      eq-eqb (refusal m.table).number 0 g.unrefused,
      every_of (λ k. leb k m.table.n || is_no_task (τ m.table k) && is_no_job (job m k)) most_tasks
          (λ i l. past-test m.table.n i _ (λ h. rw (g.no_tasks i h l, g.no_jobs i h l))),
      every_of (λ k. good_job (P m.table) (τ m.table k) (job m k)) m.table.n
          (λ i l. job-test _ _ _ (g.each i l)),
      apart-all (λ i. (job m (suc i)).held) m.table.n g.apart,
      le-leb (running m) (M m.table) g.cores,
    )
