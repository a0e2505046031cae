-- The first pass over the tasks: that it finds good exactly the good states, which refusal it finds, and what it counts
-- for step 5.
use Prim.Native.Nat.{ℕ, suc, ◌+◌, ◌<◌, ◌≤◌}
use mathlib.Core.Path.{◌≡◌, refl, sym, ◌∙◌}
use mathlib.Core.Bool.{Bool, true, false, cond}
use native.Mathlib.Nat.{not-suc-le-zero}
use native.Mathlib.Numerals.{add-one}
use native.Mathlib.Omega.{arith}
use borrow.Author.Count.{below_more}
use lib.ListN.{length}
use Rattle.std.specs.Prelude.{Result, Ok, Err}
use Rattle.maths.specs.Sums.{Σ}
use Rattle.maths.proofs.Sums.{Σ-zero, Σ-suc, Σ_mono, Σ_const}
use Rattle.table.specs.Limits.{most_tasks}
use Rattle.table.specs.Tasks.{P, τ}
use Rattle.table.specs.declared.Reason.{Reason}
use Rattle.table.specs.declared.Reason.TheVariants.{State}
use Rattle.table.specs.Reasons.{outcome}
use Rattle.table.specs.Refused.{row_refusal}
use Rattle.table.proofs.Good.{row-unrefused}
use Rattle.sets.specs.Families.{union_of}
use Rattle.sets.specs.TaskSets.{has_task}
use Rattle.sets.proofs.Unions.{union-none, union_more, apart-less, apart-last}
use Rattle.machine.specs.declared.Report.{Report}
use Rattle.ticking.specs.declared.Look.{Look}
use Rattle.machine.specs.declared.Machine.{Machine}
use Rattle.machine.specs.Jobs.{job, runs}
use Rattle.ticking.specs.Code.Passes.{turn_of, look_start, Fewer, admits, look_more, look_with}
use Rattle.machine.proofs.StateParts.{GoodState}
use Rattle.machine.proofs.StateTest.{job-test}
use Rattle.ticking.proofs.StateLoops.{Passed, passed_none, passed-more}
use Rattle.ticking.proofs.TickRules.{given_refusal, given_to, given-none, given-more}
use Rattle.ticking.proofs.TickTurns.{one-le, add_kept, or_kept, Admitted, admitted, admits-test}

module _ (m : Machine) (released finished : ℕ) where
  abbrev report : Report
  report = record { released = released; finished = finished }

  -- of a task that goes on running after step 2, and what it then holds
  abbrev pub kept : ℕ → ℕ
  kept k = cond (has_task finished k) 0 (job m k).held

  abbrev pub stays : ℕ → ℕ
  stays k = cond (has_task finished k) 0 (cond (runs m k) 1 0)

  -- what a pass knows that has found i tasks good
  pub record Looked (i : ℕ) (l : Look) : Type 0 where
    pub rows : (j : ℕ) → j < i → row_refusal (P m.table) (τ m.table (suc j)) ≡ 0
    pub jobs : Passed m i l.running.held l.running.cores.0
    pub running : l.stays.cores.0 ≡ Σ i stays
    pub holds : l.stays.held ≡ union_of i (λ j. kept (suc j))
    pub refused : l.refused ≡ outcome (given_refusal 0 (given_to m released finished i))

  pub looked-none : Looked 0 look_start
  looked-none =
      record {
        rows = λ j l. absurd (not-suc-le-zero l);
        jobs = passed_none m;
        running = sym (Σ-zero stays);
        holds = sym (union-none (λ j. kept (suc j)));
        refused = given-none m released finished;
      }

  -- what is asked of the next task
  abbrev Next : ℕ → Look → Type 0
  Next i l = Admitted (P m.table) (τ m.table (suc i)) (job m (suc i)) l

  abbrev asked : ℕ → Look → Bool
  asked i l = admits (P m.table) (τ m.table (suc i)) (job m (suc i)) l

  module _ (i : ℕ) (l : Look) (k : Looked i l) where
    looked-more : Next i l → Looked (i + 1) (look_more (turn_of m i) report l)
    looked-more f =
        rw add-one
        (record {
          rows = rw (← add-one i) (below_more _ i k.rows f.row);
          jobs = rw (← add-one i) (passed-more m i _ _ _ k.jobs f.good f.apart refl);
          running = add_kept (has_task finished (suc i)) l.stays (job m (suc i))
              ∙ rw k.running (sym (Σ-suc i stays));
          holds = or_kept (has_task finished (suc i)) l.stays (job m (suc i))
              ∙ rw k.holds (sym (union_more (λ j. kept (suc j)) i));
          refused = rw k.refused (given-more m released finished i);
        })

    -- the turn went on
    pub looked-on : (next : Look) → Ok next ≡ look_with (P m.table) (turn_of m i) report l → Looked (i + 1) next
    unfolding look_with
    looked-on next = by (asked i l) refl
      where
        by : (b : Bool) → asked i l ≡ b
            → ◌≡◌ {A = Result Look Reason} (Ok next) (cond b (Ok (look_more (turn_of m i) report l)) (Err State))
            → Looked (i + 1) next
        by true w e =
            let same : next ≡ look_more (turn_of m i) report l = cc in
            rw same (looked-more (admitted _ _ _ l w))
        by false w e = cc

    -- or it ended the pass
    pub looked-out : (why : Reason) → Err why ≡ look_with (P m.table) (turn_of m i) report l
        → (why ≡ State) × (asked i l ≡ false)
    unfolding look_with
    looked-out why = by (asked i l)
      where
        by : (b : Bool)
            → ◌≡◌ {A = Result Look Reason} (Err why) (cond b (Ok (look_more (turn_of m i) report l)) (Err State))
            → (why ≡ State) × (b ≡ false)
        by true e = cc
        by false e = (cc, refl)

    -- all tasks of a good state are admitted
    pub looks_good : GoodState m → length m.table.rows ≡ most_tasks → i < m.table.n → asked i l ≡ true
    looks_good g len h =
        let held : ℕ → ℕ = λ i. (job m (suc i)).held in
        admits-test _ _ _ l
        (record {
          row = row-unrefused m.table len g.unrefused i h;
          good = job-test _ _ _ (g.each i h);
          apart = rw k.jobs.union (apart-last held i (apart-less held (suc i) m.table.n h g.apart));
        })

    -- few tasks are found in few turns
    pub look-fewer : i < most_tasks → Fewer l
    look-fewer h =
        let running = Σ_mono i (λ k. cond (runs m k) 1 0) (λ k. 1) (λ k _ _. one-le (runs m k)) in
        let stay = Σ_mono i stays (λ k. 1) (λ k _ _. kept_le (has_task finished k) (runs m k)) in
        (omega (arith, k.jobs.runs, running, Σ_const i 1), omega (arith, k.running, stay, Σ_const i 1))
      where
        kept_le : (f r : Bool) → cond f 0 (cond r 1 0) ≤ 1
        kept_le true r = omega arith
        kept_le false r = one-le r
