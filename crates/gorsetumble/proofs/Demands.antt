-- The demands hold of the lent forms: from the laws of set-up, of the tick and of the answers, and demand 3 from the
-- theorem of the definitions.
use Prim.Native.Nat.{ℕ, suc, ◌<◌, ◌≤◌}
use mathlib.Core.Path.{◌≡◌, refl, sym, ◌∙◌, ap, subst}
use mathlib.Core.Bool.{Bool, true, false, true≢false}
use mathlib.Core.List.{List, []}
use mathlib.Core.Logic.{◌≢◌}
use native.Mathlib.Omega.{arith}
use native.Mathlib.Decide.{dec_lt}
use borrow.Author.Tests.{lt-ltb, le-ltb, eqb-true, ne_eqb}
use lib.Dec.{eqb}
use lib.ListN.{length}
use Rattle.maths.proofs.Padded.{length-padded}
use Rattle.table.specs.declared.Platform.{Platform}
use Rattle.table.specs.declared.Task.{Task}
use Rattle.table.specs.declared.Table.{Table}
use Rattle.table.specs.Limits.{most_tasks}
use Rattle.table.specs.Refused.{refusal, table_rules}
use Rattle.table.specs.Tasks.{no_task, table_of}
use Rattle.admission.proofs.Answers.{answers_agree}
use Rattle.machine.specs.declared.Job.{Job}
use Rattle.machine.specs.declared.Machine.{Machine}
use Rattle.machine.specs.declared.Stage.{Stage}
use Rattle.machine.specs.Jobs.{job}
use Rattle.machine.specs.Conditions.{good_state}
use Rattle.machine.specs.Fresh.{SetUp, set_up}
use Rattle.machine.specs.Tick.{Ticked, tick_refusal, accepted, refused_answer, tick}
use Rattle.machine.proofs.StateParts.{Staged, when_good}
use Rattle.machine.proofs.StateTest.{state-good}
use Rattle.machine.proofs.StateFresh.{set-up-fresh, set_up_forgets_lem, set-up-refused}
use Rattle.promise.specs.Sequences.{Report}
use Rattle.promise.specs.Promise.{Admitted, Kept}
use Rattle.promise.proofs.Demand3 as promise
use Rattle.promise.proofs.Test.{not-refused}
use Rattle.gorsetumble.specs.Demands.{LentDemand1, LentDemand2, LentDemand3, since}

pub set-up-number : (m : Machine) (t : Table) → (set_up m t).refused.number ≡ (refusal t).number
unfolding set_up
set-up-number m t = refl

-- a refused tick returns the machine and the refusal
pub tick-refused : (m : Machine) (released finished : ℕ) → (tick m released finished).answer.refused.number ≢ 0
    → tick m released finished
    ≡ record { machine = m; answer = refused_answer (tick m released finished).answer.refused }
unfolding tick
tick-refused m released finished h = by (accepted m released finished) refl h
  where
    by : (b : Bool) → accepted m released finished ≡ b → (tick m released finished).answer.refused.number ≢ 0
        → tick m released finished
        ≡ record { machine = m; answer = refused_answer (tick m released finished).answer.refused }
    by true e h = absurd (h (rw e (eqb-true _ 0 e)))
    by false e h = rw e

-- a good state has no stage above 2
staged-low : (s : Stage) → Staged s → 2 < s.0 → ⊥
staged-low s k l =
    let none : (b : ℕ) → b ≤ 2 → eqb s.0 b ≡ false = λ b h. ne_eqb s.0 b (λ e. omega (arith, e)) in
    true≢false (sym (k (none 0 (omega arith)) (none 1 (omega arith))) ∙ none 2 (omega arith))

no-stage : (m : Machine) → length m.table.rows ≡ most_tasks → (i : ℕ) → i < most_tasks
    → 2 < (job m (suc i)).stage.0 → good_state m ≡ false
no-stage m len i l high = by (good_state m) refl
  where
    by : (b : Bool) → good_state m ≡ b → b ≡ false
    by false e = refl
    by true e =
        let g = state-good m len e in
        elim (dec_lt i m.table.n) [
          | yes h ↦ absurd (staged-low (job m (suc i)).stage (when_good (g.each i h)) high)
          | no h ↦ absurd (omega (arith, high, ap (λ (j : Job). j.stage.0) (g.no_jobs i (omega arith) l)))
        ]

no-stage-tick : (m : Machine) (released finished : ℕ) → good_state m ≡ false
    → (tick m released finished).answer.refused ≡ record { number = 14; row = 0 }
unfolding tick tick_refusal
no-stage-tick m released finished e = rw e

pub demand_1 : LentDemand1
demand_1 =
    record {
      set_up_refused = λ m p rows h. ap (λ (s : SetUp). s.machine)
          (set-up-refused m (table_of p rows) (λ e. h (set-up-number m (table_of p rows) ∙ e)));
      set_up_forgets = λ m other p rows e. ap (λ (s : SetUp). s.machine)
          (set_up_forgets_lem m other (table_of p rows) (sym (set-up-number m (table_of p rows)) ∙ e));
      no_stage = λ m len i l high released finished. no-stage-tick m released finished (no-stage m len i l high);
      tick_refused = λ m released finished h. (
        ap (λ (r : Ticked). r.machine) (tick-refused m released finished h),
        ap (λ (r : Ticked). r.answer) (tick-refused m released finished h),
      );
    }

no-rows-refused : (p : Platform) → refusal (table_of p []) ≡ record { number = 1; row = 0 }
unfolding refusal table_rules
no-rows-refused p = refl

too_many_refused : (p : Platform) (rows : List Task) → most_tasks < length rows
    → refusal (table_of p rows) ≡ record { number = 1; row = 0 }
unfolding refusal table_rules
too_many_refused p rows l = rw (le-ltb (length rows) 1 (omega arith), lt-ltb most_tasks (length rows) l)

pub demand_2 : LentDemand2
demand_2 =
    record { none = no-rows-refused; too_many = too_many_refused; agree = λ p rows. answers_agree (table_of p rows) }

-- of a table that is admitted: set-up is not refused, and from there on the machine keeps the promise
pub promised : (m : Machine) (t : Table) → Admitted t → (reports : List Report)
    → ((set_up m t).refused.number ≡ 0) × Kept t (since (set_up m t).machine reports)
promised m t a reports =
    let fits : (refusal t).number ≡ 0 = not-refused t a in (
      set-up-number m t ∙ fits,
      subst (λ (s : Machine). Kept t (since s reports)) (sym (ap (λ (s : SetUp). s.machine) (set-up-fresh m t fits)))
          (promise.demand_3 t a reports),
    )

pub demand_3 : LentDemand3
demand_3 m p rows v = promised m (table_of p rows)
    (record { whole = length-padded no_task most_tasks rows; verdict = v })
