-- What the first pass and the pass over the entries past n come to: whether the state is good, and the refusal of the
-- tick; and what an accepted tick is for each task.
use Prim.Native.Nat.{ℕ, zero, suc, ◌+◌, ◌<◌, ◌≤◌}
use mathlib.Core.Path.{◌≡◌, refl, sym, ◌∙◌, ap}
use mathlib.Core.Bool.{Bool, true, false, cond, ◌&&◌, ◌||◌, true≢false, and-false}
use mathlib.Core.List.{List, [], ◌∷◌}
use native.Mathlib.Numerals.{add-one}
use native.Mathlib.Omega.{arith}
use borrow.Author.Tests.{le-leb, lt-leb, eq-eqb, ne_eqb}
use lib.Bits.{bit_or}
use lib.Dec.{leb, eqb}
use lib.ListN.{length}
use Rattle.maths.specs.Rules.{Rule}
use Rattle.maths.specs.Tasks.{every, lowest}
use Rattle.maths.proofs.Tasks.{every_of}
use Rattle.maths.proofs.Tests.{false_of}
use Rattle.std.specs.Prelude.{Some, Result, Ok, Err}
use Rattle.std.specs.Result.{is_err}
use Rattle.table.specs.Limits.{most_tasks}
use Rattle.table.specs.Tasks.{τ, P}
use Rattle.table.specs.declared.Reason.{Reason}
use Rattle.table.specs.declared.Refusal.{Refusal}
use Rattle.table.specs.Reasons.{number, number_of, outcome}
use Rattle.table.specs.Refused.{sizes_refusal, refusal}
use Rattle.table.specs.declared.Table.{Table}
use Rattle.table.proofs.Good.{good-sizes, sizes-unrefused, not_refused_of}
use Rattle.table.proofs.Laws.{numbered}
use Rattle.sets.specs.TaskSets.{has_task}
use Rattle.sets.proofs.Unions.{apart-all}
use Rattle.ticking.specs.declared.Busy.{Busy}
use Rattle.ticking.specs.declared.Look.{Look}
use Rattle.machine.specs.declared.Machine.{Machine}
use Rattle.ticking.specs.declared.Past.{Past}
use Rattle.machine.specs.Jobs.{job, running}
use Rattle.machine.specs.Conditions.{good_state}
use Rattle.ticking.specs.Code.Passes.{refuses, past_with, past_none, zero_entry, zero_to, admits, first_above}
use Rattle.ticking.specs.Code.Passes.{task_or_none, busy_in}
use Rattle.ticking.specs.Code.Passes.{judged}
use Rattle.machine.specs.Tick.{tick_rules, first_given, tick_refusal, readied, accepted}
use Rattle.machine.proofs.StateParts.{GoodState}
use Rattle.machine.proofs.StateTest.{state-good, state-test}
use Rattle.machine.proofs.Accepted.{accepted-is}
use Rattle.machine.proofs.Taken.{Taken, taken}
use Rattle.ticking.proofs.StateLoops.{good_task, running-all}
use Rattle.ticking.proofs.TickTurns.{past_more}
use Rattle.ticking.proofs.TickRules.{given_refusal, given_to, first-is}
use Rattle.ticking.proofs.TickLook.{Looked, looks_good}

module _ (m : Machine) where
  pub zero-none : (k : ℕ) → k ≤ m.table.n → true ≡ zero_to m k
  zero-none k h = sym (every_of (λ j. leb j m.table.n || zero_entry m j) k
      (λ i l. rw (le-leb (suc i) m.table.n (omega arith))))

  pub zero_more : (k : ℕ) (past : Past) → m.table.n ≤ k → past_none past ≡ zero_to m k
      → past_none (past_with (τ m.table (suc k)) (job m (suc k)) past) ≡ zero_to m (k + 1)
  unfolding every
  zero_more k past h e =
      past_more (τ m.table (suc k)) (job m (suc k)) past
      ∙ (ap (λ (b : Bool). b && zero_entry m (suc k)) e ∙ rw (add-one k, lt-leb (suc k) m.table.n (omega arith)))

-- a table that is not refused for its sizes
sizes_ok : (r : Result Unit Reason) (number : ℕ) → number_of r ≡ number → is_err r ≡ false → number ≡ 0
sizes_ok (Ok x) number e b = sym e
sizes_ok (Err r) number e b = absurd (true≢false b)

pub few-tasks : (t : Table) (r : Result Unit Reason) → number_of r ≡ sizes_refusal t → is_err r ≡ false
    → t.n ≤ most_tasks
few-tasks t r e b = (good-sizes t (sizes_ok r (sizes_refusal t) e b)).few

pub no-task-above : (k : ℕ) → ((x : ℕ) → task_or_none k ≡ Some x → ⊥) → k ≡ 0
no-task-above zero h = refl
no-task-above (suc i) h = absurd (h (suc i) refl)

-- a refusal of number 0 is none
abbrev Numbered : List (Rule ℕ) → Type 0
Numbered [] = Unit
Numbered (r ∷ rs) = (eqb r.number 0 ≡ false) × Numbered rs

none_first : (rs : List (Rule ℕ)) → Numbered rs → (first_given rs).number ≡ 0 → first_given rs ≡ refuses 0 0
unfolding first_given
none_first [] n e = refl
none_first (r ∷ rs) n e = by (none_first rs n.1) (eqb (lowest most_tasks r.given) 0) e
  where
    by : ((first_given rs).number ≡ 0 → first_given rs ≡ refuses 0 0) → (b : Bool)
        → (cond b (first_given rs) (refuses r.number (lowest most_tasks r.given))).number ≡ 0
        → cond b (first_given rs) (refuses r.number (lowest most_tasks r.given)) ≡ refuses 0 0
    by rest true z = rest z
    by rest false z = absurd (true≢false (sym (eq-eqb r.number 0 z) ∙ n.0))

pub unrefused : (m : Machine) (released finished : ℕ) → (tick_refusal m released finished).number ≡ 0
    → tick_refusal m released finished ≡ refuses 0 0
unfolding tick_refusal tick_rules
unrefused m released finished = by (good_state m)
  where
    by : (b : Bool) → (cond b (first_given (tick_rules m released finished)) (refuses 14 0)).number ≡ 0
        → cond b (first_given (tick_rules m released finished)) (refuses 14 0) ≡ refuses 0 0
    by true e = none_first (tick_rules m released finished) (refl, (refl, (refl, (refl, (refl, tt))))) e
    by false e = absurd (omega arith)

module _ (m : Machine) (released finished : ℕ) where
  -- refusal 14
  pub judged-bad : good_state m ≡ false → judged m released finished ≡ Err (refuses 14 0)
  unfolding judged tick_refusal
  judged-bad e = rw e refl

  abbrev nine : ℕ
  nine = first_above (bit_or released finished) m.table.n

  module _ (g : GoodState m) where
    refusal-is : tick_refusal m released finished
        ≡ given_refusal nine (given_to m released finished m.table.n)
    unfolding tick_refusal
    refusal-is = rw (state-test m g) (first-is m released finished g)

    -- refusal 9
    given_nine : (i : ℕ) → nine ≡ suc i → judged m released finished ≡ Err (refuses 9 (suc i))
    unfolding judged given_refusal
    given_nine i e = rw (refusal-is, e) (simp (ne_eqb (suc i) 0 (λ z. absurd (omega arith))))

    pub judged-nine : (k : ℕ) → task_or_none nine ≡ Some k → judged m released finished ≡ Err (refuses 9 k)
    judged-nine k = by nine refl
      where
        by : (n : ℕ) → nine ≡ n → task_or_none n ≡ Some k → judged m released finished ≡ Err (refuses 9 k)
        by zero e h = cc
        by (suc i) e h = let same : suc i ≡ k = cc in rw (← same) (given_nine i e)

    -- refusals 10 to 13, or none
    module _ (e : nine ≡ 0) (l : Look) (seen : Looked m released finished m.table.n l) where
      refused_so : l.refused ≡ outcome (tick_refusal m released finished)
      refused_so = seen.refused
          ∙ ap outcome (sym (refusal-is
          ∙ ap (λ (z : ℕ). given_refusal z (given_to m released finished m.table.n)) e))

      pub judged-given : (r : Refusal) → l.refused ≡ Err r → judged m released finished ≡ Err r
      unfolding judged
      judged-given r h = by (eqb (tick_refusal m released finished).number 0) (sym refused_so ∙ h)
        where
          by : (b : Bool)
              → ◌≡◌ {A = Result Unit Refusal} (cond b (Ok tt) (Err (tick_refusal m released finished))) (Err r)
              → ◌≡◌ {A = Result Busy Refusal}
              (cond b (Ok (busy_in (readied m released finished))) (Err (tick_refusal m released finished))) (Err r)
          by true w = cc
          by false w = cc

      pub judged-none : (x : Unit) → l.refused ≡ Ok x → accepted m released finished ≡ true
      judged-none x h = by (eqb (tick_refusal m released finished).number 0) (sym refused_so ∙ h)
        where
          by : (b : Bool)
              → ◌≡◌ {A = Result Unit Refusal} (cond b (Ok tt) (Err (tick_refusal m released finished))) (Ok x)
              → b ≡ true
          by true w = refl
          by false w = cc

  -- what the first pass finds tells whether the state is good
  module _ (len : length m.table.rows ≡ most_tasks) where
    pub sizes-bad : (r : Result Unit Reason) → number_of r ≡ sizes_refusal m.table → is_err r ≡ true
        → good_state m ≡ false
    sizes-bad (Ok x) e b = absurd (true≢false (sym b))
    sizes-bad (Err r) e b =
        false_of (good_state m)
        (λ w. let z = sizes-unrefused m.table len (state-good m len w).unrefused in
        let n : eqb (number r) 0 ≡ true = rw (e, z) refl in
        true≢false (sym n ∙ numbered r))

    pub task-bad : (i : ℕ) (l : Look) → Looked m released finished i l → i < m.table.n
        → admits (P m.table) (τ m.table (suc i)) (job m (suc i)) l ≡ false → good_state m ≡ false
    task-bad i l k h e =
        false_of (good_state m)
        (λ w. true≢false (sym (looks_good m released finished i l k (state-good m len w) len h) ∙ e))

    pub rest-bad : zero_to m most_tasks ≡ false → good_state m ≡ false
    unfolding good_state
    rest-bad e = rw (e, and-false)

    module _ (l : Look) (k : Looked m released finished m.table.n l) where
      cores_so : running m ≡ l.running.cores.0
      cores_so = sym (k.jobs.runs ∙ running-all m)

      pub cores-bad : m.table.platform.cores.0 < l.running.cores.0 → good_state m ≡ false
      cores-bad h = false_of (good_state m) (λ w. absurd (omega (arith, cores_so, (state-good m len w).cores)))

      pub state-is : (r : Result Unit Reason) → number_of r ≡ sizes_refusal m.table → is_err r ≡ false
          → zero_to m most_tasks ≡ true → l.running.cores.0 ≤ m.table.platform.cores.0 → GoodState m
      unfolding good_state
      state-is r e b rest cores =
          state-good m len
          (rw (
            eq-eqb (refusal m.table).number 0 (not_refused_of m.table len (sizes_ok r _ e b) k.rows),
            rest,
            every_of (good_task m) m.table.n k.jobs.good,
            apart-all (λ i. (job m (suc i)).held) m.table.n k.jobs.apart,
            cores_so,
          ) (le-leb l.running.cores.0 m.table.platform.cores.0 cores))

  -- behind the first pass, where no test told that the state is not good
  pub record Passed (l : Look) : Type 0 where
    pub seen : Looked m released finished m.table.n l
    pub good : GoodState m

  pub passed : length m.table.rows ≡ most_tasks → (i : ℕ) (l : Look) → Looked m released finished i l
      → m.table.n ≤ i → i ≤ m.table.n
      → (r : Result Unit Reason) → number_of r ≡ sizes_refusal m.table → is_err r ≡ false
      → zero_to m most_tasks ≡ true → l.running.cores.0 ≤ m.table.platform.cores.0 → Passed l
  passed len i l k past few r e b rest cores =
      let at-end : i ≡ m.table.n = omega arith in
      let seen : Looked m released finished m.table.n l = rw at-end at k in
      record { seen = seen; good = state-is len l seen r e b rest cores }

-- what an accepted tick is
pub record Accepts (m : Machine) (released finished : ℕ) : Type 0 where
  pub test : good_state m ≡ true
  pub good : GoodState m
  pub each : (i : ℕ) → i < m.table.n
      → Taken (τ m.table (suc i)) (has_task released (suc i)) (has_task finished (suc i)) (job m (suc i))

pub accepts : (m : Machine) (released finished : ℕ) → length m.table.rows ≡ most_tasks
    → accepted m released finished ≡ true → Accepts m released finished
accepts m released finished len e =
    let a = accepted-is m released finished e in
    let g = state-good m len a.before.good in
    record {
      test = a.before.good;
      good = g;
      each = λ i l. taken m released finished g.table.sizes.few a (suc i) (omega arith) l;
    }
