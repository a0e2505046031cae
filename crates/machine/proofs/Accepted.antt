-- What it says of each task that none of refusals 14 and 9 to 13 is given, and what it says that 13 is.
use Prim.Native.Nat.{ℕ, zero, suc, ◌≤◌}
use mathlib.Core.Path.{◌≡◌, refl, sym, ◌∙◌, ap}
use mathlib.Core.Bool.{Bool, true, false, cond, not, ◌&&◌, ◌||◌, true≢false}
use mathlib.Core.List.{List, [], ◌∷◌}
use mathlib.Core.Logic.{◌≢◌}
use native.Mathlib.Omega.{arith}
use borrow.Author.Tests.{ltb-false, eqb-true, eqb-false, not-false}
use lib.Dec.{eqb}
use Rattle.maths.specs.Rules.{Rule, rule}
use Rattle.maths.specs.Tasks.{Each, lowest}
use Rattle.maths.proofs.Tasks.{each, lowest-none, lowest-holds}
use Rattle.table.specs.declared.Refusal.{Refusal}
use Rattle.table.specs.Limits.{most_tasks}
use Rattle.table.specs.Tasks.{τ, T, C}
use Rattle.sets.specs.TaskSets.{has_task}
use Rattle.machine.specs.declared.Machine.{Machine}
use Rattle.machine.specs.Jobs.{job, idles, runs}
use Rattle.machine.specs.Conditions.{good_state}
use Rattle.machine.specs.Steps.{passed, finish}
use Rattle.machine.specs.Tick.{tick_rules, first_given, tick_refusal, accepted}

-- none of 9 to 12 is given: refusals are tried in that order
pub record Before13 (m : Machine) (released finished : ℕ) : Type 0 where
  pub good : good_state m ≡ true
  pub in_table : Each most_tasks (λ k. has_task released k ≡ true → k ≤ m.table.n)
  pub ran : Each most_tasks (λ k. has_task finished k ≡ true → runs m k ≡ true)
  pub over : Each most_tasks
      (λ k. runs m k ≡ true → has_task finished k ≡ false → (job (passed m) k).ran ≢ C (τ m.table k))
  pub due : Each most_tasks (λ k. has_task released k ≡ true → T (τ m.table k) ≤ (job (passed m) k).age)

-- nor 13
pub record Accepted (m : Machine) (released finished : ℕ) : Type 0 where
  pub before : Before13 m released finished
  pub free : Each most_tasks (λ k. has_task released k ≡ true → idles (finish finished (passed m)) k ≡ true)

-- one rule after the other
later : (r : Rule ℕ) (rs : List (Rule ℕ)) (n : ℕ) → r.number ≢ n → (first_given (r ∷ rs)).number ≡ n
    → (lowest most_tasks r.given ≡ 0) × ((first_given rs).number ≡ n)
unfolding first_given
later r rs n h e = by (eqb (lowest most_tasks r.given) 0) refl e
  where
    by : (b : Bool) → eqb (lowest most_tasks r.given) 0 ≡ b
        → (cond b (first_given rs) (record { number = r.number; row = lowest most_tasks r.given })).number ≡ n
        → (lowest most_tasks r.given ≡ 0) × ((first_given rs).number ≡ n)
    by true z q = (eqb-true _ 0 z, q)
    by false z q = absurd (h q)

pub passed_over : (r : Rule ℕ) (rs : List (Rule ℕ)) → lowest most_tasks r.given ≡ 0
    → first_given (r ∷ rs) ≡ first_given rs
unfolding first_given
passed_over r rs e = rw e

pub none-given : (first_given []).number ≡ 0
unfolding first_given
none-given = refl

-- a rule that is given of no task
module _ (f : ℕ → Bool) (none : lowest most_tasks f ≡ 0) where
  of_none : Each most_tasks (λ k. f k ≡ false)
  of_none = each most_tasks (λ k. f k ≡ false) (lowest-none f most_tasks none)

pub none_of : (f : ℕ → Bool) → Each most_tasks (λ k. f k ≡ false) → lowest most_tasks f ≡ 0
none_of f no_one = by (lowest most_tasks f) refl
  where
    by : (k : ℕ) → lowest most_tasks f ≡ k → k ≡ 0
    by zero e = refl
    by (suc k) e =
        let there = lowest-holds f most_tasks k e in
        absurd (true≢false (sym there.1 ∙ no_one (suc k) (omega arith) (omega (arith, there.0))))

second : (a b : Bool) → a && b ≡ false → a ≡ true → b ≡ false
second true b e p = e
second false b e p = absurd (true≢false (sym p))

first_of : (a b : Bool) → a && b ≡ false → b ≡ true → a ≡ false
first_of true b e p = sym (sym e ∙ p)
first_of false b e p = refl

either : (a b : Bool) → a ≡ true → a || b ≡ true
either a b p = rw p

not-true : (b : Bool) → b ≡ false → not b ≡ true
not-true b p = rw p

fails : (a b : Bool) → (a ≡ true → b ≡ true) → a && not b ≡ false
fails true b h = rw (h refl)
fails false b h = refl

abbrev rule13 : Machine → ℕ → ℕ → Rule ℕ
rule13 m R F = rule 13 (λ k. has_task R k && not (idles (finish F (passed m)) k))

-- none of 9 to 12 and not 14
abbrev Other : ℕ → Type 0
Other n = (n ≢ 9) × (n ≢ 10) × (n ≢ 11) × (n ≢ 12) × (n ≢ 14)

module _ (m : Machine) (R F : ℕ) where
  -- the rules before 13 are given of no task, and 13 has the last word
  record Tried (n : ℕ) : Type 0 where
    before : Before13 m R F
    last : (first_given (rule13 m R F ∷ [])).number ≡ n

  tried : (n : ℕ) → Other n → (tick_refusal m R F).number ≡ n → Tried n
  unfolding tick_refusal tick_rules
  tried n other e = by (good_state m) refl e
    where
      by : (b : Bool) → good_state m ≡ b
          → (cond b (first_given (tick_rules m R F)) (record { number = 14; row = 0 })).number ≡ n → Tried n
      by true g q =
          let r9 = later _ _ n (omega arith) q in
          let r10 = later _ _ n (omega arith) r9.1 in
          let r11 = later _ _ n (omega arith) r10.1 in
          let r12 = later _ _ n (omega arith) r11.1 in
          record {
            before = record {
              good = g;
              in_table = λ k l h p. ltb-false _ _ (first_of _ _ (of_none _ r9.0 k l h) (either _ _ p));
              ran = λ k l h p. not-false _ (second _ _ (of_none _ r10.0 k l h) p);
              over = λ k l h p q. eqb-false _ _ (second _ _ (first_of _ _ (of_none _ r11.0 k l h) (not-true _ q)) p);
              due = λ k l h p. ltb-false _ _ (second _ _ (of_none _ r12.0 k l h) p);
            };
            last = r12.1;
          }
      by false g q = absurd (other.4 (sym q))

  pub accepted-is : accepted m R F ≡ true → Accepted m R F
  accepted-is e =
      let all = tried 0 (omega arith) (eqb-true _ 0 e) in
      let r13 = later _ _ 0 (omega arith) all.last in
      record {
        before = all.before;
        free = λ k l h p. not-false _ (second _ _ (of_none _ r13.0 k l h) p);
      }

  -- 13 is not given where each released task is idle after step 2
  pub never_13 : (Before13 m R F → Each most_tasks (λ k. has_task R k ≡ true → idles (finish F (passed m)) k ≡ true))
      → (tick_refusal m R F).number ≢ 13
  never_13 idle e =
      let all = tried 13 (omega arith) e in
      let over = passed_over (rule13 m R F) [] (none_of _ (λ k l h. fails _ _ (idle all.before k l h))) in
      omega (arith, all.last, ap (λ (r : Refusal). r.number) over, none-given)
