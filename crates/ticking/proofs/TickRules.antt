-- Refusals 9 to 13: from the rules, which go over 32 tasks and the states after steps 1 and 2, to what the code asks of
-- tasks 1 to n.
use Prim.Native.Nat.{ℕ, zero, suc, ◌+◌, ◌^◌, ◌<◌, ◌≤◌}
use mathlib.Core.Path.{◌≡◌, refl, sym, ◌∙◌, ap}
use mathlib.Core.Bool.{Bool, true, false, cond, not, ◌&&◌, ◌||◌, true≢false, and-false}
use native.Mathlib.Numerals.{add-one}
use native.Mathlib.Omega.{arith}
use native.Mathlib.Decide.{dec_lt}
use borrow.Author.Tests.{lt-ltb, le-ltb, ne_eqb, eqb-true}
use lib.Bits.{bit_or}
use lib.Dec.{ltb, eqb}
use Rattle.std.specs.Prelude.{Ok}
use Rattle.maths.specs.Tasks.{lowest, or_else}
use Rattle.maths.proofs.Tasks.{lowest-ext, lowest_empty, lowest_beyond, lowest-none, lowest-past, lowest-found}
use Rattle.maths.proofs.Tasks.{lowest-stays}
use Rattle.table.specs.declared.Refusal.{Refusal}
use Rattle.table.specs.Limits.{most_tasks}
use Rattle.table.specs.Tasks.{τ, T, C}
use Rattle.table.specs.Reasons.{outcome}
use Rattle.sets.specs.TaskSets.{has_task}
use Rattle.sets.proofs.Wheres.{task_or, task-above}
use Rattle.machine.specs.declared.Machine.{Machine}
use Rattle.machine.specs.Jobs.{job, idles, runs}
use Rattle.machine.specs.Steps.{passed, finish}
use Rattle.ticking.specs.Code.Passes.{given10, given11, given12, given13, given_number, refuses, first_of}
use Rattle.machine.specs.Tick.{tick_rules, first_given}
use Rattle.machine.proofs.Jobs.{passed-job, finished-job}
use Rattle.machine.proofs.StateParts.{GoodState}

-- the loop over the tasks above n
module _ (x n : ℕ) where
  abbrev pub above : ℕ → Bool
  above k = ltb n k && has_task x k

  pub above-none : lowest n above ≡ 0
  above-none = lowest_empty above n (λ i l. rw (le-ltb n (suc i) l))

  module _ (k : ℕ) (from : n ≤ k) (none : lowest k above ≡ 0) where
    pub above-found : k < most_tasks → has_task x (k + 1) ≡ true → k + 1 ≡ lowest most_tasks above
    above-found l e =
        let here : lowest (k + 1) above ≡ suc k =
        lowest-found above k none (rw (lt-ltb n (suc k) (omega arith)) (rw add-one at e)) ∙ add-one k in
        add-one k ∙ sym (lowest-stays above (k + 1) most_tasks k (omega arith) here)

    pub above-past : has_task x (k + 1) ≡ false → lowest (k + 1) above ≡ 0
    above-past e = lowest-past above k none (rw (lt-ltb n (suc k) (omega arith)) (rw add-one at e))

-- a set below 2 ^ n names no task above n
pub none_above : (n x : ℕ) → x < 2 ^ n → lowest most_tasks (above x n) ≡ 0
none_above n x h = lowest_empty (above x n) most_tasks (λ i l. at i (dec_lt n (suc i)))
  where
    at : (i : ℕ) → Dec (n < suc i) → above x n (suc i) ≡ false
    at i (yes l) = rw (task-above n x (suc i) h l) (and-false (ltb n (suc i)))
    at i (no l) = rw (le-ltb n (suc i) (omega arith))

-- the lowest task of which each of refusals 10 to 13 is given, or 0
pub record Given : Type 0 where
  pub ten : ℕ
  pub eleven : ℕ
  pub twelve : ℕ
  pub thirteen : ℕ

-- the first that is given, where refusal 9 is given of task `nine`, or of none
unfoldable pub given_refusal : ℕ → Given → Refusal
given_refusal nine g =
    cond (eqb nine 0)
    (cond (eqb g.ten 0)
    (cond (eqb g.eleven 0)
    (cond (eqb g.twelve 0)
    (cond (eqb g.thirteen 0) (refuses 0 0) (refuses 13 g.thirteen))
    (refuses 12 g.twelve))
    (refuses 11 g.eleven))
    (refuses 10 g.ten))
    (refuses 9 nine)

-- over tasks 1 to n
unfoldable pub given_to : Machine → ℕ → ℕ → ℕ → Given
given_to m released finished n =
    record {
      ten = lowest n (λ k. given10 (job m k) (has_task finished k));
      eleven = lowest n (λ k. given11 (τ m.table k) (job m k) (has_task finished k));
      twelve = lowest n (λ k. given12 (τ m.table k) (job m k) (has_task released k));
      thirteen = lowest n (λ k. given13 (τ m.table k) (job m k) (has_task released k) (has_task finished k));
    }

-- one task more, of which the four are given as the four tests say
abbrev numbered : Bool → Bool → Bool → Bool → ℕ
numbered w x y z = cond w 10 (cond x 11 (cond y 12 (cond z 13 0)))

abbrev given_of : ℕ → ℕ → ℕ → ℕ → Given
given_of a b c d = record { ten = a; eleven = b; twelve = c; thirteen = d }

some : (n : ℕ) → eqb (suc n) 0 ≡ false
some n = ne_eqb (suc n) 0 (λ e. absurd (omega arith))

first_more : (k a b c d : ℕ) (w x y z : Bool)
    → first_of (outcome (given_refusal 0 (given_of a b c d))) (numbered w x y z) (suc k)
    ≡ outcome (given_refusal 0 (given_of (or_else a (cond w (suc k) 0)) (or_else b (cond x (suc k) 0))
    (or_else c (cond y (suc k) 0))
    (or_else d (cond z (suc k) 0))))
unfolding given_refusal
first_more k (suc a) b c d true x y z = simp some
first_more k (suc a) b c d false true y z = simp some
first_more k (suc a) b c d false false true z = simp some
first_more k (suc a) b c d false false false true = simp some
first_more k (suc a) b c d false false false false = simp some
first_more k zero (suc b) c d true x y z = simp some
first_more k zero (suc b) c d false true y z = simp some
first_more k zero (suc b) c d false false true z = simp some
first_more k zero (suc b) c d false false false true = simp some
first_more k zero (suc b) c d false false false false = simp some
first_more k zero zero (suc c) d true x y z = simp some
first_more k zero zero (suc c) d false true y z = simp some
first_more k zero zero (suc c) d false false true z = simp some
first_more k zero zero (suc c) d false false false true = simp some
first_more k zero zero (suc c) d false false false false = simp some
first_more k zero zero zero (suc d) true x y z = simp some
first_more k zero zero zero (suc d) false true y z = simp some
first_more k zero zero zero (suc d) false false true z = simp some
first_more k zero zero zero (suc d) false false false true = simp some
first_more k zero zero zero (suc d) false false false false = simp some
first_more k zero zero zero zero true x y z = simp some
first_more k zero zero zero zero false true y z = simp some
first_more k zero zero zero zero false false true z = simp some
first_more k zero zero zero zero false false false true = simp some
first_more k zero zero zero zero false false false false = refl

module _ (m : Machine) (released finished : ℕ) where
  pub given-none : Ok tt ≡ outcome (given_refusal 0 (given_to m released finished 0))
  unfolding given_refusal given_to lowest
  given-none = refl

  pub given-more : (k : ℕ)
      → first_of (outcome (given_refusal 0 (given_to m released finished k)))
      (given_number (τ m.table (suc k)) (job m (suc k)) (has_task released (suc k)) (has_task finished (suc k))) (suc k)
      ≡ outcome (given_refusal 0 (given_to m released finished (suc k)))
  unfolding given_to lowest
  given-more k =
      let g = given_to m released finished k in
      let t = τ m.table (suc k) in
      let j = job m (suc k) in
      let r = has_task released (suc k) in
      let f = has_task finished (suc k) in
      first_more k g.ten g.eleven g.twelve g.thirteen (given10 j f) (given11 t j f)
      (given12 t j r) (given13 t j r f)

pub neither : (a b : Bool) → a || b ≡ false → (a ≡ false) × (b ≡ false)
neither true b e = absurd (true≢false e)
neither false b e = (refl, e)

module _ (m : Machine) (released finished : ℕ) (g : GoodState m) where
  few : m.table.n ≤ most_tasks
  few = g.table.sizes.few

  abbrev nine : ℕ
  nine = lowest most_tasks (above (bit_or released finished) m.table.n)

  nine-is : lowest most_tasks (λ k. ltb m.table.n k && (has_task released k || has_task finished k)) ≡ nine
  nine-is = lowest-ext _ _ most_tasks (λ i l. rw (task_or released finished (suc i)))

  -- no task above n is named
  named : nine ≡ 0 → (i : ℕ) → m.table.n ≤ i → i < most_tasks
      → (has_task released (suc i) ≡ false) × (has_task finished (suc i) ≡ false)
  named e i h l =
      let no : has_task (bit_or released finished) (suc i) ≡ false =
      rw (lt-ltb m.table.n (suc i) (omega arith)) at
      (lowest-none (above (bit_or released finished) m.table.n) most_tasks e i l) in
      neither _ _ (sym (task_or released finished (suc i)) ∙ no)

  -- each rule over all 32 tasks, as `tick_rules` has it
  abbrev as_ruled : Given
  as_ruled =
      record {
        ten = lowest most_tasks (λ k. has_task finished k && not (runs m k));
        eleven = lowest most_tasks
            (λ k. runs m k && eqb (job (passed m) k).ran (C (τ m.table k)) && not (has_task finished k));
        twelve = lowest most_tasks (λ k. has_task released k && ltb (job (passed m) k).age (T (τ m.table k)));
        thirteen = lowest most_tasks (λ k. has_task released k && not (idles (finish finished (passed m)) k));
      }

  abbrev given : Given
  given = given_to m released finished m.table.n

  module _ (e : nine ≡ 0) where
    ten-is : as_ruled.ten ≡ given.ten
    unfolding given_to
    ten-is = lowest_beyond _ m.table.n most_tasks few (λ i h l. rw (named e i h l).1)

    eleven-is : as_ruled.eleven ≡ given.eleven
    unfolding given_to
    eleven-is =
        lowest_beyond _ m.table.n most_tasks few (λ i h l. rw (g.no_jobs i h l))
        ∙ lowest-ext _ _ m.table.n (λ i l. rw (passed-job m (suc i) (omega arith) l (omega arith)))

    twelve-is : as_ruled.twelve ≡ given.twelve
    unfolding given_to
    twelve-is =
        lowest_beyond _ m.table.n most_tasks few (λ i h l. rw (named e i h l).0)
        ∙ lowest-ext _ _ m.table.n (λ i l. rw (passed-job m (suc i) (omega arith) l (omega arith)))

    thirteen-is : as_ruled.thirteen ≡ given.thirteen
    unfolding given_to
    thirteen-is =
        lowest_beyond _ m.table.n most_tasks few (λ i h l. rw (named e i h l).0)
        ∙ lowest-ext _ _ m.table.n (λ i l. rw (finished-job m (suc i) (omega arith) l (omega arith) finished))

    ruled_is : as_ruled ≡ given
    ruled_is = λ i. record { ten = ten-is i; eleven = eleven-is i; twelve = twelve-is i; thirteen = thirteen-is i }

  pub first-is : first_given (tick_rules m released finished) ≡ given_refusal nine given
  unfolding tick_rules first_given given_refusal
  first-is = ap (λ (z : ℕ). given_refusal z as_ruled) nine-is ∙ by (eqb nine 0) refl
    where
      by : (b : Bool) → eqb nine 0 ≡ b → given_refusal nine as_ruled ≡ given_refusal nine given
      by true w = ap (given_refusal nine) (ruled_is (eqb-true nine 0 w))
      by false w = rw w
