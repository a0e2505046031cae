-- Laws of the sets that are built place by place, and of the sets of tasks among them.
use Prim.Native.Nat.{ℕ, zero, suc, ◌+◌, ◌-◌, ◌*◌, ◌%◌, ◌^◌, ◌<◌, ◌≤◌}
use mathlib.Core.Path.{◌≡◌, refl, sym, ◌∙◌, ap}
use mathlib.Core.Bool.{Bool, true, false, cond, ◌||◌}
use mathlib.Core.Logic.{◌⊎◌, inl, inr}
use native.Mathlib.Nat.{not-suc-le-zero, le_of_suc-le-suc, eq-or-lt_of_le, pow-suc, one-mul}
use native.Mathlib.Omega.{arith}
use native.Mathlib.Numerals.{add-one}
use borrow.Author.Tests.{lt-ltb, le-ltb}
use lib.Bits.{bit_or, or_shifted_r}
use lib.Dec.{lit<}
use lib.Pow.{shl_exact}
use Rattle.maths.specs.Tasks.{Each}
use Rattle.table.specs.Limits.{most_tasks}
use Rattle.sets.specs.Sets.{bit, has, set_where}
use Rattle.sets.specs.TaskSets.{has_task, task_bit, tasks_where}
use Rattle.sets.proofs.Bits.{bit_lt, bit-cases, bit-one, bit-none, bit-above, bit-bit_or, bit_pow_same}
use Rattle.sets.proofs.Bits.{bit_pow_other}

-- `1 << p`
pub shifted : (w p : ℕ) → p < w → 1 * 2 ^ p % 2 ^ w ≡ 2 ^ p
shifted w p h = shl_exact 1 p w (lit< tt) (omega arith) ∙ one-mul (2 ^ p)

-- a member from w on is put to a set below w: by `+` or by `|`
pub or_add : (w x : ℕ) → x < 2 ^ w → bit_or x (2 ^ w) ≡ x + 2 ^ w
or_add w x h =
    let e : bit_or x (1 * 2 ^ w) ≡ 1 * 2 ^ w + x = or_shifted_r 1 w x h in
    rw (one-mul (2 ^ w)) at e ∙ omega arith

module _ (f : ℕ → Bool) where
  pub where_none : set_where f 0 ≡ 0
  unfolding set_where
  where_none = refl

  pub where_more : (n : ℕ) → set_where f (suc n) ≡ set_where f n + cond (f n) (2 ^ n) 0
  unfolding set_where
  where_more n = refl

  pub where_lt : (n : ℕ) → set_where f n < 2 ^ n
  where_lt zero = rw where_none (lit< tt)
  where_lt (suc n) = by (f n) refl (where_lt n)
    where
      by : (b : Bool) → f n ≡ b → set_where f n < 2 ^ n → set_where f (suc n) < 2 ^ suc n
      by true e h = rw (where_more n, e) (omega (arith, pow-suc 2 n))
      by false e h = rw (where_more n, e) (omega (arith, pow-suc 2 n))

  -- a turn of a loop that builds the set: by `+`, by `|`, or not at all
  pub where_add : (n : ℕ) → f n ≡ true → set_where f (n + 1) ≡ set_where f n + 2 ^ n
  where_add n e = rw (add-one, where_more n, e)

  pub where_or : (n : ℕ) → f n ≡ true → set_where f (n + 1) ≡ bit_or (set_where f n) (2 ^ n)
  where_or n e = where_add n e ∙ sym (or_add n (set_where f n) (where_lt n))

  pub where_out : (n : ℕ) → f n ≡ false → set_where f (n + 1) ≡ set_where f n
  where_out n e = rw (add-one, where_more n, e) (omega arith)

  -- the members are those of which f is true
  pub where_above : (n p : ℕ) → n ≤ p → bit (set_where f n) p ≡ 0
  where_above n p h = bit-above n (set_where f n) p (where_lt n) h

  pub where_bit : (n p : ℕ) → p < n → bit (set_where f n) p ≡ cond (f p) 1 0
  where_bit zero p l = absurd (not-suc-le-zero l)
  where_bit (suc n) p l = by (f n) refl (eq-or-lt_of_le (le_of_suc-le-suc l)) (λ m. where_bit n p m)
    where
      by : (b : Bool) → f n ≡ b → (p ≡ n) ⊎ (p < n) → (p < n → bit (set_where f n) p ≡ cond (f p) 1 0)
          → bit (set_where f (suc n)) p ≡ cond (f p) 1 0
      by true e (inl w) r =
          rw (w, ← add-one n, where_or n e, e)
          (omega (arith, bit-bit_or (set_where f n) (2 ^ n) n, bit_pow_same n, bit_lt (set_where f n) n))
      by true e (inr w) r = rw (← add-one n, where_or n e, bit-bit_or, bit_pow_other n p (omega arith))
          (omega (arith, r w))
      by false e (inl w) r = rw (w, ← add-one n, where_out n e, e) (where_above n n (omega arith))
      by false e (inr w) r = rw (← add-one n, where_out n e) (r w)

  pub where_has : (n p : ℕ) → p < n → has (set_where f n) p ≡ f p
  where_has n p l = by (f p) refl
    where
      by : (b : Bool) → f p ≡ b → has (set_where f n) p ≡ b
      by true e = bit-one (set_where f n) p (rw e at (where_bit n p l))
      by false e = bit-none (set_where f n) p (rw e at (where_bit n p l))

pub where_same : (f g : ℕ → Bool) (n : ℕ) → ((i : ℕ) → i < n → f i ≡ g i) → set_where f n ≡ set_where g n
where_same f g zero h = where_none f ∙ sym (where_none g)
where_same f g (suc n) h =
    rw (where_more f n, where_more g n, where_same f g n (λ i l. h i (omega arith)), h n (omega arith))

-- of none is f true
pub where_empty : (f : ℕ → Bool) (n : ℕ) → ((i : ℕ) → i < n → f i ≡ false) → set_where f n ≡ 0
where_empty f zero h = where_none f
where_empty f (suc n) h = rw (where_more f n, where_empty f n (λ i l. h i (omega arith)), h n (omega arith))

-- tasks
pub task-is : (i : ℕ) → i < most_tasks → task_bit (i + 1) ≡ 2 ^ i
task-is i h =
    let e : i + 1 - 1 ≡ i = omega arith in
    rw (le-ltb (i + 1) 1 (omega arith), le-ltb most_tasks (i + 1) (omega arith), e)

pub has-task : (x i : ℕ) → has_task x (i + 1) ≡ has x i
has-task x i =
    let e : i + 1 - 1 ≡ i = omega arith in
    rw (lt-ltb 0 (i + 1) (omega arith), e)

-- a union names what one of the two names
has_or : (x y p : ℕ) → has (bit_or x y) p ≡ (has x p || has y p)
has_or x y p = by (bit-cases x p) (bit-cases y p)
  where
    by : (bit x p ≡ 0) ⊎ (bit x p ≡ 1) → (bit y p ≡ 0) ⊎ (bit y p ≡ 1) → has (bit_or x y) p ≡ (has x p || has y p)
    by (inl a) (inl b) = rw (bit-none x p a, bit-none y p b) (bit-none (bit_or x y) p (omega (arith, bit-bit_or x y p)))
    by (inl a) (inr b) = rw (bit-none x p a, bit-one y p b) (bit-one (bit_or x y) p (omega (arith, bit-bit_or x y p)))
    by (inr a) b = rw (bit-one x p a) (bit-one (bit_or x y) p (omega (arith, bit-bit_or x y p, bit_lt y p)))

pub task_or : (x y k : ℕ) → has_task (bit_or x y) k ≡ (has_task x k || has_task y k)
task_or x y zero = refl
task_or x y (suc i) = rw (lt-ltb 0 (suc i) (omega arith)) (has_or x y (suc i - 1))

-- a number below 2 ^ n names no task above n
pub task-above : (n x k : ℕ) → x < 2 ^ n → n < k → has_task x k ≡ false
task-above n x zero l h = absurd (omega arith)
task-above n x (suc i) l h =
    rw (lt-ltb 0 (suc i) (omega arith)) (bit-none x (suc i - 1) (bit-above n x (suc i - 1) l (omega arith)))

module _ (f : ℕ → Bool) (i : ℕ) where
  pub tasks_or : i < most_tasks → f (i + 1) ≡ true → bit_or (tasks_where f i) (task_bit (i + 1)) ≡ tasks_where f (i + 1)
  tasks_or h e = rw (task-is i h) (sym (where_or (λ j. f (suc j)) i (rw add-one at e)))

  pub tasks-out : f (i + 1) ≡ false → tasks_where f i ≡ tasks_where f (i + 1)
  tasks-out e = sym (where_out (λ j. f (suc j)) i (rw add-one at e))

pub tasks-has : (f : ℕ → Bool) (n k : ℕ) → 0 < k → k ≤ n → has_task (tasks_where f n) k ≡ f k
tasks-has f n k h l =
    let e : suc (k - 1) ≡ k = omega arith in
    rw (lt-ltb 0 k h) (where_has (λ j. f (suc j)) n (k - 1) (omega arith) ∙ ap f e)

-- nobody is in the empty set, nor one above n in a set of tasks 1 to n, which is empty where it has none of these
pub task-none : (k : ℕ) → has_task 0 k ≡ false
task-none zero = refl
task-none (suc i) = task-above 0 0 (suc i) (lit< tt) (omega arith)

pub tasks-above : (f : ℕ → Bool) (n k : ℕ) → n < k → has_task (tasks_where f n) k ≡ false
tasks-above f n k l = task-above n (tasks_where f n) k (where_lt (λ i. f (suc i)) n) l

pub tasks-none : (f : ℕ → Bool) (n : ℕ) → Each n (λ k. has_task (set_where f n) k ≡ false) → set_where f n ≡ 0
tasks-none f n h =
    where_empty f n
    (λ i l. sym (where_has f n i l)
    ∙ (sym (has-task (set_where f n) i) ∙ rw add-one (h (suc i) (omega arith) l)))
