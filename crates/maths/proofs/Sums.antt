-- The laws of finite sums, and their forms over tasks 1 to n. `sum` is opened here alone.
use mathlib.Core.Path.{◌≡◌, refl}
use mathlib.Core.Logic.{◌≢◌}
use Prim.Native.Nat.{ℕ, zero, suc, ◌+◌, ◌*◌, ◌≤◌, ◌<◌}
use native.Mathlib.Numerals.{add-one}
use native.Mathlib.Omega.{arith}
use native.Mathlib.Decide.{dec_lt, ℕ_discrete}
use Rattle.maths.specs.Sums.{sum, Σ}

pub sum-zero : (f : ℕ → ℕ) → sum f 0 ≡ 0
unfolding sum
sum-zero f = refl

pub sum-suc : (f : ℕ → ℕ) (n : ℕ) → sum f (suc n) ≡ sum f n + f n
unfolding sum
sum-suc f n = refl

-- as a loop's `i + 1` has it
pub sum_more : (f : ℕ → ℕ) (n : ℕ) → sum f (n + 1) ≡ sum f n + f n
sum_more f n = rw (add-one n) (sum-suc f n)

pub sum_mono : (f g : ℕ → ℕ) (n : ℕ) → ((i : ℕ) → i < n → f i ≤ g i) → sum f n ≤ sum g n
unfolding sum
sum_mono f g zero h = omega arith
sum_mono f g (suc n) h = omega (arith, sum_mono f g n (λ i l. h i (omega arith)), h n (omega arith))

pub sum-ext : (f g : ℕ → ℕ) (n : ℕ) → ((i : ℕ) → i < n → f i ≡ g i) → sum f n ≡ sum g n
unfolding sum
sum-ext f g zero h = refl
sum-ext f g (suc n) h = omega (arith, sum-ext f g n (λ i l. h i (omega arith)), h n (omega arith))

pub sum_const : (c n : ℕ) → sum (λ i. c) n ≡ n * c
unfolding sum
sum_const c zero = omega arith
sum_const c (suc n) = omega (arith, sum_const c n)

pub sum_add : (f g : ℕ → ℕ) (n : ℕ) → sum (λ i. f i + g i) n ≡ sum f n + sum g n
unfolding sum
sum_add f g zero = omega arith
sum_add f g (suc n) = omega (arith, sum_add f g n)

pub sum_mul : (c : ℕ) (f : ℕ → ℕ) (n : ℕ) → sum (λ i. c * f i) n ≡ c * sum f n
unfolding sum
sum_mul c f zero = omega arith
sum_mul c f (suc n) = omega (arith, sum_mul c f n)

-- two sums change places
pub sum_swap : (f : ℕ → ℕ → ℕ) (m n : ℕ) → sum (λ i. sum (f i) n) m ≡ sum (λ j. sum (λ i. f i j) m) n
unfolding sum
sum_swap f zero n = omega (arith, sum_const 0 n)
sum_swap f (suc m) n = omega (arith, sum_swap f m n, sum_add (λ j. sum (λ i. f i j) m) (f m) n)

-- the first value taken off the front
pub sum-front : (f : ℕ → ℕ) (n : ℕ) → sum f (suc n) ≡ f 0 + sum (λ i. f (suc i)) n
unfolding sum
sum-front f zero = omega arith
sum-front f (suc n) = omega (arith, sum-front f n)

-- one value is at most the sum that it stands in
pub sum_one : (f : ℕ → ℕ) (n i : ℕ) → i < n → f i ≤ sum f n
unfolding sum
sum_one f zero i l = absurd (omega arith)
sum_one f (suc n) i l =
    elim (dec_lt i n) [
      | yes h ↦ omega (arith, sum_one f n i h)
      | no h ↦ let e : i ≡ n = omega arith in rw e (omega arith)
    ]

-- the sum where one value has changed
pub sum_but : (f g : ℕ → ℕ) (n i : ℕ) → i < n → ((j : ℕ) → j < n → j ≢ i → g j ≡ f j) → sum g n + f i ≡ sum f n + g i
unfolding sum
sum_but f g zero i l same = absurd (omega arith)
sum_but f g (suc n) i l same =
    elim (ℕ_discrete i n) [
      | yes e ↦ rw e (omega (arith, sum-ext g f n (λ j h. same j (omega arith) (omega arith))))
      | no h ↦ omega (
        arith,
        same n (omega arith) (omega arith),
        sum_but f g n i (omega arith) (λ j k d. same j (omega arith) d),
      )
    ]

-- a sum of more values is no smaller
pub sum_grows : (f : ℕ → ℕ) (i n : ℕ) → i ≤ n → sum f i ≤ sum f n
unfolding sum
sum_grows f i zero l = let z : i ≡ 0 = omega arith in rw z (omega arith)
sum_grows f i (suc n) l =
    elim (dec_lt i (suc n)) [
      | yes h ↦ omega (arith, sum_grows f i n (omega arith))
      | no h ↦ let z : i ≡ suc n = omega arith in rw z (omega arith)
    ]

-- one value rises by c
pub sum-rise : (f g : ℕ → ℕ) (n i c : ℕ) → i < n → ((j : ℕ) → j < n → (j ≡ i → ⊥) → g j ≡ f j)
    → g i ≡ f i + c → sum g n ≡ sum f n + c
sum-rise f g n i c l same e = omega (arith, sum_but f g n i l same)

pub Σ-zero : (f : ℕ → ℕ) → Σ 0 f ≡ 0
Σ-zero f = sum-zero (λ i. f (suc i))

pub Σ-suc : (n : ℕ) (f : ℕ → ℕ) → Σ (suc n) f ≡ Σ n f + f (suc n)
Σ-suc n f = sum-suc (λ i. f (suc i)) n

pub Σ_mono : (n : ℕ) (f g : ℕ → ℕ) → ((k : ℕ) → 1 ≤ k → k ≤ n → f k ≤ g k) → Σ n f ≤ Σ n g
Σ_mono n f g h = sum_mono (λ i. f (suc i)) (λ i. g (suc i)) n (λ i l. h (suc i) (omega arith) (omega arith))

pub Σ-ext : (n : ℕ) (f g : ℕ → ℕ) → ((k : ℕ) → 1 ≤ k → k ≤ n → f k ≡ g k) → Σ n f ≡ Σ n g
Σ-ext n f g h = sum-ext (λ i. f (suc i)) (λ i. g (suc i)) n (λ i l. h (suc i) (omega arith) (omega arith))

pub Σ_const : (n c : ℕ) → Σ n (λ k. c) ≡ n * c
Σ_const n c = sum_const c n

pub Σ_add : (n : ℕ) (f g : ℕ → ℕ) → Σ n (λ k. f k + g k) ≡ Σ n f + Σ n g
Σ_add n f g = sum_add (λ i. f (suc i)) (λ i. g (suc i)) n

pub Σ_mul : (n c : ℕ) (f : ℕ → ℕ) → Σ n (λ k. c * f k) ≡ c * Σ n f
Σ_mul n c f = sum_mul c (λ i. f (suc i)) n

-- a sum over tasks and one over ticks change places
pub Σ_swap : (n : ℕ) (f : ℕ → ℕ → ℕ) (w : ℕ) → Σ n (λ k. sum (f k) w) ≡ sum (λ e. Σ n (λ k. f k e)) w
Σ_swap n f w = sum_swap (λ i. f (suc i)) n w

pub Σ-one : (n : ℕ) (f : ℕ → ℕ) (k : ℕ) → 1 ≤ k → k ≤ n → f k ≤ Σ n f
Σ-one n f zero l h = absurd (omega arith)
Σ-one n f (suc i) l h = sum_one (λ j. f (suc j)) n i (omega arith)
