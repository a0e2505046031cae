-- Many tasks, no time. S states that weigh `scale` each need more running than a test that is passed allows; and by the
-- weights of theorem 2 a state in which M tasks run, or tasks that ask for B partitions, weighs M * B.
use Prim.Native.Nat.{ℕ, ◌*◌, ◌≤◌, ◌<◌}
use native.Mathlib.Omega.{arith}
use native.Mathlib.Nat.{mul-le-mul_right, mul-le-mul_left, le-max_left, le-max_right}
use Rattle.maths.specs.Sums.{sum, Σ}
use Rattle.maths.proofs.Sums.{sum_mono, sum_const, sum_mul, Σ_mono, Σ_mul, Σ_swap}
use Rattle.maths.specs.Tasks.{Each}
use Rattle.lives.specs.Report.{weight_of}
use Rattle.lives.specs.Test.{Full, busy_cores, busy_cache, Heavy, Light}

module _ (n scale : ℕ) (w : ℕ → ℕ) {IsFull : (ℕ → ℕ) → Type 0} (heavy : Heavy n scale w IsFull)
    (r : ℕ → ℕ → ℕ) (once : (e : ℕ) → Each n (λ i. r e i ≤ 1)) (S : ℕ) where
  -- The sum over the states changes places with the sum over the tasks.
  window_weight : ((e : ℕ) → e < S → IsFull (r e)) → scale * S ≤ Σ n (λ i. w i * sum (λ e. r e i) S)
  window_weight full =
      let f : ℕ → ℕ → ℕ = λ i e. w i * r e i in
      simp (← sum_mul)
      (omega (
        arith,
        Σ_swap n f S,
        sum_const scale S,
        sum_mono (λ e. scale) (λ e. Σ n (λ i. f i e)) S (λ e l. heavy (r e) (once e) (full e l)),
      ))

  -- Where task i runs in I i of S states at the most, and these weigh less than so many full states, some state is not
  -- full.
  pub not-all-full : (I : ℕ → ℕ) → Each n (λ i. sum (λ e. r e i) S ≤ I i) → Light n scale w I S
      → ((e : ℕ) → e < S → IsFull (r e)) → ⊥
  not-all-full I few light full =
      omega (
        arith,
        window_weight full,
        Σ_mono n (λ i. w i * sum (λ e. r e i) S) (λ i. w i * I i) (λ i l m. mul-le-mul_left (w i) (few i l m)),
      )

module _ (n M B : ℕ) (A : ℕ → ℕ) where
  -- the weight of task i
  abbrev w : ℕ → ℕ
  w i = weight_of M B (A i)

  -- Theorem 2.
  pub full-weight : Heavy n (M * B) (λ i. weight_of M B (A i)) (Full n M B A)
  full-weight r once (busy_cores h) =
      omega (
        arith,
        mul-le-mul_right B h,
        Σ_mul n B r,
        Σ_mono n (λ i. B * r i) (λ i. w i * r i) (λ i l m. mul-le-mul_right (r i) (le-max_left B (M * A i))),
      )
  full-weight r once (busy_cache h) =
      omega (
        arith,
        mul-le-mul_left M h,
        Σ_mul n M (λ i. A i * r i),
        Σ_mono n (λ i. M * (A i * r i)) (λ i. w i * r i)
            (λ i l m. omega (arith, mul-le-mul_right (r i) (le-max_right B (M * A i)))),
      )
