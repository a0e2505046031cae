-- How the union and the holders' being apart move when holders change.
use Prim.Native.Nat.{ℕ, ◌<◌, ◌≤◌, max}
use mathlib.Core.Path.{◌≡◌, ◌∙◌}
use mathlib.Core.Logic.{◌⊎◌, inl, inr}
use native.Mathlib.Omega.{arith}
use native.Mathlib.Decide.{ℕ_discrete}
use lib.Bits.{bit_and, bit_or, and_comm}
use Rattle.sets.specs.Sets.{bit, Within}
use Rattle.sets.specs.Families.{union_of, Apart}
use Rattle.sets.proofs.Bits.{bit_lt, bit-cases, bit-zero, bit-bit_or}
use Rattle.sets.proofs.Same.{same, disjoint_of, disjoint-bit}
use Rattle.sets.proofs.Unions.{union-within, union-some, disjoint-union}

-- holders that only give up keep apart
pub apart-within : (f g : ℕ → ℕ) (n : ℕ) → ((i : ℕ) → i < n → Within (g i) (f i)) → Apart n f → Apart n g
apart-within f g n h a i j l m =
    disjoint_of (g i) (g j) (λ p. omega (arith, h i (omega arith) p, h j m p, disjoint-bit (f i) (f j) p (a i j l m)))

-- holder k, who had nothing, takes y
module _ (f g : ℕ → ℕ) (n k : ℕ) (in_n : k < n) (others : (i : ℕ) → i < n → (i ≡ k → ⊥) → g i ≡ f i) where
  pub union-take : f k ≡ 0 → union_of n g ≡ bit_or (union_of n f) (g k)
  union-take e =
      same (union_of n g) (bit_or (union_of n f) (g k))
      (λ p. by p (bit-cases (union_of n g) p) (bit-cases (union_of n f) p))
    where
      of_f : (p i : ℕ) → i < n → bit (f i) p ≡ 1 → Dec (i ≡ k) → 1 ≤ bit (union_of n g) p
      of_f p i l b (yes w) = absurd (omega (arith, rw (w, e) at b, bit-zero p))
      of_f p i l b (no w) = omega (arith, rw (← others i l w) at b, union-within g n i l p)

      of_g : (p i : ℕ) → i < n → bit (g i) p ≡ 1 → Dec (i ≡ k) → 1 ≤ max (bit (union_of n f) p) (bit (g k) p)
      of_g p i l b (yes w) = omega (arith, rw w at b)
      of_g p i l b (no w) = omega (arith, rw (others i l w) at b, union-within f n i l p)

      by : (p : ℕ) → (bit (union_of n g) p ≡ 0) ⊎ (bit (union_of n g) p ≡ 1)
          → (bit (union_of n f) p ≡ 0) ⊎ (bit (union_of n f) p ≡ 1)
          → bit (union_of n g) p ≡ bit (bit_or (union_of n f) (g k)) p
      by p (inl a) (inl b) = omega (arith, bit-bit_or (union_of n f) (g k) p, union-within g n k in_n p)
      by p (inl a) (inr b) =
          let m = union-some f n p b in
          omega (arith, of_f p m.0 m.1 m.2 (ℕ_discrete m.0 k))
      by p (inr a) b =
          let m = union-some g n p a in
          omega (
            arith,
            of_g p m.0 m.1 m.2 (ℕ_discrete m.0 k),
            bit-bit_or (union_of n f) (g k) p,
            bit_lt (union_of n f) p,
            bit_lt (g k) p,
          )

  pub apart-take : Apart n f → bit_and (union_of n f) (g k) ≡ 0 → Apart n g
  apart-take a e i j l m = by (ℕ_discrete i k) (ℕ_discrete j k)
    where
      free : (i : ℕ) → i < n → (i ≡ k → ⊥) → bit_and (g i) (g k) ≡ 0
      free i l w = rw (others i l w) (disjoint-union f n (g k) i e l)

      by : Dec (i ≡ k) → Dec (j ≡ k) → bit_and (g i) (g j) ≡ 0
      by (yes u) (yes v) = absurd (omega arith)
      by (yes u) (no v) = rw u (and_comm (g k) (g j) ∙ free j m v)
      by (no u) (yes v) = rw v (free i (omega arith) u)
      by (no u) (no v) = rw (others i (omega arith) u, others j m v) (a i j l m)
