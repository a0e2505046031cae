-- Laws of sets that several hold: their union, its size, and that no number has two holders.
use Prim.Native.Nat.{ℕ, zero, suc, ◌+◌, ◌^◌, ◌<◌, ◌≤◌}
use mathlib.Core.Path.{◌≡◌, refl, sym, ◌∙◌}
use mathlib.Core.Logic.{◌⊎◌, inl, inr}
use native.Mathlib.Nat.{not-suc-le-zero, le_of_suc-le-suc, eq-or-lt_of_le, le_refl}
use native.Mathlib.Omega.{arith}
use native.Mathlib.Decide.{le_ind}
use borrow.Author.Tests.{eq-eqb, eqb-true}
use mathlib.Core.Bool.{Bool, true, false, ◌&&◌, true≢false}
use lib.Bits.{bit_and, bit_or, or_lt}
use lib.Pow.{pow_pos}
use Rattle.maths.specs.Sums.{sum}
use Rattle.maths.proofs.Sums.{sum-zero, sum-suc}
use Rattle.sets.specs.Sets.{bit, size, disjoint, Within}
use Rattle.sets.specs.Families.{union_of, Apart, all_apart}
use Rattle.sets.proofs.Bits.{bit_lt, bit-cases, bit-zero, bit-bit_or}
use Rattle.sets.proofs.Same.{disjoint_of, disjoint-bit}
use Rattle.sets.proofs.Sizes.{size-zero, size-union, size_or_le}

module _ (held : ℕ → ℕ) where
  pub union-none : union_of 0 held ≡ 0
  unfolding union_of
  union-none = refl

  pub union_more : (n : ℕ) → union_of (suc n) held ≡ bit_or (union_of n held) (held n)
  unfolding union_of
  union_more n = refl

  -- what a holder has is in the union
  pub union-within : (n i : ℕ) → i < n → Within (held i) (union_of n held)
  union-within n i h p =
      le_ind {n = suc i} (λ (m : ℕ). bit (held i) p ≤ bit (union_of m held) p)
      (rw union_more (omega (arith, bit-bit_or (union_of i held) (held i) p)))
      (λ m k l. rw union_more (omega (arith, bit-bit_or (union_of m held) (held m) p)))
      n
      h

  -- and what is in the union some holder has
  pub union-some : (n p : ℕ) → bit (union_of n held) p ≡ 1 → (i : ℕ) × (i < n) × (bit (held i) p ≡ 1)
  union-some zero p e = absurd (omega (arith, rw union-none at e, bit-zero p))
  union-some (suc n) p e = by (λ l. union-some n p l) (bit-cases (held n) p)
    where
      by : (bit (union_of n held) p ≡ 1 → (i : ℕ) × (i < n) × (bit (held i) p ≡ 1))
          → (bit (held n) p ≡ 0) ⊎ (bit (held n) p ≡ 1) → (i : ℕ) × (i < suc n) × (bit (held i) p ≡ 1)
      by r (inl b) =
          let m = r (omega (arith, rw union_more at e, bit-bit_or (union_of n held) (held n) p)) in
          (m.0, omega (arith, m.1), m.2)
      by r (inr b) = (n, omega arith, b)

  pub union_lt : (w n : ℕ) → ((i : ℕ) → i < n → held i < 2 ^ w) → union_of n held < 2 ^ w
  union_lt w zero h = rw union-none (pow_pos w)
  union_lt w (suc n) h =
      rw union_more (or_lt w (union_of n held) (held n) (union_lt w n (λ i l. h i (omega arith))) (h n (omega arith)))

  -- a set is disjoint from the union if it is from each holder's
  pub union-disjoint : (n y : ℕ) → ((i : ℕ) → i < n → bit_and (held i) y ≡ 0) → bit_and (union_of n held) y ≡ 0
  union-disjoint n y h = disjoint_of (union_of n held) y (λ p. by p (bit-cases (union_of n held) p))
    where
      by : (p : ℕ) → (bit (union_of n held) p ≡ 0) ⊎ (bit (union_of n held) p ≡ 1)
          → bit (union_of n held) p + bit y p < 2
      by p (inl b) = omega (arith, bit_lt y p)
      by p (inr b) =
          let m = union-some n p b in
          omega (arith, m.2, disjoint-bit (held m.0) y p (h m.0 m.1))

  pub disjoint-union : (n y i : ℕ) → bit_and (union_of n held) y ≡ 0 → i < n → bit_and (held i) y ≡ 0
  disjoint-union n y i e h =
      disjoint_of (held i) y (λ p. omega (arith, union-within n i h p, disjoint-bit (union_of n held) y p e))

  -- no number has two holders: one holder more, with the union of those before
  pub apart_none : Apart 0 held
  apart_none i j l m = absurd (not-suc-le-zero m)

  pub apart-less : (m n : ℕ) → m ≤ n → Apart n held → Apart m held
  apart-less m n h a i j l k = a i j l (omega arith)

  pub apart-last : (n : ℕ) → Apart (suc n) held → bit_and (union_of n held) (held n) ≡ 0
  apart-last n a = union-disjoint n (held n) (λ i l. a i n l (le_refl (suc n)))

  pub apart_more : (n : ℕ) → Apart n held → bit_and (union_of n held) (held n) ≡ 0 → Apart (suc n) held
  apart_more n a e i j l m = by (eq-or-lt_of_le (le_of_suc-le-suc m))
    where
      by : (j ≡ n) ⊎ (j < n) → bit_and (held i) (held j) ≡ 0
      by (inl w) = rw w (disjoint-union n (held n) i e (omega arith))
      by (inr w) = a i j l w

  -- the test
  pub all-apart-none : all_apart 0 held ≡ true
  unfolding all_apart
  all-apart-none = refl

  pub all-apart-more : (n : ℕ) → all_apart (suc n) held ≡ (all_apart n held && disjoint (union_of n held) (held n))
  unfolding all_apart
  all-apart-more n = refl

  pub all_apart_lem : (n : ℕ) → all_apart n held ≡ true → Apart n held
  all_apart_lem zero e = apart_none
  all_apart_lem (suc n) e = by (all_apart n held) refl (λ t. all_apart_lem n t)
    where
      by : (b : Bool) → all_apart n held ≡ b → (all_apart n held ≡ true → Apart n held) → Apart (suc n) held
      by true t r = apart_more n (r t) (eqb-true (bit_and (union_of n held) (held n)) 0 (rw (all-apart-more n, t) at e))
      by false t r = absurd (true≢false (sym (rw (all-apart-more n, t) at e)))

  pub apart-all : (n : ℕ) → Apart n held → all_apart n held ≡ true
  apart-all zero a = all-apart-none
  apart-all (suc n) a =
      rw (all-apart-more n, apart-all n (apart-less n (suc n) (omega arith) a))
      (eq-eqb (bit_and (union_of n held) (held n)) 0 (apart-last n a))

  -- the count of the union is that of the holders
  pub union-size : (w n : ℕ) → Apart n held → size w (union_of n held) ≡ sum (λ i. size w (held i)) n
  union-size w zero a = rw union-none (size-zero w ∙ sym (sum-zero (λ i. size w (held i))))
  union-size w (suc n) a =
      rw (union_more, sum-suc) (omega (
        arith,
        size-union w (union_of n held) (held n) (apart-last n a),
        union-size w n (apart-less n (suc n) (omega arith) a),
      ))

  pub union-size-le : (w n : ℕ) → size w (union_of n held) ≤ sum (λ i. size w (held i)) n
  union-size-le w zero = rw union-none (omega (arith, size-zero w))
  union-size-le w (suc n) =
      rw (union_more, sum-suc) (omega (arith, size_or_le w (union_of n held) (held n), union-size-le w n))

pub union-same : (f g : ℕ → ℕ) (n : ℕ) → ((i : ℕ) → i < n → f i ≡ g i) → union_of n f ≡ union_of n g
union-same f g zero h = union-none f ∙ sym (union-none g)
union-same f g (suc n) h =
    rw (union_more f n, union_more g n, union-same f g n (λ i l. h i (omega arith)), h n (omega arith))
