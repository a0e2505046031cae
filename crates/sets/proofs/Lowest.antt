-- Taking the lowest members one by one: `x & (x - 1)` lacks the lowest member of x, and what the choice leaves of x is
-- what a choice of one less leaves of that.
use Prim.Native.Nat.{ℕ, zero, suc, ◌+◌, ◌-◌, ◌*◌, ◌/◌, ◌%◌, ◌^◌, ◌<◌, ◌≤◌}
use mathlib.Core.Path.{◌≡◌, refl, sym, ◌∙◌, ap, ap₂}
use mathlib.Core.Logic.{◌⊎◌, inl, inr}
use native.Mathlib.Nat.{lt_of_le_of_lt, le_trans, one-mul, sub-le, mod-eq_of_lt}
use native.Mathlib.Omega.{arith}
use native.Mathlib.Decide.{ℕ_discrete, dec_lt}
use lib.Arith.{sub-sub_self}
use lib.Bits.{bit_and, and_block, and_self, and_shifted, and_le_l, and_zero_r}
use lib.Pow.{pow_pos, pow-lt, split, ones_lt}
use Rattle.table.specs.Limits.{most_partitions}
use Rattle.sets.specs.Sets.{bit, size, without, Within}
use Rattle.sets.specs.Choice.{choice}
use Rattle.sets.specs.Code.Less.{less, leaves}
use Rattle.sets.proofs.Bits.{bit-cases, bit_lt, bit-zero, bit-without, bit_pow_same, bit_pow_other, bit_mod}
use Rattle.sets.proofs.Bits.{mod_more}
use Rattle.sets.proofs.Same.{ext, and-within}
use Rattle.sets.proofs.Sizes.{size-zero, size_same, size_pow, size-without}
use Rattle.sets.proofs.Chosen.{choice_in, choice-out}
use Rattle.sets.proofs.Choices.{choice-within, choice-none}

-- p is the lowest member of x
pub record Lowest (x p : ℕ) : Type 0 where
  pub there : bit x p ≡ 1
  pub first : x % 2 ^ p ≡ 0

lowest-below : (w x : ℕ) → (x % 2 ^ w ≡ 0) ⊎ ((p : ℕ) × (p < w) × Lowest x p)
lowest-below zero x = inl (omega arith)
lowest-below (suc w) x = by (lowest-below w x) (bit-cases x w)
  where
    by : (x % 2 ^ w ≡ 0) ⊎ ((p : ℕ) × (p < w) × Lowest x p) → (bit x w ≡ 0) ⊎ (bit x w ≡ 1)
        → (x % 2 ^ suc w ≡ 0) ⊎ ((p : ℕ) × (p < suc w) × Lowest x p)
    by (inl z) (inl b) = inl (rw (mod_more x w, b, z) (omega arith))
    by (inl z) (inr b) = inr (w, omega arith, record { there = b; first = z })
    by (inr l) b = inr (l.0, omega (arith, l.1), l.2)

-- a set that is not 0 has a lowest member
pub lowest : (w x : ℕ) → x < 2 ^ w → 0 < x → (p : ℕ) × (p < w) × Lowest x p
lowest w x h pos = by (lowest-below w x)
  where
    by : (x % 2 ^ w ≡ 0) ⊎ ((p : ℕ) × (p < w) × Lowest x p) → (p : ℕ) × (p < w) × Lowest x p
    by (inl z) = absurd (omega (arith, mod-eq_of_lt h))
    by (inr l) = l

module _ (x p : ℕ) (low : Lowest x p) where
  -- nothing is below the lowest
  low-none : (q : ℕ) → q < p → bit x q ≡ 0
  low-none q h = sym (bit_mod p x q h) ∙ rw low.first (bit-zero q)

  low-within : Within (2 ^ p) x
  low-within q = by (ℕ_discrete p q)
    where
      by : Dec (p ≡ q) → bit (2 ^ p) q ≤ bit x q
      by (yes e) = rw (← e) (omega (arith, bit_pow_same p, low.there))
      by (no e) = omega (arith, bit_pow_other p q e)

  pub drop-lowest : bit_and x (x - 1) ≡ without x (2 ^ p)
  drop-lowest =
      let h = x / 2 ^ suc p in
      let is : x ≡ h * 2 ^ suc p + 2 ^ p =
      omega (arith, split x (suc p), rw (mod_more x p, low.there, low.first) at (split x (suc p))) in
      let less : x - 1 ≡ h * 2 ^ suc p + (2 ^ p - 1) = omega (arith, pow_pos p) in
      let apart : bit_and (2 ^ p) (2 ^ p - 1) ≡ 0 = rw (one-mul (2 ^ p)) at (and_shifted 1 p (2 ^ p - 1) (ones_lt p)) in
      let up : 2 ^ p < 2 ^ suc p = pow-lt (omega arith) in
      let both = and_block (suc p) h h (2 ^ p) (2 ^ p - 1) up (omega (arith, ones_lt p)) in
      let left : bit_and x (x - 1) ≡ h * 2 ^ suc p = ap₂ bit_and is less ∙ both
      ∙ rw (and_self h, apart) (omega arith) in
      rw (and-within (2 ^ p) x low-within) (left ∙ omega arith)

  -- the sizes of x and of x without its lowest
  low-size : (q : ℕ) → p < q → size q x ≡ suc (size q (without x (2 ^ p)))
  low-size q h = omega (arith, size-without q x (2 ^ p) low-within, size_pow q p h)

  low_empty : size p x ≡ 0
  low_empty = size_same p x 0 (λ q l. low-none q l ∙ sym (bit-zero q)) ∙ size-zero p

module _ (x a q : ℕ) (h : q < most_partitions) where
  leaves_none : size q x < a → bit (leaves x a) q ≡ 0
  leaves_none l = omega (arith, bit-without x (choice x a) q, choice_in x a q h l)

  leaves_all : a ≤ size q x → bit (leaves x a) q ≡ bit x q
  leaves_all l = omega (arith, bit-without x (choice x a) q, choice-out x a q l)

-- one turn of taking the lowest
leaves-low : (x a p : ℕ) → x < 2 ^ most_partitions → Lowest x p → leaves x (suc a) ≡ leaves (without x (2 ^ p)) a
leaves-low x a p h low =
    ext most_partitions (leaves x (suc a)) (leaves y a)
    (lt_of_le_of_lt (sub-le x (bit_and x (choice x (suc a)))) h)
    (lt_of_le_of_lt (sub-le y (bit_and y (choice y a))) (lt_of_le_of_lt (sub-le x (bit_and x (2 ^ p))) h))
    (λ q l. by q l (dec_lt p q) (ℕ_discrete p q) (dec_lt (size q y) a))
  where
    y : ℕ
    y = without x (2 ^ p)

    at : (q : ℕ) → bit y q ≡ bit x q - bit (2 ^ p) q
    at q = bit-without x (2 ^ p) q

    by : (q : ℕ) → q < most_partitions → Dec (p < q) → Dec (p ≡ q) → Dec (size q y < a)
        → bit (leaves x (suc a)) q ≡ bit (leaves y a) q
    by q l (yes d) e (yes s) = leaves_none x (suc a) q l (omega (arith, low-size x p low q d))
        ∙ sym (leaves_none y a q l s)
    by q l (yes d) e (no s) =
        leaves_all x (suc a) q l (omega (arith, low-size x p low q d))
        ∙ omega (arith, at q, bit_pow_other p q (omega arith))
        ∙ sym (leaves_all y a q l (omega arith))
    by q l (no d) (yes e) s =
        let b : bit (2 ^ p) q ≡ 1 = rw e (bit_pow_same q) in
        leaves_none x (suc a) q l (rw (← e) (omega (arith, low_empty x p low)))
        ∙ omega (arith, at q, bit-without y (choice y a) q, bit_lt x q)
    by q l (no d) (no e) s =
        omega (
          arith,
          at q,
          bit-without y (choice y a) q,
          bit-without x (choice x (suc a)) q,
          low-none x p low q (omega arith),
        )

-- a turn of the loop, its start and its two ends
pub leaves-less : (x a : ℕ) → x < 2 ^ most_partitions → 0 < x → 0 < a → leaves x a ≡ leaves (bit_and x (x - 1)) (a - 1)
leaves-less x zero h pos l = absurd (omega arith)
leaves-less x (suc a) h pos l =
    let p = lowest most_partitions x h pos in
    let one : suc a - 1 ≡ a = omega arith in
    rw (drop-lowest x p.0 p.2, one) (leaves-low x a p.0 h p.2)

-- also of a set that has none
pub leaves-step : (x a : ℕ) → x < 2 ^ most_partitions → 0 < a → leaves x a ≡ leaves (less x) (a - 1)
leaves-step x a h l =
    elim (ℕ_discrete x 0) [
      | yes e ↦ rw e (omega arith)
      | no e ↦ leaves-less x a h (omega arith) l
    ]

pub less-le : (x : ℕ) → less x ≤ x
less-le x = and_le_l x (x - 1)

pub leaves-four : (x a : ℕ) → x < 2 ^ most_partitions → 4 ≤ a → leaves x a
    ≡ leaves (less (less (less (less x)))) (a - 4)
leaves-four x a h l =
    let one = less-le x in
    let two = less-le (less x) in
    let three = less-le (less (less x)) in
    let end : a - 1 - 1 - 1 - 1 ≡ a - 4 = omega arith in
    leaves-step x a h (omega arith)
    ∙ (leaves-step (less x) (a - 1) (lt_of_le_of_lt one h) (omega arith)
    ∙ (leaves-step (less (less x)) (a - 1 - 1) (lt_of_le_of_lt two (lt_of_le_of_lt one h)) (omega arith)
    ∙ (leaves-step (less (less (less x))) (a - 1 - 1 - 1)
    (lt_of_le_of_lt three (lt_of_le_of_lt two (lt_of_le_of_lt one h))) (omega arith)
    ∙ ap (leaves (less (less (less (less x))))) end)))

pub less-four : (x : ℕ) → less (less (less (less x))) ≤ x
less-four x = le_trans (less-le (less (less (less x))))
    (le_trans (less-le (less (less x))) (le_trans (less-le (less x)) (less-le x)))

pub leaves-zero : (x : ℕ) → leaves x 0 ≡ x
leaves-zero x = rw (choice-none x, and_zero_r x) (omega arith)

pub taken : (x a : ℕ) → x - leaves x a ≡ choice x a
taken x a = sub-sub_self (and_le_l x (choice x a)) ∙ and-within (choice x a) x (choice-within x a)

-- first a of them, and then b
pub leaves-more : (x a b : ℕ) → x < 2 ^ most_partitions → leaves x (a + b) ≡ leaves (leaves x a) b
leaves-more x zero b h =
    let all : 0 + b ≡ b = omega arith in
    rw (leaves-zero x, all) refl
leaves-more x (suc a) b h =
    let fewer : suc a + b - 1 ≡ a + b = omega arith in
    let one : suc a - 1 ≡ a = omega arith in
    rw (leaves-step x (suc a + b) h (omega arith), leaves-step x (suc a) h (omega arith), fewer, one)
    (leaves-more (less x) a b (lt_of_le_of_lt (less-le x) h))
