-- Laws of single places: the bits of every set that the definitions make.
use Prim.Native.Nat.{ℕ, zero, suc, ◌+◌, ◌-◌, ◌*◌, ◌/◌, ◌%◌, ◌^◌, ◌<◌, ◌≤◌, max, min}
use mathlib.Core.Path.{◌≡◌, ◌∙◌, ap}
use mathlib.Core.Bool.{true, false, cond}
use mathlib.Core.Logic.{◌⊎◌, inl, inr}
use native.Mathlib.Nat.{lt_of_lt_of_le, pow-suc, mod-lt, div-one, div_self, zero-div, div-eq_of_lt}
use native.Mathlib.Omega.{arith}
use native.Mathlib.Decide.{ℕ_discrete, dec_lt}
use borrow.Author.Tests.{eq-eqb, ne_eqb, eqb-true}
use lib.Bits.{bit_and, bit_or, and_step, or_step, and_shr, or_shr, and_le_l}
use lib.Dec.{lit<}
use lib.Pow.{pow-add, pow_pos, pow_mono, pow-lt, shl-shr, shr-shr, high, mod-pow-add, field, mod-mod-pow, ones_lt}
use lib.Pow.{ones_split}
use Rattle.sets.specs.Sets.{bit, has, below, without}

pub bit_lt : (x p : ℕ) → bit x p < 2
bit_lt x p = mod-lt (x / 2 ^ p) (lit< tt)

-- `has` and `bit`
pub has-true : (x p : ℕ) → has x p ≡ true → bit x p ≡ 1
has-true x p = eqb-true (bit x p) 1

pub bit-one : (x p : ℕ) → bit x p ≡ 1 → has x p ≡ true
bit-one x p = eq-eqb (bit x p) 1

pub bit-none : (x p : ℕ) → bit x p ≡ 0 → has x p ≡ false
bit-none x p e = ne_eqb (bit x p) 1 (omega arith)

-- either p is in x or it is not
pub bit-cases : (x p : ℕ) → (bit x p ≡ 0) ⊎ (bit x p ≡ 1)
bit-cases x p = by (ℕ_discrete (bit x p) 0)
  where
    by : Dec (bit x p ≡ 0) → (bit x p ≡ 0) ⊎ (bit x p ≡ 1)
    by (yes e) = inl e
    by (no e) = inr (omega (arith, bit_lt x p))

pub has-bit : (x p : ℕ) → cond (has x p) 1 0 ≡ bit x p
has-bit x p = by (bit-cases x p)
  where
    by : (bit x p ≡ 0) ⊎ (bit x p ≡ 1) → cond (has x p) 1 0 ≡ bit x p
    by (inl e) = rw (bit-none x p e, e)
    by (inr e) = rw (bit-one x p e, e)

-- a number of w places has no member from w on
pub bit-above : (w x p : ℕ) → x < 2 ^ w → w ≤ p → bit x p ≡ 0
bit-above w x p h l =
    let e : x / 2 ^ p ≡ 0 = div-eq_of_lt (lt_of_lt_of_le h (pow_mono l)) in
    rw e

pub bit-zero : (p : ℕ) → bit 0 p ≡ 0
bit-zero p = rw (zero-div (2 ^ p))

-- the lowest place, and the others one by one
bit-first : (x : ℕ) → bit x 0 ≡ x % 2
bit-first x = rw (div-one x)

bit-next : (x p : ℕ) → bit x (suc p) ≡ bit (x / 2) p
bit-next x p =
    let e : x / 2 / 2 ^ p ≡ x / 2 ^ suc p = shr-shr x 1 p ∙ ap (λ (z : ℕ). x / 2 ^ z) (omega arith) in
    rw e

-- union, what is shared, difference
pub bit-bit_or : (x y p : ℕ) → bit (bit_or x y) p ≡ max (bit x p) (bit y p)
bit-bit_or x y p = rw or_shr (low (x / 2 ^ p) (y / 2 ^ p))
  where
    low : (x y : ℕ) → bit_or x y % 2 ≡ max (x % 2) (y % 2)
    low x y = omega (arith, or_step x y)

pub bit-and : (x y p : ℕ) → bit (bit_and x y) p ≡ min (bit x p) (bit y p)
bit-and x y p = rw and_shr (low (x / 2 ^ p) (y / 2 ^ p))
  where
    low : (x y : ℕ) → bit_and x y % 2 ≡ min (x % 2) (y % 2)
    low x y = omega (arith, and_step x y)

pub bit-without : (x y p : ℕ) → bit (without x y) p ≡ bit x p - bit y p
bit-without x y zero =
    rw (bit-first (without x y), bit-first x, bit-first y) (omega (arith, and_step x y, and_le_l (x / 2) (y / 2)))
bit-without x y (suc p) =
    let half : without x y / 2 ≡ without (x / 2) (y / 2) = omega (arith, and_step x y, and_le_l (x / 2) (y / 2)) in
    rw (bit-next (without x y) p, bit-next x p, bit-next y p, half) (bit-without (x / 2) (y / 2) p)

-- one member
pub bit_pow_same : (p : ℕ) → bit (2 ^ p) p ≡ 1
bit_pow_same p =
    let e : 2 ^ p / 2 ^ p ≡ 1 = div_self (pow_pos p) in
    rw e

pub bit_pow_other : (p q : ℕ) → (p ≡ q → ⊥) → bit (2 ^ p) q ≡ 0
bit_pow_other p q h = by (dec_lt p q)
  where
    by : Dec (p < q) → bit (2 ^ p) q ≡ 0
    by (yes l) =
        let e : 2 ^ p / 2 ^ q ≡ 0 = div-eq_of_lt (pow-lt l) in
        rw e
    by (no l) =
        let w : p ≡ suc (p - suc q) + q = omega arith in
        let e : 2 ^ p ≡ 2 ^ suc (p - suc q) * 2 ^ q = ap (λ (z : ℕ). 2 ^ z) w ∙ pow-add 2 (suc (p - suc q)) q in
        let d : 2 ^ p / 2 ^ q ≡ 2 ^ suc (p - suc q) = ap (λ (z : ℕ). z / 2 ^ q) e ∙ shl-shr (2 ^ suc (p - suc q)) q in
        rw d (omega (arith, pow-suc 2 (p - suc q)))

-- the places below w, one by one
pub mod_more : (x w : ℕ) → x % 2 ^ suc w ≡ bit x w * 2 ^ w + x % 2 ^ w
mod_more x w = ap (λ (z : ℕ). x % 2 ^ z) (omega arith) ∙ mod-pow-add x 1 w

-- the members below w
pub bit_mod : (w x p : ℕ) → p < w → bit (x % 2 ^ w) p ≡ bit x p
bit_mod w x p h =
    let e : w ≡ (w - suc p) + 1 + p = omega arith in
    let d : x % 2 ^ w / 2 ^ p ≡ x / 2 ^ p % 2 ^ ((w - suc p) + 1) =
    ap (λ (z : ℕ). x % 2 ^ z / 2 ^ p) e ∙ field x ((w - suc p) + 1) p in
    rw d (mod-mod-pow (x / 2 ^ p) (w - suc p) 1)

-- the set of all below n
pub bit_below : (n p : ℕ) → p < n → bit (below n) p ≡ 1
bit_below n p h =
    let j = n - suc p in
    let e : n ≡ suc j + p = omega arith in
    let cut : below n ≡ (2 ^ suc j - 1) * 2 ^ p + (2 ^ p - 1) = ap (λ (z : ℕ). 2 ^ z - 1) e ∙ ones_split (suc j) p in
    let d : below n / 2 ^ p ≡ 2 ^ suc j - 1 = ap (λ (z : ℕ). z / 2 ^ p) cut ∙ high (2 ^ suc j - 1) p (ones_lt p) in
    rw d (omega (arith, pow-suc 2 j, pow_pos j))
