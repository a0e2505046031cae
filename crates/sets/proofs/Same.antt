-- When two sets are one, when they share nothing, and when one is within the other: each from the bits at every place.
use Prim.Native.Nat.{ℕ, zero, suc, ◌+◌, ◌%◌, ◌^◌, ◌<◌, ◌≤◌}
use mathlib.Core.Path.{◌≡◌, sym, ◌∙◌}
use native.Mathlib.Nat.{lt_of_lt_of_le, pow-suc, mod-lt, mod-eq_of_lt}
use native.Mathlib.Omega.{arith}
use native.Mathlib.Decide.{dec_lt}
use lib.Bits.{bit_and, bit_or}
use lib.Dec.{lit<}
use lib.Pow.{pow_pos, pow_mono}
use Rattle.sets.specs.Sets.{bit, below, without, Within}
use Rattle.sets.proofs.Bits.{bit_lt, bit-above, bit-zero, bit-bit_or, bit-and, bit-without, bit_below, bit_mod}
use Rattle.sets.proofs.Bits.{mod_more}

-- two sets with the same members below w are the same below w
same_mod : (w x y : ℕ) → ((p : ℕ) → p < w → bit x p ≡ bit y p) → x % 2 ^ w ≡ y % 2 ^ w
same_mod zero x y h = omega arith
same_mod (suc w) x y h =
    rw (mod_more x w, mod_more y w, h w (omega arith), same_mod w x y (λ p l. h p (omega arith)))

pub ext : (w x y : ℕ) → x < 2 ^ w → y < 2 ^ w → ((p : ℕ) → p < w → bit x p ≡ bit y p) → x ≡ y
ext w x y a b h = sym (mod-eq_of_lt a) ∙ same_mod w x y h ∙ mod-eq_of_lt b

-- every number has its places
lt_pow : (x : ℕ) → x < 2 ^ x
lt_pow zero = lit< tt
lt_pow (suc x) = omega (arith, lt_pow x, pow-suc 2 x)

-- the same over all places
pub same : (x y : ℕ) → ((p : ℕ) → bit x p ≡ bit y p) → x ≡ y
same x y h =
    ext (x + y) x y
    (lt_of_lt_of_le (lt_pow x) (pow_mono (omega arith)))
    (lt_of_lt_of_le (lt_pow y) (pow_mono (omega arith)))
    (λ p l. h p)

-- a set without a member is 0
pub none : (x : ℕ) → ((p : ℕ) → bit x p ≡ 0) → x ≡ 0
none x h = same x 0 (λ p. h p ∙ sym (bit-zero p))

-- two sets that share no member
pub disjoint_of : (x y : ℕ) → ((p : ℕ) → bit x p + bit y p < 2) → bit_and x y ≡ 0
disjoint_of x y h = none (bit_and x y) (λ p. omega (arith, bit-and x y p, h p))

pub disjoint-bit : (x y p : ℕ) → bit_and x y ≡ 0 → bit x p + bit y p < 2
disjoint-bit x y p e =
    let z : bit (bit_and x y) p ≡ 0 = rw e (bit-zero p) in
    omega (arith, bit-and x y p, bit_lt x p, bit_lt y p)

-- a set whose members are below w is below 2 ^ w
pub lt_of_bits : (w x : ℕ) → ((p : ℕ) → w ≤ p → bit x p ≡ 0) → x < 2 ^ w
lt_of_bits w x h =
    let e : x ≡ x % 2 ^ w = same x (x % 2 ^ w) (λ p. by p (dec_lt p w)) in
    rw e (mod-lt x (pow_pos w))
  where
    by : (p : ℕ) → Dec (p < w) → bit x p ≡ bit (x % 2 ^ w) p
    by p (yes q) = sym (bit_mod w x p q)
    by p (no q) = h p (omega arith) ∙ sym (bit-above w (x % 2 ^ w) p (mod-lt x (pow_pos w)) (omega arith))

pub within_lt : (w x y : ℕ) → Within x y → y < 2 ^ w → x < 2 ^ w
within_lt w x y h l = lt_of_bits w x (λ p q. omega (arith, h p, bit-above w y p l q))

-- what is within y is all that it shares with y
pub and-within : (x y : ℕ) → Within x y → bit_and y x ≡ x
and-within x y h = same (bit_and y x) x (λ p. omega (arith, bit-and y x p, h p))

-- what was put to a set is taken away again
pub without_or : (x y : ℕ) → bit_and x y ≡ 0 → without (bit_or x y) y ≡ x
without_or x y e =
    same (without (bit_or x y) y) x (λ p. omega
    (arith, bit-without (bit_or x y) y p, bit-bit_or x y p, disjoint-bit x y p e))

-- two sets are taken away one after the other
pub without-both : (x y z : ℕ) → without x (bit_or y z) ≡ without (without x y) z
without-both x y z =
    same (without x (bit_or y z)) (without (without x y) z)
    (λ p. omega (
      arith,
      bit-without x (bit_or y z) p,
      bit-bit_or y z p,
      bit-without (without x y) z p,
      bit-without x y p,
      bit_lt x p,
    ))

-- a number of p places is within the set of all below p
pub within-below : (p x : ℕ) → x < 2 ^ p → Within x (below p)
within-below p x h q = by (dec_lt q p)
  where
    by : Dec (q < p) → bit x q ≤ bit (below p) q
    by (yes l) = omega (arith, bit_below p q l, bit_lt x q)
    by (no l) = omega (arith, bit-above p x q h (omega arith))
