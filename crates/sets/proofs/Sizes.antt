-- Laws of how many members a set has, each from what holds at every place.
use Prim.Native.Nat.{ℕ, zero, suc, ◌+◌, ◌-◌, ◌/◌, ◌^◌, ◌<◌, ◌≤◌, zero-le}
use mathlib.Core.Path.{◌≡◌, refl, ◌∙◌}
use mathlib.Core.Logic.{◌⊎◌, inl, inr}
use native.Mathlib.Nat.{not-suc-le-zero, le_of_suc-le-suc, eq-or-lt_of_le, le_refl, div-one, div-eq_of_lt}
use native.Mathlib.Omega.{arith}
use native.Mathlib.Numerals.{add-one}
use native.Mathlib.Decide.{le_ind}
use lib.Bits.{bit_and, bit_or}
use lib.Count.{ones, ones_in, ones_step}
use lib.Pow.{shr-shr, ones_lt}
use Rattle.sets.specs.Sets.{bit, size, below, without, Within}
use Rattle.sets.proofs.Bits.{bit_lt, bit-cases, bit-above, bit-zero, bit-bit_or, bit-and, bit-without, bit_pow_same}
use Rattle.sets.proofs.Bits.{bit_pow_other, bit_below}
use Rattle.sets.proofs.Same.{within-below}

pub size_none : (x : ℕ) → size 0 x ≡ 0
unfolding size
size_none x = refl

pub size-more : (w x : ℕ) → size (suc w) x ≡ size w x + bit x w
unfolding size
size-more w x = refl

-- what holds of the bits at each place holds of the sizes
pub size_sums : (w x y u v : ℕ) → ((p : ℕ) → p < w → bit x p + bit y p ≡ bit u p + bit v p)
    → size w x + size w y ≡ size w u + size w v
unfolding size
size_sums zero x y u v h = refl
size_sums (suc w) x y u v h = omega (arith, size_sums w x y u v (λ p l. h p (omega arith)), h w (omega arith))

pub size_mono : (w x y : ℕ) → ((p : ℕ) → p < w → bit x p ≤ bit y p) → size w x ≤ size w y
unfolding size
size_mono zero x y h = zero-le
size_mono (suc w) x y h = omega (arith, size_mono w x y (λ p l. h p (omega arith)), h w (omega arith))

pub size_same : (w x y : ℕ) → ((p : ℕ) → p < w → bit x p ≡ bit y p) → size w x ≡ size w y
size_same w x y h = omega (arith, size_sums w x x y y (λ p l. omega (arith, h p l)))

pub size-zero : (w : ℕ) → size w 0 ≡ 0
unfolding size
size-zero zero = refl
size-zero (suc w) = omega (arith, size-zero w, bit-zero w)

pub size-le : (w x : ℕ) → size w x ≤ w
unfolding size
size-le zero x = zero-le
size-le (suc w) x = omega (arith, size-le w x, bit_lt x w)

-- more places
pub size_grows : (v w x : ℕ) → v ≤ w → size v x ≤ size w x
unfolding size
size_grows v w x h = le_ind (λ (n : ℕ). size v x ≤ size n x) (le_refl (size v x)) (λ n k l. omega arith) w h

pub size_wide : (v w x : ℕ) → x < 2 ^ v → v ≤ w → size w x ≡ size v x
unfolding size
size_wide v w x l h = le_ind (λ (n : ℕ). size n x ≡ size v x) refl (λ n k e. omega (arith, bit-above v x n l k)) w h

-- union, what is shared, difference
pub size_or_and : (w x y : ℕ) → size w (bit_or x y) + size w (bit_and x y) ≡ size w x + size w y
size_or_and w x y = size_sums w (bit_or x y) (bit_and x y) x y (λ p l. omega (arith, bit-bit_or x y p, bit-and x y p))

pub size_or_le : (w x y : ℕ) → size w (bit_or x y) ≤ size w x + size w y
size_or_le w x y = omega (arith, size_or_and w x y)

pub size-union : (w x y : ℕ) → bit_and x y ≡ 0 → size w (bit_or x y) ≡ size w x + size w y
size-union w x y e = omega (arith, rw e at (size_or_and w x y), size-zero w)

pub size-without : (w x y : ℕ) → Within y x → size w (without x y) + size w y ≡ size w x
size-without w x y h =
    omega
    (arith, size-zero w, size_sums w (without x y) y x 0 (λ p l. omega (arith, bit-without x y p, h p, bit-zero p)))

-- some members
pub size_pow : (w p : ℕ) → p < w → size w (2 ^ p) ≡ 1
unfolding size
size_pow zero p h = absurd (not-suc-le-zero h)
size_pow (suc w) p h = by (λ l. size_pow w p l) (eq-or-lt_of_le (le_of_suc-le-suc h))
  where
    by : (p < w → size w (2 ^ p) ≡ 1) → (p ≡ w) ⊎ (p < w) → size w (2 ^ p) + bit (2 ^ p) w ≡ 1
    by r (inl e) =
        let z : size w (2 ^ p) ≡ size w 0 =
        size_same w (2 ^ p) 0 (λ q l. omega (arith, bit_pow_other p q (omega arith), bit-zero q)) in
        let b : bit (2 ^ p) w ≡ 1 = rw e (bit_pow_same w) in
        omega (arith, size-zero w)
    by r (inr l) = omega (arith, r l, bit_pow_other p w (omega arith))

pub size_below : (w p : ℕ) → p ≤ w → size w (below p) ≡ p
size_below w p h = size_wide p w (below p) (ones_lt p) h ∙ all p (le_refl p)
  where
    all : (n : ℕ) → n ≤ p → size n (below p) ≡ n
    all zero l = size_none (below p)
    all (suc n) l = omega (arith, size-more n (below p), all n (omega arith), bit_below p n l)

pub size-some : (w x : ℕ) → 0 < size w x → (p : ℕ) × (p < w) × (bit x p ≡ 1)
unfolding size
size-some zero x h = absurd (not-suc-le-zero h)
size-some (suc w) x h = by (λ l. size-some w x l) (bit-cases x w)
  where
    by : (0 < size w x → (p : ℕ) × (p < w) × (bit x p ≡ 1)) → (bit x w ≡ 0) ⊎ (bit x w ≡ 1)
        → (p : ℕ) × (p < suc w) × (bit x p ≡ 1)
    by r (inl b) =
        let m = r (omega arith) in
        (m.0, omega (arith, m.1), m.2)
    by r (inr b) = (w, omega arith, b)

pub size-pos : (w x p : ℕ) → p < w → bit x p ≡ 1 → 0 < size w x
size-pos w x p h e = omega (arith, size-more p x, size_grows (suc p) w x h)

-- the idle ones: those below p that x lacks
pub size-idle : (w p x : ℕ) → p ≤ w → x < 2 ^ p → size w (without (below p) x) ≡ p - size w x
size-idle w p x l h = omega (arith, size-without w (below p) x (within-below p x h), size_below w p l)

-- the machine's count
count-to : (w x : ℕ) → ones x ≡ size w x + ones (x / 2 ^ w)
unfolding size
count-to zero x = rw (div-one x) (omega arith)
count-to (suc w) x =
    let half : x / 2 ^ w / 2 ≡ x / 2 ^ suc w = shr-shr x w 1 ∙ rw add-one in
    let step : ones (x / 2 ^ w) ≡ bit x w + ones (x / 2 ^ suc w) = ones_step (x / 2 ^ w) ∙ rw half in
    omega (arith, count-to w x, step)

ones-zero : ones 0 ≡ 0
unfolding ones ones_in
ones-zero = refl

pub count : (w x : ℕ) → x < 2 ^ w → ones x ≡ size w x
count w x h =
    let z : x / 2 ^ w ≡ 0 = div-eq_of_lt h in
    count-to w x ∙ rw (z, ones-zero) (omega arith)
