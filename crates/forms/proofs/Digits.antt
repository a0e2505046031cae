-- A number's digits, from the left: each digit more makes ten times the number, and that digit.
use Prim.Native.Nat.{ℕ, zero, suc, ◌+◌, ◌*◌, ◌/◌, ◌%◌, ◌^◌, ◌<◌, ◌≤◌}
use mathlib.Core.Path.{◌≡◌, sym, ap, ◌∙◌}
use mathlib.Core.List.{[], ◌∷◌, ◌++◌}
use native.Mathlib.Omega.{arith}
use native.Mathlib.Decide.{dec_lt}
use native.Mathlib.Nat.{pow-suc, div-lt_iff_lt-mul}
use borrow.Author.Tests.{lt-ltb, le-ltb}
use lib.Dec.{lit<}
use lib.ListN.{length, length-append}
use Rattle.forms.specs.Digits.{digit, digits_in, digits}

last-digit : (k n : ℕ) → n < 10 → digits_in (suc k) n ≡ digit n ∷ []
unfolding digits_in
last-digit k n h = rw (lt-ltb n 10 h, digits_in)

more-digits : (k n : ℕ) → 10 ≤ n → digits_in (suc k) n ≡ digits_in k (n / 10) ++ (digit (n % 10) ∷ [])
unfolding digits_in
more-digits k n h = rw (le-ltb n 10 h, digits_in)

-- room for more digits than there are changes nothing
room : (k j n : ℕ) → n < k → n < j → digits_in k n ≡ digits_in j n
room zero j n h g = absurd (no h)
  where
    no : n < 0 → ⊥
    no h = omega arith
room (suc k) zero n h g = absurd (no g)
  where
    no : n < 0 → ⊥
    no h = omega arith
room (suc k) (suc j) n h g = go (dec_lt n 10) (room k j (n / 10))
  where
    go : Dec (n < 10) → (n / 10 < k → n / 10 < j → digits_in k (n / 10) ≡ digits_in j (n / 10))
        → digits_in (suc k) n ≡ digits_in (suc j) n
    go (yes lt) ih = last-digit k n lt ∙ sym (last-digit j n lt)
    go (no ge) ih =
        let less : 10 ≤ n = omega arith in
        more-digits k n less ∙ rw (ih (omega arith) (omega arith)) (sym (more-digits j n less))

pub one-digit : (n : ℕ) → n < 10 → digits n ≡ digit n ∷ []
unfolding digits
one-digit n h = last-digit n n h

pub add_digit : (v d : ℕ) → 0 < v → d < 10 → digits (10 * v + d) ≡ digits v ++ (digit d ∷ [])
unfolding digits
add_digit v d h g =
    let q : (10 * v + d) / 10 ≡ v = omega arith in
    let r : (10 * v + d) % 10 ≡ d = omega arith in
    more-digits _ _ (omega arith) ∙ rw (q, r, room (10 * v + d) (suc v) v (omega arith) (omega arith))

pub split-digit : (n : ℕ) → 10 ≤ n → digits n ≡ digits (n / 10) ++ (digit (n % 10) ∷ [])
split-digit n h =
    let e : 10 * (n / 10) + n % 10 ≡ n = omega arith in
    ap digits (sym e) ∙ add_digit (n / 10) (n % 10) (omega arith) (omega arith)

pub width_one : (n : ℕ) → n < 10 → length (digits n) ≡ 1
width_one n h = ap length (one-digit n h)

pub width_more : (n : ℕ) → 10 ≤ n → length (digits n) ≡ suc (length (digits (n / 10)))
width_more n h = ap length (split-digit n h) ∙ simp length-append (omega arith)

pub width_some : (n : ℕ) → 0 < length (digits n)
width_some n = go (dec_lt n 10)
  where
    go : Dec (n < 10) → 0 < length (digits n)
    go (yes l) = omega (arith, width_one n l)
    go (no g) = omega (arith, width_more n (omega arith))

-- no more digits than the powers of ten above it
pub width_most : (k n : ℕ) → n < 10 ^ suc k → length (digits n) ≤ suc k
width_most zero n h = omega (arith, width_one n h)
width_most (suc k) n h = go (dec_lt n 10) (width_most k (n / 10))
  where
    go : Dec (n < 10) → (n / 10 < 10 ^ suc k → length (digits (n / 10)) ≤ suc k) → length (digits n) ≤ suc (suc k)
    go (yes l) ih = omega (arith, width_one n l)
    go (no g) ih =
        let less : n / 10 < 10 ^ suc k = (div-lt_iff_lt-mul (lit< tt)).1 (rw pow-suc at h) in
        omega (arith, width_more n (omega arith), ih less)
