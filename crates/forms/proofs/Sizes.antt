-- How long a text is: no row is longer than that of each column's largest number, and none is shorter than that of its
-- zeros.
use Prim.Native.Nat.{ℕ, zero, suc, ◌+◌, ◌*◌, ◌/◌, ◌<◌, ◌≤◌}
use mathlib.Core.Path.{◌≡◌, ap}
use mathlib.Core.List.{List, [], ◌∷◌}
use native.Mathlib.Omega.{arith}
use native.Mathlib.Decide.{dec_lt}
use lib.ListN.{length, get_or, length-append}
use Rattle.forms.specs.Digits.{digits}
use Rattle.forms.specs.Forms.{Form, columns, Within, EachRow, none, also, ending, line, lines, text}
use Rattle.forms.proofs.Digits.{width_one, width_more, width_some}

-- a larger number has no fewer digits
pub width_mono : (k n m : ℕ) → m < k → n ≤ m → length (digits n) ≤ length (digits m)
width_mono zero n m h l = absurd (no h)
  where
    no : m < 0 → ⊥
    no h = omega arith
width_mono (suc k) n m h l = go (dec_lt n 10) (width_mono k (n / 10) (m / 10))
  where
    go : Dec (n < 10) → (m / 10 < k → n / 10 ≤ m / 10 → length (digits (n / 10)) ≤ length (digits (m / 10)))
        → length (digits n) ≤ length (digits m)
    go (yes d) ih = omega (arith, width_one n d, width_some m)
    go (no d) ih = omega (arith, width_more n (omega arith), width_more m (omega arith), ih (omega arith) (omega arith))

pub within-length : {ms ns : List ℕ} → Within ms ns → length ns ≡ length ms
within-length none = omega arith
within-length (also f w) = ap suc (within-length w)

pub within_get_d : {ms ns : List ℕ} → Within ms ns → (i : ℕ) → get_or ns i 0 ≤ get_or ms i 0
within_get_d none i = omega arith
within_get_d (also f w) zero = f
within_get_d (also f w) (suc i) = within_get_d w i

line-length : (n : ℕ) (ns : List ℕ)
    → length (line (n ∷ ns)) ≡ length (digits n) + length (ending (length ns)) + length (line ns)
unfolding line
line-length n ns = simp length-append (omega arith)

pub line-most : {ms ns : List ℕ} → Within ms ns → length (line ns) ≤ length (line ms)
line-most none = omega arith
line-most (also {m} {n} {ms} {ns} f w) =
    let e : length (ending (length ns)) ≡ length (ending (length ms)) =
    ap (λ (k : ℕ). length (ending k)) (within-length w) in
    omega (arith, line-length n ns, line-length m ms, width_mono (suc m) n m (omega arith) f, line-most w)

-- a digit and what ends it for each number, and LF behind the last
pub line-least : (n : ℕ) (ns : List ℕ) → 3 + 2 * length ns ≤ length (line (n ∷ ns))
line-least n [] = omega (arith, line-length n [], width_some n)
line-least n (m ∷ ns) = omega (arith, line-length n (m ∷ ns), width_some n, line-least m ns)

module _ (F : Form) where
  pub row-least : {row : List ℕ} → Within (columns F) row → 3 + 2 * length F.others ≤ length (line row)
  row-least (also {n} {ns} f w) = omega (arith, within-length w, line-least n ns)

  pub lines-least : (rows : List (List ℕ)) → EachRow (columns F) rows
      → (3 + 2 * length F.others) * length rows ≤ length (lines rows)
  unfolding lines
  lines-least rows none = omega arith
  lines-least rows (also {row} {rows = rest} w each) =
      simp length-append (omega (arith, row-least w, lines-least rest each))

  pub text-least : (rows : List (List ℕ)) → EachRow (columns F) rows
      → length F.header + 2 + (3 + 2 * length F.others) * length rows ≤ length (text F rows)
  unfolding text
  text-least rows each = simp length-append (omega (arith, lines-least rows each))
