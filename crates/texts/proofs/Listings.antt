-- Laws of a listing's rows from a place on, for the loops over them, and how long rows of a bounded length are.
use Prim.Native.Nat.{ℕ, zero, suc, ◌+◌, ◌*◌, ◌<◌, ◌≤◌}
use Prim.Native.String.{String}
use mathlib.Core.Path.{◌≡◌, refl, sym, ap, ◌∙◌}
use mathlib.Core.List.{List, [], ◌++◌, append_assoc}
use native.Mathlib.Nat.{mul-suc}
use native.Mathlib.Numerals.{add-one}
use native.Mathlib.Omega.{arith}
use lib.IntN.{ℤ}
use lib.ListN.{length, take, drop, get_or, length-append, drop_of_length-le}
use lib.Seq.{drop-cons, length-take-le, take_all}
use Rattle.maths.specs.Tasks.{tabulate}
use Rattle.forms.specs.Bytes.{bytes}
use Rattle.forms.specs.Forms.{crlf, line, lines}
use Rattle.forms.proofs.Lines.{lines_snoc}
use Rattle.table.specs.Limits.{most_tasks}
use Rattle.writers.specs.Outputs.{listing, margins_text}

abbrev pub header_of : String → List ℕ
header_of header = bytes header ++ crlf

-- the text of the rows at a place and on
abbrev pub lines_from : List (List ℕ) → ℕ → List ℕ
lines_from rows at = lines (drop at rows)

module _ (rows : List (List ℕ)) where
  pub listing-split : (header : String) → listing header rows ≡ header_of header ++ lines_from rows 0
  unfolding listing
  listing-split header = sym (append_assoc (bytes header) crlf (lines_from rows 0))

  pub lines_more : (at : ℕ) → at < length rows → (numbers : List ℕ) → numbers ≡ get_or rows at []
      → lines_from rows at ≡ line numbers ++ lines_from rows (at + 1)
  unfolding lines
  lines_more at l numbers e = rw (drop-cons rows at [] l, e, add-one)

  pub lines_end : (at : ℕ) → length rows ≤ at → lines_from rows at ≡ []
  unfolding lines
  lines_end at h = rw (drop_of_length-le rows {i = at} h)

pub lines_none : length (lines []) ≡ 0
unfolding lines
lines_none = refl

pub lines-most : (f : ℕ → List ℕ) (w n : ℕ) → ((i : ℕ) → i < n → length (line (f (suc i))) ≤ w)
    → length (lines (tabulate n f)) ≤ w * n
unfolding tabulate
lines-most f w zero each = omega (arith, lines_none)
lines-most f w (suc n) each =
    let before = tabulate n f in
    let row = f (suc n) in
    let size = ap length (lines_snoc before row) ∙ length-append (lines before) (line row) in
    omega (arith, mul-suc w n, lines-most f w n (λ i l. each i (omega arith)), each n (omega arith))

-- the margins of the first n tasks, lent as so many
pub margins-first : (n : ℕ) (margins : List ℤ) → n ≤ most_tasks → n ≤ length margins
    → margins_text n margins ≡ margins_text most_tasks (take n margins)
unfolding margins_text
margins-first n margins few held =
    let size = length-take-le n margins held in
    rw (take_all most_tasks (take n margins) (omega arith)) refl
