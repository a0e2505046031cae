-- Laws of a row's text, for the loop over its columns.
use Prim.Native.Nat.{ℕ, suc, ◌+◌, ◌-◌, ◌<◌, ◌≤◌}
use mathlib.Core.Path.{◌≡◌, sym, ◌∙◌}
use mathlib.Core.List.{List, [], ◌++◌, append_assoc}
use native.Mathlib.Numerals.{add-one}
use native.Mathlib.Omega.{arith}
use lib.ListN.{length, drop, get_or, length-drop, drop_of_length-le}
use lib.Seq.{drop-cons}
use Rattle.forms.specs.Digits.{digits}
use Rattle.forms.specs.Forms.{ending, line}

-- number i of a row, with what ends it
abbrev pub piece : List ℕ → ℕ → List ℕ
piece numbers i = digits (get_or numbers i 0) ++ ending (length numbers - i - 1)

pub line-more : (numbers : List ℕ) (i : ℕ) → i < length numbers
    → line (drop i numbers) ≡ piece numbers i ++ line (drop (i + 1) numbers)
unfolding line
line-more numbers i less =
    let size : length (drop (suc i) numbers) ≡ length numbers - i - 1 = length-drop (suc i) numbers ∙ omega arith in
    rw add-one
    (rw (drop-cons numbers i 0 less) (rw size
    (sym (append_assoc (digits (get_or numbers i 0)) (ending (length numbers - i - 1)) (line (drop (suc i) numbers))))))

pub line-none : (numbers : List ℕ) (i : ℕ) → length numbers ≤ i → line (drop i numbers) ≡ []
unfolding line
line-none numbers i h = rw (drop_of_length-le numbers {i = i} h)
