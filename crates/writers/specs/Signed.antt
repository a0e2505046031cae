-- A margin's bytes: one `-` before the digits of a negative one; and a listing's row of a task, its margin and whether
-- it passes.
use Rattle.std.specs.Prelude.{ℕ, zero, suc, Bool, true, false, List, [], ◌∷◌, ◌++◌, ℤ, pos, negsuc}
use Rattle.forms.specs.Digits.{digits}
use Rattle.forms.specs.Forms.{ending}
use Rattle.writers.specs.declared.Margin.{Margin}

-- a task passes exactly if its margin is above 0
abbrev pub margin_of : ℤ → Margin
margin_of (negsuc n) = record { below = true; size = suc n; pass = 0 }
margin_of (pos zero) = record { below = false; size = 0; pass = 0 }
margin_of (pos (suc n)) = record { below = false; size = suc n; pass = 1 }

abbrev pub sign : Bool → List ℕ
sign true = 45 ∷ []
sign false = []

-- task, margin, pass: each number with what ends it
unfoldable pub margin_row : ℕ → Margin → List ℕ
margin_row k m =
    digits k ++ ending 2 ++ (sign m.below ++ (digits m.size ++ ending 1 ++ (digits m.pass ++ ending 0)))
