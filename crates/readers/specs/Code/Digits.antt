-- What the code holds on its way along a row: a number with a further digit, numbers of 32 bits. No statement of a
-- public function rests on these.
use Rattle.std.specs.Prelude.{ℕ, ◌+◌, ◌-◌, ◌*◌, ◌≤◌, cond, ◌&&◌, List, leb, get_or, Option, Some, None}
use Rattle.forms.specs.Forms.{largest}
use Rattle.forms.specs.Reader.{is_digit}

-- a number of a column with a further digit; not where the byte is no digit, or the number would be above the column's
-- largest
abbrev pub grown_to : ℕ → ℕ → ℕ → Option ℕ
grown_to most v c = cond (is_digit c && leb (10 * v + (c - 48)) most) (Some (10 * v + (c - 48))) None

-- no number is above 32 bits
abbrev pub Narrow : List ℕ → Type 0
Narrow numbers = (i : ℕ) → get_or numbers i 0 ≤ largest
