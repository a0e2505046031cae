-- The forms of document 01's texts as data, which rows are good in a form, and the one good text of such rows: every
-- line ends in CR LF, the last too.
use Rattle.std.specs.Prelude.{ℕ, zero, suc, ◌≤◌, ◌≡◌, Bool, true, false, List, [], ◌∷◌, ◌++◌, length}
use Rattle.forms.specs.Bytes.{bytes, comma, cr, lf}
use Rattle.forms.specs.Digits.{digits}

-- A form has at least one column. Columns are given by the largest number that may stand in each.
pub record Form : Type 0 where
  pub header : List ℕ
  pub first : ℕ
  pub others : List ℕ
  -- exactly one row, or any number of them
  pub one : Bool

abbrev pub columns : Form → List ℕ
columns F = F.first ∷ F.others

abbrev pub largest : ℕ
largest = 4294967295

-- columns of numbers from 0 to 4,294,967,295
abbrev pub platform_form : Form
platform_form = record { header = bytes "cores,partitions"; first = largest; others = largest ∷ []; one = true }

abbrev pub tasks_form : Form
tasks_form =
    record { header = bytes "D,T,C,A"; first = largest; others = largest ∷ largest ∷ largest ∷ []; one = false }

abbrev pub ticks_form : Form
ticks_form = record { header = bytes "released,finished"; first = largest; others = largest ∷ []; one = false }

-- a number for each column, at most the column's largest
pub data Within : List ℕ → List ℕ → Type 0 where
  none : Within [] []
  also : {m n : ℕ} {ms ns : List ℕ} → n ≤ m → Within ms ns → Within (m ∷ ms) (n ∷ ns)

pub data EachRow (ms : List ℕ) : List (List ℕ) → Type 0 where
  none : EachRow ms []
  also : {row : List ℕ} {rows : List (List ℕ)} → Within ms row → EachRow ms rows → EachRow ms (row ∷ rows)

pub record GoodRows (F : Form) (rows : List (List ℕ)) : Type 0 where
  pub each : EachRow (columns F) rows
  pub alone : F.one ≡ true → length rows ≡ 1

abbrev pub crlf : List ℕ
crlf = cr ∷ lf ∷ []

-- what ends a number that so many follow in its row: a comma, or CR LF
abbrev pub ending : ℕ → List ℕ
ending zero = crlf
ending (suc left) = comma ∷ []

unfoldable pub line : List ℕ → List ℕ
line [] = []
line (n ∷ ns) = digits n ++ (ending (length ns) ++ line ns)

unfoldable pub lines : List (List ℕ) → List ℕ
lines [] = []
lines (row ∷ rows) = line row ++ lines rows

-- the one good text of good rows
unfoldable pub text : Form → List (List ℕ) → List ℕ
text F rows = F.header ++ (crlf ++ lines rows)

abbrev pub GoodText : Form → List ℕ → Type 0
GoodText F bytes = (rows : List (List ℕ)) × GoodRows F rows × (text F rows ≡ bytes)
