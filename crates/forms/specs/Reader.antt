-- A reader of one form, a byte at a time. Its state is what may still come; it stops at the first byte that may not.
-- That it reads rightly (Reads.antt) is proved in proofs/.
use Rattle.std.specs.Prelude.{ℕ, ◌+◌, ◌-◌, ◌*◌, Bool, true, false, cond, ◌&&◌, List, [], ◌∷◌, ◌++◌, ltb, leb, eqb}
use Rattle.std.proofs.Math.Option.{Option, none, some}
use Rattle.forms.specs.Bytes.{comma, cr, lf}
use Rattle.forms.specs.Forms.{Form, crlf}
use Rattle.forms.specs.Reads.{Answer, found, refused}

-- n bytes further on
abbrev pub later : {A : Type 0} → ℕ → Answer A → Answer A
later n (found a) = found a
later n (refused k) = refused (n + k)

abbrev pub ended : {A : Type 0} → Option A → Answer A
ended none = refused 0
ended (some a) = found a

module _ {S A : Type 0} (step : S → ℕ → Option S) (answer : S → Option A) where
  unfoldable pub run : S → List ℕ → Answer A
  run s [] = ended (answer s)
  run s (c ∷ rest) = elim (step s c) [ none ↦ refused 0 | some t ↦ later 1 (run t rest) ]

abbrev pub keep : {A : Type 0} → Bool → A → Option A
keep true a = some a
keep false a = none

abbrev pub is_digit : ℕ → Bool
is_digit c = leb 48 c && leb c 57

-- a number of a column, of which v has come or nothing yet, and a further byte: no digit follows a leading 0
unfoldable pub grow : ℕ → Option ℕ → ℕ → Option ℕ
grow most none c = keep (is_digit c && leb (c - 48) most) (c - 48)
grow most (some v) c = keep (is_digit c && ltb 0 v && leb (10 * v + (c - 48)) most) (10 * v + (c - 48))

pub data State : Type 0 where
  -- these rows have come; then these bytes, and then a row or the end
  word : List (List ℕ) → List ℕ → State
  -- these rows have come, and of the next these numbers; then a number of this column, of which v has come or nothing,
  -- and numbers of these columns
  cell : List (List ℕ) → List ℕ → ℕ → List ℕ → Option ℕ → State

-- the row has numbers, and further columns: a comma, or CR LF
abbrev pub leave : List (List ℕ) → List ℕ → List ℕ → ℕ → Option State
leave rows numbers [] c = keep (eqb c cr) (word (rows ++ (numbers ∷ [])) (lf ∷ []))
leave rows numbers (most ∷ mosts) c = keep (eqb c comma) (cell rows numbers most mosts none)

abbrev pub inside : List (List ℕ) → List ℕ → ℕ → List ℕ → Option ℕ → ℕ → Option ℕ → Option State
inside rows numbers most mosts v c (some w) = some (cell rows numbers most mosts (some w))
inside rows numbers most mosts none c none = none
inside rows numbers most mosts (some v) c none = leave rows (numbers ++ (v ∷ [])) mosts c

-- whether a row may begin, and whether the text may end, where these rows have come; exactly one row is wanted, or any
-- number
abbrev pub may_begin : Bool → List (List ℕ) → Bool
may_begin true [] = true
may_begin true (row ∷ rows) = false
may_begin false rows = true

abbrev pub may_end : Bool → List (List ℕ) → Bool
may_end true [] = false
may_end true (row ∷ rows) = true
may_end false rows = true

unfoldable pub step : Form → State → ℕ → Option State
step F (word rows (b ∷ rest)) c = keep (eqb c b) (word rows rest)
step F (word rows []) c =
    cond (may_begin F.one rows) (inside rows [] F.first F.others none c (grow F.first none c)) none
step F (cell rows numbers most mosts v) c = inside rows numbers most mosts v c (grow most v c)

unfoldable pub rows_at : Form → State → Option (List (List ℕ))
rows_at F (word rows []) = keep (may_end F.one rows) rows
rows_at F (word rows (b ∷ rest)) = none
rows_at F (cell rows numbers most mosts v) = none

abbrev pub start : Form → State
start F = word [] (F.header ++ crlf)

unfoldable pub read : Form → List ℕ → Answer (List (List ℕ))
read F bytes = run (step F) (rows_at F) (start F) bytes
