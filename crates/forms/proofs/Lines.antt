-- The text of rows, from the left: a number more, a row more.
use Prim.Native.Nat.{ℕ, zero, suc, ◌≤◌}
use mathlib.Core.Path.{◌≡◌, refl, ap}
use mathlib.Core.List.{List, [], ◌∷◌, ◌++◌, append_assoc, append-nil}
use mathlib.Core.Option.{Option, none, some}
use Rattle.forms.specs.Bytes.{comma}
use Rattle.forms.specs.Digits.{digits}
use Rattle.forms.specs.Forms
use Rattle.forms.specs.Forms.{Form, Within, EachRow, crlf, ending, line, lines, text}

-- numbers that a comma follows, and what has come of the next
unfoldable pub cells : List ℕ → List ℕ
cells [] = []
cells (n ∷ ns) = digits n ++ (44 ∷ cells ns)

abbrev pub part : Option ℕ → List ℕ
part none = []
part (some v) = digits v

abbrev pub bound : Option ℕ → ℕ
bound none = 0
bound (some v) = v

pub ending-more : (left : ℕ) → (left ≡ 0 → ⊥) → ending left ≡ comma ∷ []
ending-more zero h = absurd (h refl)
ending-more (suc left) h = refl

pub within_snoc : {ms ns : List ℕ} {m n : ℕ} → Within ms ns → n ≤ m → Within (ms ++ (m ∷ [])) (ns ++ (n ∷ []))
within_snoc Forms.none f = Forms.also f Forms.none
within_snoc (Forms.also g w) f = Forms.also g (within_snoc w f)

pub each_snoc : {ms row : List ℕ} {rows : List (List ℕ)} → EachRow ms rows → Within ms row
    → EachRow ms (rows ++ (row ∷ []))
each_snoc Forms.none w = Forms.also w Forms.none
each_snoc (Forms.also v each) w = Forms.also v (each_snoc each w)

pub line_snoc : (ns : List ℕ) (v : ℕ) → line (ns ++ (v ∷ [])) ≡ cells ns ++ (digits v ++ crlf)
unfolding line cells
line_snoc [] v = refl
line_snoc (n ∷ []) v = simp append_assoc
line_snoc (n ∷ m ∷ ns) v = rw append_assoc (ap (λ (l : List ℕ). digits n ++ (44 ∷ l)) (line_snoc (m ∷ ns) v))

pub cells_snoc : (ns : List ℕ) (v : ℕ) → cells (ns ++ (v ∷ [])) ≡ cells ns ++ (digits v ++ (44 ∷ []))
unfolding cells
cells_snoc [] v = refl
cells_snoc (n ∷ ns) v = rw (cells_snoc ns v, append_assoc)

pub lines_snoc : (rows : List (List ℕ)) (row : List ℕ) → lines (rows ++ (row ∷ [])) ≡ lines rows ++ line row
unfolding lines
lines_snoc [] row = append-nil (line row)
lines_snoc (first ∷ rows) row = rw (lines_snoc rows row, append_assoc)

pub text_snoc : (F : Form) (rows : List (List ℕ)) (row : List ℕ) → text F (rows ++ (row ∷ [])) ≡ text F rows ++ line row
unfolding text
text_snoc F rows row = simp (lines_snoc, append_assoc)
