-- The reader of a form, followed over a number with what ends it, and over a whole row.
use Prim.Native.Nat.{ℕ, ◌+◌, ◌<◌, ◌≤◌}
use mathlib.Core.Path.{◌≡◌, refl, sym, ap, ◌∙◌}
use mathlib.Core.Bool.{Bool, true, false}
use mathlib.Core.List.{List, [], ◌∷◌, ◌++◌}
use mathlib.Core.Option.{none, some}
use native.Mathlib.Numerals.{add-one}
use native.Mathlib.Omega.{arith}
use native.Mathlib.Decide.{dec_lt}
use native.Mathlib.Nat.{add-zero}
use borrow.Author.Tests.{eq-eqb, ne_eqb, eqb-true, eqb-false}
use lib.Dec.{eqb}
use lib.ListN.{length, get_or}
use Rattle.std.specs.Prelude.{Result, Ok, Err, MatchResult}
use Rattle.forms.specs.Bytes.{comma}
use Rattle.forms.specs.Forms.{ending, Form, crlf}
use Rattle.forms.specs.Reads.{refused}
use Rattle.forms.specs.Reader.{grow, State, word, cell, leave, step, rows_at}
use Rattle.readers.specs.declared.Offset.{Offset}
use Rattle.readers.specs.declared.Piece.{Piece}
use Rattle.readers.specs.Places.{agree_from, agree_at, ended_by, cell_at, row_from}
use Rattle.readers.proofs.Places.{agree-short, agree-other, agree-more}
use Rattle.readers.proofs.Rows.{cell-none, cell-some}
use Rattle.readers.proofs.Along.{from, short, halt, move, alike, Agreed, agrees, differs, agreed, Begun, nothing}
use Rattle.readers.proofs.Along.{number, begun}

-- behind a number: the row is done, or a further number comes
abbrev pub past : List (List ℕ) → List ℕ → List ℕ → State
past rows ns [] = word (rows ++ (ns ∷ [])) []
past rows ns (m ∷ cs) = cell rows ns m cs none

module _ (F : Form) (text : List ℕ) (rows : List (List ℕ)) (ns : List ℕ) (most : ℕ) where
  -- the word that ends a number
  pub data Ended (cs w : List ℕ) (v at : ℕ) : Type 0 where
    whole : agree_at text at w ≡ at + length w → from F text at (cell rows ns most cs (some v))
        ≡ from F text (at + length w) (past rows (ns ++ (v ∷ [])) cs) → Ended cs w v at
    part : (agree_at text at w ≡ at + length w → ⊥)
        → from F text at (cell rows ns most cs (some v)) ≡ refused (agree_at text at w) → Ended cs w v at

  module _ (v at : ℕ) (stops : at < length text → grow most (some v) (get_or text at 0) ≡ none) where
    leave-step : (cs : List ℕ) → at < length text
        → step F (cell rows ns most cs (some v)) (get_or text at 0) ≡ leave rows (ns ++ (v ∷ [])) cs (get_or text at 0)
    unfolding step
    leave-step cs l = rw (stops l)

    last-like : from F text at (cell rows ns most [] (some v))
        ≡ from F text at (word (rows ++ ((ns ++ (v ∷ [])) ∷ [])) crlf)
    unfolding step rows_at
    last-like = alike F text at (cell rows ns most [] (some v))
        (word (rows ++ ((ns ++ (v ∷ [])) ∷ [])) crlf) refl (λ l. leave-step [] l)

    last-ended : Ended [] crlf v at
    last-ended = go (agreed F text (rows ++ ((ns ++ (v ∷ [])) ∷ [])) crlf at)
      where
        go : Agreed F text (rows ++ ((ns ++ (v ∷ [])) ∷ [])) crlf at → Ended [] crlf v at
        go (agrees e h) = whole e (last-like ∙ h)
        go (differs e h) = part e (last-like ∙ h)

    module _ (m : ℕ) (cs : List ℕ) where
      comma-short : length text ≤ at → Ended (m ∷ cs) (comma ∷ []) v at
      unfolding rows_at
      comma-short h =
          let e : agree_at text at (comma ∷ []) ≡ at = agree-short text at (comma ∷ []) h in
          part (λ f. omega arith)
          (short F text at (cell rows ns most (m ∷ cs) (some v)) h ∙ ap refused (add-zero at ∙ sym e))

      comma-more : at < length text → eqb (get_or text at 0) comma ≡ true → Ended (m ∷ cs) (comma ∷ []) v at
      unfolding agree_from
      comma-more l e =
          whole (agree-more text at (comma ∷ []) 0 l (omega arith) (eqb-true _ _ e))
          (rw add-one (move F text at (cell rows ns most (m ∷ cs) (some v)) (cell rows (ns ++ (v ∷ [])) m cs none) l
          (leave-step (m ∷ cs) l ∙ rw e)))

      comma-other : at < length text → eqb (get_or text at 0) comma ≡ false → Ended (m ∷ cs) (comma ∷ []) v at
      comma-other l e =
          let f : agree_at text at (comma ∷ []) ≡ at =
          agree-other text at (comma ∷ []) 0 l (omega arith) (eqb-false _ _ e) in
          part (λ g. omega arith)
          (halt F text at (cell rows ns most (m ∷ cs) (some v)) l (leave-step (m ∷ cs) l ∙ rw e) ∙ ap refused (sym f))

      comma-ended : Ended (m ∷ cs) (comma ∷ []) v at
      comma-ended = go (dec_lt at (length text))
        where
          test : (t : Bool) → eqb (get_or text at 0) comma ≡ t → at < length text → Ended (m ∷ cs) (comma ∷ []) v at
          test true e l = comma-more l e
          test false e l = comma-other l e

          go : Dec (at < length text) → Ended (m ∷ cs) (comma ∷ []) v at
          go (yes l) = test (eqb (get_or text at 0) comma) refl l
          go (no g) = comma-short (omega arith)

    ended_by_lem : (cs : List ℕ) → Ended cs (ending (length cs)) v at
    ended_by_lem [] = last-ended
    ended_by_lem (m ∷ cs) = comma-ended m cs

  -- a number with what ends it
  pub record CellOn (cs : List ℕ) (at : ℕ) (x : Piece ℕ) : Type 0 where
    pub far : at < x.next
    pub on : from F text at (cell rows ns most cs none) ≡ from F text x.next (past rows (ns ++ (x.value ∷ [])) cs)

  abbrev pub Celled : List ℕ → ℕ → Result (Piece ℕ) Offset → Type 0
  Celled cs at r =
      MatchResult r (CellOn cs at) (λ offset. from F text at (cell rows ns most cs none) ≡ refused offset.0)

  celled-some : (cs : List ℕ) (at : ℕ) (x : Piece ℕ) → at < x.next
      → from F text at (cell rows ns most cs none) ≡ from F text x.next (cell rows ns most cs (some x.value))
      → Ended cs (ending (length cs)) x.value x.next → Celled cs at (ended_by text (ending (length cs)) x)
  celled-some cs at x far on (whole e h) =
      rw (ended_by, eq-eqb _ _ e)
      (record {
        far = omega arith;
        on = on ∙ h ∙ ap (λ (n : ℕ). from F text n (past rows (ns ++ (x.value ∷ [])) cs)) (sym e);
      })
  celled-some cs at x far on (part e h) = rw (ended_by, ne_eqb _ _ e) (on ∙ h)

  pub celled : (cs : List ℕ) (at : ℕ) → Celled cs at (cell_at most text at (ending (length cs)))
  celled cs at = go (begun F text rows ns most cs at)
    where
      go : Begun F text rows ns most cs at → Celled cs at (cell_at most text at (ending (length cs)))
      go (nothing e h) = rw (cell-none most text at (ending (length cs)) e) h
      go (number x e far on stops) =
          rw (cell-some most text at (ending (length cs)) x e)
          (celled-some cs at x far on (ended_by_lem x.value x.next stops cs))

module _ (F : Form) (text : List ℕ) (rows : List (List ℕ)) where
  -- a row, of which the numbers ns have come and these columns are to come
  pub record RowOn (ns : List ℕ) (most : ℕ) (mosts : List ℕ) (at : ℕ) (x : Piece (List ℕ)) : Type 0 where
    pub far : at < x.next
    pub on : from F text at (cell rows ns most mosts none) ≡ from F text x.next (word (rows ++ (x.value ∷ [])) [])

  abbrev pub Rowed : List ℕ → ℕ → List ℕ → ℕ → Result (Piece (List ℕ)) Offset → Type 0
  Rowed ns most mosts at r =
      MatchResult r (RowOn ns most mosts at)
      (λ offset. from F text at (cell rows ns most mosts none) ≡ refused offset.0)

  further : (ns : List ℕ) (most then : ℕ) (mosts : List ℕ) (at : ℕ) (c : Piece ℕ) (r : Result (Piece (List ℕ)) Offset)
      → at < c.next
      → from F text at (cell rows ns most (then ∷ mosts) none)
      ≡ from F text c.next (cell rows (ns ++ (c.value ∷ [])) then mosts none)
      → Rowed (ns ++ (c.value ∷ [])) then mosts c.next r → Rowed ns most (then ∷ mosts) at r
  further ns most then mosts at c (Ok x) far on h = record { far = let f = h.far in omega arith; on = on ∙ h.on }
  further ns most then mosts at c (Err offset) far on h = on ∙ h

  pub rowed : (most : ℕ) (mosts ns : List ℕ) (at : ℕ) → Rowed ns most mosts at (row_from text ns (most ∷ mosts) at)
  unfolding row_from
  rowed most [] ns at = go (cell_at most text at crlf) (celled F text rows ns most [] at)
    where
      go : (r : Result (Piece ℕ) Offset) → Celled F text rows ns most [] at r
          → Rowed ns most [] at (elim r as (λ r. Result (Piece (List ℕ)) Offset) [
            | Ok x ↦ row_from text (ns ++ (x.value ∷ [])) [] x.next
            | Err offset ↦ Err offset
          ])
      go (Ok x) h = record { far = h.far; on = h.on }
      go (Err offset) h = h
  rowed most (then ∷ mosts) ns at =
      go (cell_at most text at (comma ∷ [])) (celled F text rows ns most (then ∷ mosts) at)
      (λ x. rowed then mosts (ns ++ (x.value ∷ [])) x.next)
    where
      go : (r : Result (Piece ℕ) Offset) → Celled F text rows ns most (then ∷ mosts) at r
          → ((x : Piece ℕ) → Rowed (ns ++ (x.value ∷ [])) then mosts x.next
          (row_from text (ns ++ (x.value ∷ [])) (then ∷ mosts) x.next))
          → Rowed ns most (then ∷ mosts) at (elim r as (λ r. Result (Piece (List ℕ)) Offset) [
            | Ok x ↦ row_from text (ns ++ (x.value ∷ [])) (then ∷ mosts) x.next
            | Err offset ↦ Err offset
          ])
      go (Ok x) h known = further ns most then mosts at x _ h.far h.on (known x)
      go (Err offset) h known = h
