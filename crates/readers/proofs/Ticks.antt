-- A ticks text, row by row: what is still to come of it from a line's beginning on.
use Prim.Native.Nat.{ℕ, ◌+◌, ◌<◌, ◌≤◌}
use mathlib.Core.Path.{◌≡◌, refl, sym, ap, ◌∙◌}
use mathlib.Core.Bool.{Bool, true, false}
use mathlib.Core.List.{List, [], ◌∷◌, ◌++◌}
use native.Mathlib.Omega.{arith}
use borrow.Author.Tests.{eqb-true}
use lib.Dec.{eqb}
use lib.ListN.{length, drop}
use Rattle.std.specs.Prelude.{Result, Ok, Err}
use Rattle.forms.specs.Forms.{columns, ticks_form, crlf}
use Rattle.forms.specs.Reads.{Answer, found, refused}
use Rattle.forms.specs.Reader.{run, later, word, step, rows_at, read}
use Rattle.forms.proofs.Shift.{prefixed, shift-run}
use Rattle.readers.specs.declared.Offset.{Offset}
use Rattle.readers.specs.declared.Piece.{Piece}
use Rattle.readers.specs.Inputs.{tick_of, first_tick, tick_at}
use Rattle.readers.specs.Places.{agree_at, row_at}
use Rattle.readers.proofs.Along.{from}
use Rattle.readers.proofs.Rows.{row_inside}
use Rattle.readers.proofs.Texts.{Line, head-bad, head-good, ends, opening, begins, row-good, row-bad}

-- from this place on, as if it were the first line, these rows
abbrev pub Rest : List ℕ → ℕ → List (List ℕ) → Type 0
Rest text at rows = from ticks_form text at (word [] []) ≡ found rows

-- a first row, and what follows it
split : (row : List ℕ) (text : List ℕ) (at : ℕ) (rows : List (List ℕ))
    → from ticks_form text at (word (row ∷ []) []) ≡ found rows
    → (more : List (List ℕ)) × (rows ≡ row ∷ more) × Rest text at more
split row text at rows e = go (run (step ticks_form) (rows_at ticks_form) (word [] []) (drop at text)) refl
  where
    like : from ticks_form text at (word (row ∷ []) [])
        ≡ later at (prefixed (row ∷ []) (run (step ticks_form) (rows_at ticks_form) (word [] []) (drop at text)))
    like = ap (later at) (shift-run (row ∷ []) ticks_form refl (word [] []) (drop at text))

    go : (x : Answer (List (List ℕ))) → run (step ticks_form) (rows_at ticks_form) (word [] []) (drop at text) ≡ x
        → (more : List (List ℕ)) × (rows ≡ row ∷ more) × Rest text at more
    go (found more) h =
        let same : found rows ≡ found (row ∷ more) =
        sym e ∙ like ∙ ap (λ (x : Answer (List (List ℕ))). later at (prefixed (row ∷ []) x)) h in
        (more, cc, ap (later at) h)
    go (refused k) h =
        absurd (no (sym e ∙ like ∙ ap (λ (x : Answer (List (List ℕ))). later at (prefixed (row ∷ []) x)) h))
      where
        no : found rows ≡ refused (at + k) → ⊥
        no e = let z : ◌≡◌ {A = ℕ} 0 1 = cc in omega arith

pub ticks-start : (text : List ℕ) (rows : List (List ℕ)) → read ticks_form text ≡ found rows → Rest text first_tick rows
ticks-start text rows e = go (eqb (agree_at text 0 (ticks_form.header ++ crlf)) first_tick) refl
  where
    go : (b : Bool) → eqb (agree_at text 0 (ticks_form.header ++ crlf)) first_tick ≡ b → Rest text first_tick rows
    go false f = absurd (no (sym e ∙ head-bad ticks_form text _ (rw f refl)))
      where
        no : found rows ≡ refused (agree_at text 0 (ticks_form.header ++ crlf)) → ⊥
        no e = let z : ◌≡◌ {A = ℕ} 0 1 = cc in omega arith
    go true f =
        let all : agree_at text 0 (ticks_form.header ++ crlf) ≡ first_tick = eqb-true _ _ f in
        ap (λ (n : ℕ). from ticks_form text n (word [] [])) (sym all)
        ∙ sym (head-good ticks_form text _ (rw f refl)) ∙ e

pub ticks-end : (text : List ℕ) (at : ℕ) (rows : List (List ℕ)) → Rest text at rows → length text ≤ at → rows ≡ []
ticks-end text at rows e h =
    let same : found rows ≡ found [] = sym e ∙ ends ticks_form text [] at refl h in
    cc

module _ (text : List ℕ) (at : ℕ) where
  pub tick-there : (x : Piece (List ℕ)) → Ok x ≡ row_at text at ticks_form
      → tick_at text at ≡ record { value = tick_of x.value; next = x.next }
  unfolding tick_at
  tick-there x e = rw (tick_at, ← e) refl

  pub tick-not : (offset : Offset) → Err offset ≡ row_at text at ticks_form
      → tick_at text at ≡ record { value = record { released = 0; finished = 0 }; next = offset.0 }
  unfolding tick_at
  tick-not offset e = rw (tick_at, ← e) refl

pub record TickOn (text : List ℕ) (at : ℕ) (rows : List (List ℕ)) : Type 0 where
  pub row : List ℕ
  pub more : List (List ℕ)
  pub rows_are : rows ≡ row ∷ more
  pub tick : (tick_at text at).value ≡ tick_of row
  pub far : at < (tick_at text at).next
  pub inside : (tick_at text at).next ≤ length text
  pub rest : Rest text (tick_at text at).next more

pub ticks-next : (text : List ℕ) (at : ℕ) (rows : List (List ℕ)) → Rest text at rows
    → at < length text → TickOn text at rows
ticks-next text at rows e l = go (row_at text at ticks_form) refl
  where
    behind : from ticks_form text at (word [] []) ≡ from ticks_form text at (opening ticks_form text [] at)
    behind = begins ticks_form text [] at refl l

    go : (r : Result (Piece (List ℕ)) Offset) → r ≡ row_at text at ticks_form → TickOn text at rows
    go (Ok x) f =
        let r = row-good ticks_form text [] at x f in
        let s = split x.value text x.next rows (sym r.on ∙ sym behind ∙ e) in
        let there = tick-there text at x f in
        record {
          row = x.value;
          more = s.0;
          rows_are = s.1;
          tick = rw there refl;
          far = rw there r.far;
          inside = rw there (rw (← f) at (row_inside text [] (columns ticks_form) at (omega arith)));
          rest = rw there s.2;
        }
    go (Err offset) f = absurd (no (sym e ∙ behind ∙ row-bad ticks_form text [] at offset f))
      where
        no : found rows ≡ refused offset.0 → ⊥
        no e = let z : ◌≡◌ {A = ℕ} 0 1 = cc in omega arith

-- at a line's beginning, where n rows have come
pub record Counted (text : List ℕ) (at n : ℕ) : Type 0 where
  pub rows : List (List ℕ)
  pub line : Line ticks_form text rows at n
