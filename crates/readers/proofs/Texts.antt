-- The reader of a form, followed over a whole text, line by line.
use Prim.Native.Nat.{ℕ, ◌+◌, ◌<◌, ◌≤◌}
use mathlib.Core.Path.{◌≡◌, refl, sym, ap, ◌∙◌}
use mathlib.Core.Bool.{true, false}
use mathlib.Core.List.{List, [], ◌∷◌, ◌++◌}
use mathlib.Core.Option.{none}
use borrow.Author.Tests.{eq-eqb, ne_eqb}
use native.Mathlib.Omega.{arith}
use lib.ListN.{length, get_or, length-append}
use Rattle.std.specs.Prelude.{Ok, Err}
use Rattle.forms.specs.Forms.{Form, crlf}
use Rattle.forms.specs.Reads.{found, refused}
use Rattle.forms.specs.Reader.{State, word, cell, may_begin, may_end, step, rows_at, read}
use Rattle.readers.specs.declared.Offset.{Offset}
use Rattle.readers.specs.declared.Piece.{Piece}
use Rattle.readers.specs.Places.{agree_at, bad, word_at, row_at}
use Rattle.readers.proofs.Along
use Rattle.readers.proofs.Along.{from, short, halt, alike-inside, alike, Agreed, agrees, differs, agreed}
use Rattle.readers.proofs.Cells.{RowOn, rowed}

module _ (F : Form) (text : List ℕ) where
  abbrev head : List ℕ
  head = F.header ++ crlf

  -- the header, and CR LF
  pub head-bad : (offset : Offset) → Err offset ≡ word_at text 0 (F.header ++ crlf) → read F text ≡ refused offset.0
  head-bad offset e = Along.whole F text ∙ go (agreed F text [] head 0) e
    where
      go : Agreed F text [] head 0 → Err offset ≡ word_at text 0 head → from F text 0 (word [] head) ≡ refused offset.0
      go (agrees f h) e = absurd (no (rw (eq-eqb _ _ f) at e))
        where
          no : Err offset ≡ Ok (agree_at text 0 head) → ⊥
          no e = let z : ◌≡◌ {A = ℕ} 0 1 = cc in omega arith
      go (differs f h) e =
          let same : offset.0 ≡ agree_at text 0 head = cc (rw (ne_eqb _ _ f) at e) in
          h ∙ ap refused (sym same)

  pub head-good : (k : ℕ) → Ok k ≡ word_at text 0 (F.header ++ crlf) → read F text ≡ from F text k (word [] [])
  head-good k e = Along.whole F text ∙ go (agreed F text [] head 0) e
    where
      go : Agreed F text [] head 0 → Ok k ≡ word_at text 0 head
          → from F text 0 (word [] head) ≡ from F text k (word [] [])
      go (agrees f h) e =
          let same : k ≡ agree_at text 0 head = cc (rw (eq-eqb _ _ f) at e) in
          h ∙ ap (λ (n : ℕ). from F text n (word [] [])) (sym f ∙ sym same)
      go (differs f h) e = absurd (no (rw (ne_eqb _ _ f) at e))
        where
          no : Ok k ≡ bad (agree_at text 0 head) → ⊥
          no e = let z : ◌≡◌ {A = ℕ} 0 1 = cc in omega arith

  pub ends : (rows : List (List ℕ)) (at : ℕ) → may_end F.one rows ≡ true → length text ≤ at
      → from F text at (word rows []) ≡ found rows
  unfolding rows_at
  ends rows at e h = short F text at (word rows []) h ∙ rw e

  -- no row may begin
  pub closed : (rows : List (List ℕ)) (at : ℕ) → may_begin F.one rows ≡ false → at < length text
      → from F text at (word rows []) ≡ refused at
  unfolding step
  closed rows at e l = halt F text at (word rows []) l (rw e)

  module _ (rows : List (List ℕ)) (at : ℕ) where
    -- a row's first number
    abbrev pub opening : State
    opening = cell rows [] F.first F.others none

    begin_step : may_begin F.one rows ≡ true → (c : ℕ) → step F (word rows []) c ≡ step F opening c
    unfolding step
    begin_step e c = rw e

    -- a row begins where the text goes on, or where it may not end
    pub begins : may_begin F.one rows ≡ true → at < length text
        → from F text at (word rows []) ≡ from F text at opening
    begins e l = alike-inside F text at (word rows []) opening l (begin_step e (get_or text at 0))

    pub must_begin : may_begin F.one rows ≡ true → may_end F.one rows ≡ false
        → from F text at (word rows []) ≡ from F text at opening
    unfolding rows_at
    must_begin e f = alike F text at (word rows []) opening (rw f) (λ l. begin_step e (get_or text at 0))

    pub row-good : (x : Piece (List ℕ)) → Ok x ≡ row_at text at F → RowOn F text rows [] F.first F.others at x
    row-good x e = rw (← e) at (rowed F text rows F.first F.others [] at)

    pub row-bad : (offset : Offset) → Err offset ≡ row_at text at F → from F text at opening ≡ refused offset.0
    row-bad offset e = rw (← e) at (rowed F text rows F.first F.others [] at)

-- at a line's beginning, where these n rows have come and any number may
pub record Line (F : Form) (text : List ℕ) (rows : List (List ℕ)) (at n : ℕ) : Type 0 where
  pub on : read F text ≡ from F text at (word rows [])
  pub count : n ≡ length rows
  pub few : n ≤ at

module _ (F : Form) (many : F.one ≡ false) (text : List ℕ) where
  pub line-start : (k : ℕ) → Ok k ≡ word_at text 0 (F.header ++ crlf) → Line F text [] k 0
  line-start k e =
      record {
        on = head-good F text k e;
        count = refl;
        few = omega arith;
      }

  module _ (rows : List (List ℕ)) (at n : ℕ) (h : Line F text rows at n) where
    pub line-end : length text ≤ at → read F text ≡ found rows
    line-end l = h.on ∙ ends F text rows at (rw many) l

    module _ (less : at < length text) where
      pub line-bad : (offset : Offset) → Err offset ≡ row_at text at F → read F text ≡ refused offset.0
      line-bad offset e = h.on ∙ begins F text rows at (rw many) less ∙ row-bad F text rows at offset e

      module _ (x : Piece (List ℕ)) (e : Ok x ≡ row_at text at F) where
        pub line_row : RowOn F text rows [] F.first F.others at x
        line_row = row-good F text rows at x e

        pub line-next : Line F text (rows ++ (x.value ∷ [])) x.next (n + 1)
        line-next =
            let r = line_row in
            record {
              on = h.on ∙ begins F text rows at (rw many) less ∙ r.on;
              count = let c = h.count in simp length-append (omega arith);
              few = let c = h.few in let g = r.far in omega arith;
            }
