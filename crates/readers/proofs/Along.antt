-- The reader of a form, followed along a text by what stands at its places.
use Prim.Native.Nat.{ℕ, zero, suc, ◌+◌, ◌<◌, ◌≤◌}
use mathlib.Core.Path.{◌≡◌, refl, sym, ap, ◌∙◌}
use mathlib.Core.Bool.{Bool, true, false}
use mathlib.Core.List.{List, [], ◌∷◌}
use mathlib.Core.Option.{Option, none, some}
use native.Mathlib.Numerals.{add-one}
use native.Mathlib.Omega.{arith}
use native.Mathlib.Decide.{dec_lt}
use native.Mathlib.Nat.{add-zero, zero-add}
use borrow.Author.Tests.{eqb-true, eqb-false}
use lib.Dec.{eqb}
use lib.ListN.{length, drop, get_or, drop_of_length-le}
use lib.Seq.{drop-cons}
use Rattle.std.specs.Prelude.{Option as Maybe, Some, None}
use Rattle.forms.specs.Forms.{Form}
use Rattle.forms.specs.Reads.{Answer, found, refused}
use Rattle.forms.specs.Reader.{run, later, ended, grow, State, word, cell, step, rows_at, start, read}
use Rattle.forms.proofs.Runs.{stuck, moves}
use Rattle.readers.specs.declared.Piece.{Piece}
use Rattle.readers.specs.Places.{agree_from, agree_at, number_from, number_at}
use Rattle.readers.proofs.Places.{agree-short, agree-other, agree-more, halts, goes, number_short, number-end}

later-later : (m n : ℕ) (x : Answer (List (List ℕ))) → later m (later n x) ≡ later (m + n) x
later-later m n (found rows) = refl
later-later m n (refused k) = ap refused (omega arith)

module _ (F : Form) (text : List ℕ) where
  -- what the reader answers that is in a state at a place of the text
  abbrev pub from : ℕ → State → Answer (List (List ℕ))
  from at s = later at (run (step F) (rows_at F) s (drop at text))

  pub whole : read F text ≡ from 0 (start F)
  unfolding read
  whole = go (run (step F) (rows_at F) (start F) text)
    where
      go : (x : Answer (List (List ℕ))) → x ≡ later 0 x
      go (found rows) = refl
      go (refused k) = ap refused (sym (zero-add k))

  pub short : (at : ℕ) (s : State) → length text ≤ at → from at s ≡ later at (ended (rows_at F s))
  unfolding run
  short at s h = rw (drop_of_length-le text h)

  pub halt : (at : ℕ) (s : State) → at < length text → step F s (get_or text at 0) ≡ none → from at s ≡ refused at
  halt at s h e = rw (drop-cons text at 0 h, stuck (step F) (rows_at F) s (get_or text at 0) (drop (suc at) text) e)
      (ap refused (add-zero at))

  pub move : (at : ℕ) (s t : State) → at < length text → step F s (get_or text at 0) ≡ some t
      → from at s ≡ from (suc at) t
  move at s t h e =
      rw (drop-cons text at 0 h, moves (step F) (rows_at F) s t (get_or text at 0) (drop (suc at) text) e)
      (later-later at 1 (run (step F) (rows_at F) t (drop (suc at) text))
      ∙ ap (λ (n : ℕ). later n (run (step F) (rows_at F) t (drop (suc at) text))) (add-one at))

  -- two states that go on alike
  pub alike-inside : (at : ℕ) (s t : State) → at < length text
      → step F s (get_or text at 0) ≡ step F t (get_or text at 0) → from at s ≡ from at t
  unfolding run
  alike-inside at s t l h = rw (drop-cons text at 0 l) (rw (h, run))

  pub alike : (at : ℕ) (s t : State) → rows_at F s ≡ rows_at F t
      → (at < length text → step F s (get_or text at 0) ≡ step F t (get_or text at 0)) → from at s ≡ from at t
  alike at s t e h = go (dec_lt at (length text))
    where
      go : Dec (at < length text) → from at s ≡ from at t
      go (yes l) = alike-inside at s t l (h l)
      go (no g) = short at s (omega arith) ∙ rw e (sym (short at t (omega arith)))

  -- fixed bytes
  pub data Agreed (rows : List (List ℕ)) (w : List ℕ) (at : ℕ) : Type 0 where
    agrees : agree_at text at w ≡ at + length w
        → from at (word rows w) ≡ from (at + length w) (word rows []) → Agreed rows w at
    differs : (agree_at text at w ≡ at + length w → ⊥)
        → from at (word rows w) ≡ refused (agree_at text at w) → Agreed rows w at

  module _ (rows : List (List ℕ)) (b : ℕ) (w : List ℕ) (at : ℕ) where
    word-short : length text ≤ at → Agreed rows (b ∷ w) at
    unfolding rows_at
    word-short h =
        let e : agree_at text at (b ∷ w) ≡ at = agree-short text at (b ∷ w) h in
        differs (λ f. omega arith) (short at (word rows (b ∷ w)) h ∙ ap refused (add-zero at ∙ sym e))

    word-other : at < length text → eqb (get_or text at 0) b ≡ false → Agreed rows (b ∷ w) at
    unfolding step
    word-other l e =
        let f : agree_at text at (b ∷ w) ≡ at = agree-other text at (b ∷ w) 0 l (omega arith) (eqb-false _ _ e) in
        differs (λ g. omega arith) (halt at (word rows (b ∷ w)) l (rw e) ∙ ap refused (sym f))

    word_more : at < length text → eqb (get_or text at 0) b ≡ true → Agreed rows w (suc at) → Agreed rows (b ∷ w) at
    unfolding step
    word_more l e known =
        go known (rw add-one at (agree-more text at (b ∷ w) 0 l (omega arith) (eqb-true _ _ e)))
        (move at (word rows (b ∷ w)) (word rows w) l (rw e))
      where
        go : Agreed rows w (suc at) → agree_at text at (b ∷ w) ≡ agree_at text (suc at) w
            → from at (word rows (b ∷ w)) ≡ from (suc at) (word rows w) → Agreed rows (b ∷ w) at
        go (agrees f g) same on =
            let far : suc at + length w ≡ at + suc (length w) = omega arith in
            agrees (same ∙ f ∙ far) (on ∙ g ∙ ap (λ (n : ℕ). from n (word rows [])) far)
        go (differs f g) same on =
            differs (λ h. f (sym same ∙ h ∙ omega arith)) (on ∙ g ∙ ap refused (sym same))

  pub agreed : (rows : List (List ℕ)) (w : List ℕ) (at : ℕ) → Agreed rows w at
  unfolding agree_from
  agreed rows [] at = agrees (omega arith) (rw add-zero refl)
  agreed rows (b ∷ w) at = go (dec_lt at (length text)) (agreed rows w (suc at))
    where
      test : (t : Bool) → eqb (get_or text at 0) b ≡ t → at < length text → Agreed rows w (suc at)
          → Agreed rows (b ∷ w) at
      test true e l known = word_more rows b w at l e known
      test false e l known = word-other rows b w at l e

      go : Dec (at < length text) → Agreed rows w (suc at) → Agreed rows (b ∷ w) at
      go (yes l) known = test (eqb (get_or text at 0) b) refl l known
      go (no g) known = word-short rows b w at (omega arith)

  module _ (rows : List (List ℕ)) (ns : List ℕ) (m : ℕ) (cs : List ℕ) where
    -- a number, of which v has come or nothing
    pub record Numbered (at : ℕ) (v : Option ℕ) (o : Maybe (Piece ℕ)) : Type 0 where
      pub x : Piece ℕ
      pub is : o ≡ Some x
      pub far : at ≤ x.next
      pub on : from at (cell rows ns m cs v) ≡ from x.next (cell rows ns m cs (some x.value))
      pub stops : x.next < length text → grow m (some x.value) (get_or text x.next 0) ≡ none

    grow-step : (v : Option ℕ) (c w : ℕ) → grow m v c ≡ some w
        → step F (cell rows ns m cs v) c ≡ some (cell rows ns m cs (some w))
    unfolding step
    grow-step v c w e = rw e

    number-on : (at : ℕ) (v : Option ℕ) (w : ℕ) → at < length text → grow m v (get_or text at 0) ≡ some w
        → Numbered (suc at) (some w) (number_from m (suc at) (some w) (drop (suc at) text))
        → Numbered at v (number_from m at v (drop at text))
    number-on at v w l e h =
        rw (goes m text at l v w e, add-one)
        (record {
          x = h.x;
          is = h.is;
          far = let f = h.far in omega arith;
          on = move at (cell rows ns m cs v) (cell rows ns m cs (some w)) l (grow-step v (get_or text at 0) w e) ∙ h.on;
          stops = h.stops;
        })

    number-done : (at v : ℕ) → (at < length text → grow m (some v) (get_or text at 0) ≡ none)
        → Numbered at (some v) (Some (record { value = v; next = at }))
    number-done at v stops =
        record { x = record { value = v; next = at }; is = refl; far = omega arith; on = refl; stops = stops }

    number-from : (k at v : ℕ) → length text ≤ k + at
        → Numbered at (some v) (number_from m at (some v) (drop at text))
    number-from zero at v h = rw (number-end m text at v (omega arith)) (number-done at v (λ l. absurd (no l h)))
      where
        no : at < length text → length text ≤ 0 + at → ⊥
        no l h = omega arith
    number-from (suc k) at v h = go (dec_lt at (length text)) (λ w. number-from k (suc at) w (omega arith))
      where
        test : (o : Option ℕ) → grow m (some v) (get_or text at 0) ≡ o → at < length text
            → ((w : ℕ) → Numbered (suc at) (some w) (number_from m (suc at) (some w) (drop (suc at) text)))
            → Numbered at (some v) (number_from m at (some v) (drop at text))
        test none e l known = rw (halts m text at l (some v) e) (number-done at v (λ l. e))
        test (some w) e l known = number-on at (some v) w l e (known w)

        go : Dec (at < length text)
            → ((w : ℕ) → Numbered (suc at) (some w) (number_from m (suc at) (some w) (drop (suc at) text)))
            → Numbered at (some v) (number_from m at (some v) (drop at text))
        go (yes l) known = test (grow m (some v) (get_or text at 0)) refl l known
        go (no g) known = rw (number-end m text at v (omega arith)) (number-done at v (λ l. absurd (g l)))

    pub data Begun (at : ℕ) : Type 0 where
      nothing : number_at m text at ≡ None → from at (cell rows ns m cs none) ≡ refused at → Begun at
      number : (x : Piece ℕ) → number_at m text at ≡ Some x → at < x.next
          → from at (cell rows ns m cs none) ≡ from x.next (cell rows ns m cs (some x.value))
          → (x.next < length text → grow m (some x.value) (get_or text x.next 0) ≡ none) → Begun at

    none-step : (c : ℕ) → grow m none c ≡ none → step F (cell rows ns m cs none) c ≡ none
    unfolding step
    none-step c e = rw e

    begun-short : (at : ℕ) → length text ≤ at → Begun at
    unfolding rows_at
    begun-short at h =
        nothing (number_short m text at h) (short at (cell rows ns m cs none) h ∙ ap refused (add-zero at))

    pub begun : (at : ℕ) → Begun at
    begun at = go (dec_lt at (length text))
      where
        test : (o : Option ℕ) → grow m none (get_or text at 0) ≡ o → at < length text → Begun at
        test none e l =
            nothing (halts m text at l none e)
            (halt at (cell rows ns m cs none) l (none-step (get_or text at 0) e))
        test (some w) e l =
            let first = number-from (length text) (suc at) w (omega arith) in
            number first.x (rw (goes m text at l none w e, add-one) first.is) (let f = first.far in omega arith)
            (move at (cell rows ns m cs none) (cell rows ns m cs (some w)) l (grow-step none (get_or text at 0) w e)
            ∙ first.on) first.stops

        go : Dec (at < length text) → Begun at
        go (yes l) = test (grow m none (get_or text at 0)) refl l
        go (no g) = begun-short at (omega arith)
