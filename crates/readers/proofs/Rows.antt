-- Laws of a number with what ends it, and of a row, for the loop over its columns; no reader goes past the text.
use Prim.Native.Nat.{zero, ◌-◌, ℕ, suc, ◌+◌, ◌<◌, ◌≤◌}
use mathlib.Core.Path.{◌≡◌, refl, sym, ◌∙◌}
use mathlib.Core.Bool.{Bool, true, false, cond}
use mathlib.Core.List.{List, [], ◌∷◌, ◌++◌, append_assoc, append-nil}
use mathlib.Core.Option
use mathlib.Core.Option.{Option, none, some}
use native.Mathlib.Nat.{le_trans}
use native.Mathlib.Omega.{arith}
use borrow.Author.Tests.{eq-eqb, ne_eqb}
use lib.Dec.{eqb}
use lib.ListN.{length, drop, get_or, replicate, length-drop, drop_of_length-le}
use lib.Seq.{drop-cons}
use Rattle.std.specs.Prelude.{Option as Maybe, Some, None, Result, Ok, Err, IfSome, IfOk}
use Rattle.forms.specs.Forms
use Rattle.forms.specs.Forms.{Within, largest, ending}
use Rattle.forms.specs.Reader.{grow}
use Rattle.forms.proofs.Grow.{GrownIf, grown}
use Rattle.forms.proofs.Lines.{within_snoc}
use Rattle.forms.proofs.Sizes.{within_get_d}
use Rattle.readers.specs.declared.Offset.{Offset}
use Rattle.readers.specs.declared.Piece.{Piece}
use Rattle.readers.specs.Places.{agree_from, agree_at, bad, word_at, ends, number_from, number_at}
use Rattle.readers.specs.Places.{ended_by, cell_at, row_from}
use Rattle.readers.specs.Code.Digits.{Narrow}

agree-bound : (next : ℕ) (word bytes : List ℕ) → agree_from next word bytes ≤ next + length bytes
unfolding agree_from
agree-bound next [] bytes = omega arith
agree-bound next (b ∷ word) [] = omega arith
agree-bound next (b ∷ word) (c ∷ bytes) = go (eqb c b) (agree-bound (suc next) word bytes)
  where
    go : (t : Bool) → agree_from (suc next) word bytes ≤ suc next + length bytes
        → cond t (agree_from (suc next) word bytes) next ≤ next + suc (length bytes)
    go true h = omega arith
    go false h = omega arith

pub agree-most : (next : ℕ) (word bytes : List ℕ) → agree_from next word bytes ≤ next + length word
unfolding agree_from
agree-most next [] bytes = omega arith
agree-most next (b ∷ word) [] = omega arith
agree-most next (b ∷ word) (c ∷ bytes) = go (eqb c b) (agree-most (suc next) word bytes)
  where
    go : (t : Bool) → agree_from (suc next) word bytes ≤ suc next + length word
        → cond t (agree_from (suc next) word bytes) next ≤ next + suc (length word)
    go true h = omega arith
    go false h = omega arith

agree-inside : (text : List ℕ) (at : ℕ) (word : List ℕ) → at ≤ length text → agree_at text at word ≤ length text
agree-inside text at word h = omega (arith, agree-bound at word (drop at text), length-drop at text)

-- a number ends within the text
number-bounded : (most next : ℕ) (v : Option ℕ) (bytes : List ℕ)
    → IfSome (number_from most next v bytes) (λ x. x.next ≤ next + length bytes)
unfolding number_from
number-bounded most next none [] = tt
number-bounded most next (some v) [] = omega arith
number-bounded most next v (c ∷ bytes) = go v (grow most v c) (λ w. number-bounded most (suc next) (some w) bytes)
  where
    go : (v o : Option ℕ)
        → ((w : ℕ) → IfSome (number_from most (suc next) (some w) bytes) (λ x. x.next ≤ suc next + length bytes))
        → IfSome (elim o as (λ o. Maybe (Piece ℕ)) [
          | none ↦ ends next v
          | some w ↦ number_from most (suc next) (some w) bytes
        ]) (λ x. x.next ≤ next + suc (length bytes))
    go none none known = tt
    go (some v) none known = omega arith
    go v (some w) known = further (number_from most (suc next) (some w) bytes) (known w)
      where
        further : (o : Maybe (Piece ℕ)) → IfSome o (λ x. x.next ≤ suc next + length bytes)
            → IfSome o (λ x. x.next ≤ next + suc (length bytes))
        further None h = tt
        further (Some x) h = omega arith

number-fits : (most next : ℕ) (v : Option ℕ) (bytes : List ℕ) → Option.get_or v 0 ≤ most
    → IfSome (number_from most next v bytes) (λ x. x.value ≤ most)
unfolding number_from
number-fits most next none [] h = tt
number-fits most next (some v) [] h = h
number-fits most next v (c ∷ bytes) h =
    go v h (grow most v c) (grown most v c) (λ w f. number-fits most (suc next) (some w) bytes f)
  where
    go : (v : Option ℕ) → Option.get_or v 0 ≤ most → (o : Option ℕ) → GrownIf most v c o
        → ((w : ℕ) → w ≤ most → IfSome (number_from most (suc next) (some w) bytes) (λ x. x.value ≤ most))
        → IfSome (elim o as (λ o. Maybe (Piece ℕ)) [
          | none ↦ ends next v
          | some w ↦ number_from most (suc next) (some w) bytes
        ]) (λ x. x.value ≤ most)
    go none h none f known = tt
    go (some v) h none f known = h
    go v h (some w) f known = known w f.fits

module _ (text : List ℕ) (at : ℕ) where
  word-inside : (word : List ℕ) → at ≤ length text → IfOk (word_at text at word) (λ next. next ≤ length text)
  word-inside word inside = go (eqb (agree_at text at word) (at + length word))
    where
      go : (b : Bool)
          → IfOk (cond b (Ok (agree_at text at word)) (bad (agree_at text at word))) (λ next. next ≤ length text)
      go true = agree-inside text at word inside
      go false = tt

  -- the word as a loop along its bytes tells it
  pub word-whole : (word : List ℕ) → agree_at text at word ≡ at + length word
      → Ok (at + length word) ≡ word_at text at word
  word-whole word e = rw (eq-eqb _ _ e, e) refl

  pub word-part : (word : List ℕ) (offset : ℕ) → agree_at text at word ≡ offset → offset < at + length word
      → bad {A = ℕ} offset ≡ word_at text at word
  word-part word offset e l = rw (e, ne_eqb offset (at + length word) (omega arith)) refl

  number-inside : (most : ℕ) → at ≤ length text → IfSome (number_at most text at) (λ x. x.next ≤ length text)
  number-inside most inside = go (number_at most text at) (number-bounded most at none (drop at text))
    where
      go : (o : Maybe (Piece ℕ)) → IfSome o (λ x. x.next ≤ at + length (drop at text))
          → IfSome o (λ x. x.next ≤ length text)
      go None h = tt
      go (Some x) h = omega (arith, length-drop at text)

module _ (most : ℕ) (text : List ℕ) (at : ℕ) (word : List ℕ) where
  pub cell-none : number_at most text at ≡ None → cell_at most text at word ≡ bad at
  unfolding cell_at
  cell-none e = rw (cell_at, e) refl

  pub cell-some : (x : Piece ℕ) → number_at most text at ≡ Some x → cell_at most text at word ≡ ended_by text word x
  unfolding cell_at
  cell-some x e = rw (cell_at, e) refl

  -- the same as the code tells it
  pub cell-cut : (x : Piece ℕ) → Some x ≡ number_at most text at → (offset : Offset)
      → Err offset ≡ word_at text x.next word → Err offset ≡ cell_at most text at word
  cell-cut x e offset f = sym (cell-some x (sym e) ∙ rw (ended_by, ← f) refl)

  pub cell-full : (x : Piece ℕ) → Some x ≡ number_at most text at → (next : ℕ)
      → Ok next ≡ word_at text x.next word → Ok (record { value = x.value; next = next }) ≡ cell_at most text at word
  cell-full x e next f = sym (cell-some x (sym e) ∙ rw (ended_by, ← f) refl)

module _ (text : List ℕ) where
  cell-inside : (most at : ℕ) (word : List ℕ) → at ≤ length text
      → IfOk (cell_at most text at word) (λ x. x.next ≤ length text)
  unfolding cell_at
  cell-inside most at word h = go (number_at most text at) (number-inside text at most h)
    where
      behind : (x : Piece ℕ) (r : Result ℕ Offset) → IfOk r (λ next. next ≤ length text)
          → IfOk (elim r as (λ r. Result (Piece ℕ) Offset) [
            | Ok next ↦ Ok (record { value = x.value; next = next })
            | Err offset ↦ Err offset
          ]) (λ x. x.next ≤ length text)
      behind x (Ok next) f = f
      behind x (Err offset) f = tt

      go : (o : Maybe (Piece ℕ)) → IfSome o (λ x. x.next ≤ length text)
          → IfOk (elim o as (λ o. Result (Piece ℕ) Offset) [ None ↦ bad at | Some x ↦ ended_by text word x ])
          (λ x. x.next ≤ length text)
      go None f = tt
      go (Some x) f = behind x (word_at text x.next word) (word-inside text x.next word f)

  pub row_inside : (numbers mosts : List ℕ) (at : ℕ) → at ≤ length text
      → IfOk (row_from text numbers mosts at) (λ row. row.next ≤ length text)
  unfolding row_from
  row_inside numbers [] at h = h
  row_inside numbers (most ∷ mosts) at h =
      go (cell_at most text at (ending (length mosts))) (cell-inside most at (ending (length mosts)) h)
      (λ x f. row_inside (numbers ++ (x.value ∷ [])) mosts x.next f)
    where
      go : (r : Result (Piece ℕ) Offset) → IfOk r (λ x. x.next ≤ length text)
          → ((x : Piece ℕ) → x.next ≤ length text
          → IfOk (row_from text (numbers ++ (x.value ∷ [])) mosts x.next) (λ row. row.next ≤ length text))
          → IfOk (elim r as (λ r. Result (Piece (List ℕ)) Offset) [
            | Ok x ↦ row_from text (numbers ++ (x.value ∷ [])) mosts x.next
            | Err offset ↦ Err offset
          ]) (λ row. row.next ≤ length text)
      go (Ok x) f known = known x f
      go (Err offset) f known = tt

-- what is to come of a row, from column j on, counted from 0
module _ (text numbers mosts : List ℕ) (j next : ℕ) (less : j < length mosts) where
  this : row_from text numbers (drop j mosts) next
      ≡ elim (cell_at (get_or mosts j 0) text next (ending (length mosts - j - 1)))
      as (λ r. Result (Piece (List ℕ)) Offset) [
        | Ok x ↦ row_from text (numbers ++ (x.value ∷ [])) (drop (suc j) mosts) x.next
        | Err offset ↦ Err offset
      ]
  unfolding row_from
  this =
      let left : length (drop (suc j) mosts) ≡ length mosts - j - 1 = length-drop (suc j) mosts ∙ omega arith in
      rw (drop-cons mosts j 0 less) (rw (row_from, left) refl)

  pub row_more : (x : Piece ℕ) → Ok x ≡ cell_at (get_or mosts j 0) text next (ending (length mosts - j - 1))
      → row_from text numbers (drop j mosts) next
      ≡ row_from text (numbers ++ (x.value ∷ [])) (drop (suc j) mosts) x.next
  row_more x e = this ∙ rw (← e) refl

  pub row-stop : (offset : Offset) → Err offset ≡ cell_at (get_or mosts j 0) text next (ending (length mosts - j - 1))
      → row_from text numbers (drop j mosts) next ≡ Err offset
  row-stop offset e = this ∙ rw (← e) refl

pub row-end : (text numbers mosts : List ℕ) (j next : ℕ) → length mosts ≤ j
    → row_from text numbers (drop j mosts) next ≡ Ok (record { value = numbers; next = next })
unfolding row_from
row-end text numbers mosts j next h = rw (drop_of_length-le mosts {i = j} h) refl

replicate-most : (n i : ℕ) → get_or (replicate n largest) i 0 ≤ largest
replicate-most zero i = omega arith
replicate-most (suc n) zero = omega arith
replicate-most (suc n) (suc i) = replicate-most n i

-- no number of a row is above its column's largest
module _ (text : List ℕ) where
  cell-fits : (most at : ℕ) (word : List ℕ) → IfOk (cell_at most text at word) (λ x. x.value ≤ most)
  unfolding cell_at
  cell-fits most at word = go (number_at most text at) (number-fits most at none (drop at text) (omega arith))
    where
      behind : (x : Piece ℕ) → x.value ≤ most → (r : Result ℕ Offset)
          → IfOk (elim r as (λ r. Result (Piece ℕ) Offset) [
            | Ok next ↦ Ok (record { value = x.value; next = next })
            | Err offset ↦ Err offset
          ]) (λ x. x.value ≤ most)
      behind x f (Ok next) = f
      behind x f (Err offset) = tt

      go : (o : Maybe (Piece ℕ)) → IfSome o (λ x. x.value ≤ most)
          → IfOk (elim o as (λ o. Result (Piece ℕ) Offset) [ None ↦ bad at | Some x ↦ ended_by text word x ])
          (λ x. x.value ≤ most)
      go None f = tt
      go (Some x) f = behind x f (word_at text x.next word)

  row_within : (past numbers mosts : List ℕ) (at : ℕ) → Within past numbers
      → IfOk (row_from text numbers mosts at) (λ row. Within (past ++ mosts) row.value)
  unfolding row_from
  row_within past numbers [] at w = rw (append-nil past) w
  row_within past numbers (most ∷ mosts) at w =
      go (cell_at most text at (ending (length mosts))) (cell-fits most at (ending (length mosts)))
      (λ x f. rw append_assoc at
      (row_within (past ++ (most ∷ [])) (numbers ++ (x.value ∷ [])) mosts x.next (within_snoc w f)))
    where
      go : (r : Result (Piece ℕ) Offset) → IfOk r (λ x. x.value ≤ most)
          → ((x : Piece ℕ) → x.value ≤ most
          → IfOk (row_from text (numbers ++ (x.value ∷ [])) mosts x.next)
          (λ row. Within (past ++ (most ∷ mosts)) row.value))
          → IfOk (elim r as (λ r. Result (Piece (List ℕ)) Offset) [
            | Ok x ↦ row_from text (numbers ++ (x.value ∷ [])) mosts x.next
            | Err offset ↦ Err offset
          ]) (λ row. Within (past ++ (most ∷ mosts)) row.value)
      go (Ok x) f known = known x f
      go (Err offset) f known = tt

  pub row-most : (mosts : List ℕ) (at : ℕ) (x : Piece (List ℕ)) → Ok x ≡ row_from text [] mosts at
      → (i : ℕ) → get_or x.value i 0 ≤ get_or mosts i 0
  row-most mosts at x e i = within_get_d (rw (← e) at (row_within [] [] mosts at Forms.none)) i

  pub row-narrow : (n at : ℕ) (x : Piece (List ℕ)) → Ok x ≡ row_from text [] (replicate n largest) at → Narrow x.value
  row-narrow n at x e i = le_trans (row-most (replicate n largest) at x e i) (replicate-most n i)
