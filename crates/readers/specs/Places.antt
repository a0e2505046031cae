-- What stands at a place of a text: fixed bytes, a number, a number with what ends it, a row. Each is read as far as it
-- goes; what is not there ends at the first byte that may not stand there.
use Rattle.std.specs.Prelude.{ℕ, suc, ◌+◌, cond, List, [], ◌∷◌, ◌++◌, eqb, length, drop}
use Rattle.std.specs.Prelude.{Option as Maybe, Some, None, Result, Ok, Err}
use Rattle.std.proofs.Math.Option.{Option, none, some}
use Rattle.forms.specs.Forms.{Form, columns, ending}
use Rattle.forms.specs.Reader.{grow}
use Rattle.readers.specs.declared.Offset.{Offset}
use Rattle.readers.specs.declared.Piece.{Piece}

-- the place up to which the bytes agree with the word
unfoldable pub agree_from : ℕ → List ℕ → List ℕ → ℕ
agree_from next [] bytes = next
agree_from next (b ∷ word) [] = next
agree_from next (b ∷ word) (c ∷ bytes) = cond (eqb c b) (agree_from (suc next) word bytes) next

abbrev pub agree_at : List ℕ → ℕ → List ℕ → ℕ
agree_at text at word = agree_from at word (drop at text)

abbrev pub bad : {A : Type 0} → ℕ → Result A Offset
bad offset = Err (record { 0 = offset })

abbrev pub word_at : List ℕ → ℕ → List ℕ → Result ℕ Offset
word_at text at word =
    let next = agree_at text at word in
    cond (eqb next (at + length word)) (Ok next) (bad next)

-- a number that ends here, of which v has come, or nothing
abbrev pub ends : ℕ → Option ℕ → Maybe (Piece ℕ)
ends next none = None
ends next (some v) = Some (record { value = v; next = next })

-- the number of a column of which v has come, or nothing
unfoldable pub number_from : ℕ → ℕ → Option ℕ → List ℕ → Maybe (Piece ℕ)
number_from most next v [] = ends next v
number_from most next v (c ∷ bytes) =
    elim (grow most v c) [
      | none ↦ ends next v
      | some w ↦ number_from most (suc next) (some w) bytes
    ]

abbrev pub number_at : ℕ → List ℕ → ℕ → Maybe (Piece ℕ)
number_at most text at = number_from most at none (drop at text)

abbrev pub ended_by : List ℕ → List ℕ → Piece ℕ → Result (Piece ℕ) Offset
ended_by text word x =
    elim (word_at text x.next word) [
      | Ok next ↦ Ok (record { value = x.value; next = next })
      | Err offset ↦ Err offset
    ]

unfoldable pub cell_at : ℕ → List ℕ → ℕ → List ℕ → Result (Piece ℕ) Offset
cell_at most text at word = elim (number_at most text at) [ None ↦ bad at | Some x ↦ ended_by text word x ]

-- numbers that have come, and the columns that are to come
unfoldable pub row_from : List ℕ → List ℕ → List ℕ → ℕ → Result (Piece (List ℕ)) Offset
row_from text numbers [] next = Ok (record { value = numbers; next = next })
row_from text numbers (most ∷ mosts) next =
    elim (cell_at most text next (ending (length mosts))) [
      | Ok x ↦ row_from text (numbers ++ (x.value ∷ [])) mosts x.next
      | Err offset ↦ Err offset
    ]

abbrev pub row_at : List ℕ → ℕ → Form → Result (Piece (List ℕ)) Offset
row_at text at F = row_from text [] (columns F) at
