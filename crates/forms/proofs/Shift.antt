-- Where any number of rows may stand, rows that have come change nothing of what may follow: reading goes on as if it
-- began there.
use Prim.Native.Nat.{ℕ}
use mathlib.Core.Path.{◌≡◌, refl, sym, ap, ◌∙◌}
use mathlib.Core.Bool.{Bool, true, false}
use mathlib.Core.List.{List, [], ◌∷◌, ◌++◌, append_assoc}
use mathlib.Core.Option.{Option, none, some}
use lib.Dec.{eqb}
use Rattle.forms.specs.Bytes.{comma, cr}
use Rattle.forms.specs.Forms.{Form}
use Rattle.forms.specs.Reads.{Answer, found, refused}
use Rattle.forms.specs.Reader.{run, later, ended, keep, grow, State, word, cell, leave, inside}
use Rattle.forms.specs.Reader.{step, rows_at}
use Rattle.forms.proofs.Runs.{stuck, moves}

abbrev pub shift : List (List ℕ) → State → State
shift done (word rows w) = word (done ++ rows) w
shift done (cell rows ns m cs v) = cell (done ++ rows) ns m cs v

abbrev pub prefixed : List (List ℕ) → Answer (List (List ℕ)) → Answer (List (List ℕ))
prefixed done (found rows) = found (done ++ rows)
prefixed done (refused k) = refused k

abbrev mapped : {A : Type 0} → (A → A) → Option A → Option A
mapped f none = none
mapped f (some a) = some (f a)

module _ (done : List (List ℕ)) where
  shift-keep : (b : Bool) (s : State) → keep b (shift done s) ≡ mapped (shift done) (keep b s)
  shift-keep true s = refl
  shift-keep false s = refl

  shift-leave : (rows : List (List ℕ)) (ns cs : List ℕ) (c : ℕ)
      → leave (done ++ rows) ns cs c ≡ mapped (shift done) (leave rows ns cs c)
  shift-leave rows ns [] c = rw append_assoc (shift-keep (eqb c cr) (word (rows ++ (ns ∷ [])) _))
  shift-leave rows ns (m ∷ cs) c = shift-keep (eqb c comma) (cell rows ns m cs none)

  shift-inside : (rows : List (List ℕ)) (ns : List ℕ) (m : ℕ) (cs : List ℕ) (v : Option ℕ) (c : ℕ) (w : Option ℕ)
      → inside (done ++ rows) ns m cs v c w ≡ mapped (shift done) (inside rows ns m cs v c w)
  shift-inside rows ns m cs v c (some w) = refl
  shift-inside rows ns m cs none c none = refl
  shift-inside rows ns m cs (some v) c none = shift-leave rows (ns ++ (v ∷ [])) cs c

  module _ (F : Form) (many : F.one ≡ false) where
    shift-step : (s : State) (c : ℕ) → step F (shift done s) c ≡ mapped (shift done) (step F s c)
    unfolding step
    shift-step (word rows (b ∷ w)) c = shift-keep (eqb c b) (word rows w)
    shift-step (word rows []) c = rw many (shift-inside rows [] F.first F.others none c (grow F.first none c))
    shift-step (cell rows ns m cs v) c = shift-inside rows ns m cs v c (grow m v c)

    shift-end : (s : State) → ended (rows_at F (shift done s)) ≡ prefixed done (ended (rows_at F s))
    unfolding rows_at
    shift-end (word rows []) = rw many
    shift-end (word rows (b ∷ w)) = refl
    shift-end (cell rows ns m cs v) = refl

    prefixed-later : (x : Answer (List (List ℕ))) → later 1 (prefixed done x) ≡ prefixed done (later 1 x)
    prefixed-later (found rows) = refl
    prefixed-later (refused k) = refl

    pub shift-run : (s : State) (bytes : List ℕ)
        → run (step F) (rows_at F) (shift done s) bytes ≡ prefixed done (run (step F) (rows_at F) s bytes)
    unfolding run
    shift-run s [] = shift-end s
    shift-run s (c ∷ rest) = go (step F s c) refl (λ t. shift-run t rest)
      where
        go : (o : Option State) → step F s c ≡ o
            → ((t : State)
            → run (step F) (rows_at F) (shift done t) rest ≡ prefixed done (run (step F) (rows_at F) t rest))
            → run (step F) (rows_at F) (shift done s) (c ∷ rest) ≡ prefixed done (run (step F) (rows_at F) s (c ∷ rest))
        go none e ih =
            stuck (step F) (rows_at F) (shift done s) c rest (shift-step s c ∙ ap (mapped (shift done)) e)
            ∙ ap (prefixed done) (sym (stuck (step F) (rows_at F) s c rest e))
        go (some t) e ih =
            moves (step F) (rows_at F) (shift done s) (shift done t) c rest
            (shift-step s c ∙ ap (mapped (shift done)) e)
            ∙ ap (later 1) (ih t)
            ∙ prefixed-later (run (step F) (rows_at F) t rest)
            ∙ ap (prefixed done) (sym (moves (step F) (rows_at F) s t c rest e))
