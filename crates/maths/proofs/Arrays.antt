-- Arrays with an entry for each task, as a loop over the tasks writes them.
use Prim.Native.Nat.{ℕ, zero, suc, ◌+◌, ◌<◌, ◌≤◌, min}
use mathlib.Core.Path.{◌≡◌, refl, sym, ◌∙◌, ap}
use mathlib.Core.Bool.{cond}
use mathlib.Core.List.{List}
use mathlib.Core.Logic.{◌≢◌}
use native.Mathlib.Omega.{arith}
use native.Mathlib.Decide.{dec_lt}
use borrow.Author.Tests.{le-leb, lt-leb}
use lib.Dec.{leb}
use lib.ListN.{length, get_or, set}
use lib.Seq.{ext_get_or}
use Rattle.maths.specs.Padded.{padded}
use Rattle.maths.specs.Tasks.{tabulate, entry}
use Rattle.maths.proofs.Padded.{length-padded, get_d_padded}
use Rattle.maths.proofs.Tasks.{length-tabulate, get_d_tabulate, set-tabulate}

-- only the entries of tasks 1 to n count
pub tabulate-ext : {X : Type 0} (f g : ℕ → X) (n : ℕ) → ((i : ℕ) → i < n → f (suc i) ≡ g (suc i))
    → tabulate n f ≡ tabulate n g
unfolding tabulate
tabulate-ext f g zero h = refl
tabulate-ext f g (suc n) h = rw (tabulate-ext f g n (λ i l. h i (omega arith)), h n (omega arith))

-- an array is the list of its entries
pub tabulate-entry : {X : Type 0} (l : List X) (n : ℕ) (d : X) → length l ≡ n → tabulate n (λ k. entry l k d) ≡ l
tabulate-entry l n d e =
    ext_get_or d _ l (length-tabulate (λ k. entry l k d) n ∙ sym e)
    (λ i m. get_d_tabulate (λ k. entry l k d) n i d (omega (arith, length-tabulate (λ k. entry l k d) n)))

-- the entries of an array that holds the first n of a list
pub padded-entries : {X : Type 0} (d : X) (n : ℕ) (xs : List X) → padded n d xs ≡ tabulate n (λ k. entry xs k d)
padded-entries d n xs =
    sym (tabulate-entry (padded n d xs) n d (length-padded d n xs))
    ∙ tabulate-ext (λ k. entry (padded n d xs) k d) (λ k. entry xs k d) n (λ i l. get_d_padded d n xs i l)

-- after i turns of a loop: f's entries for tasks 1 to i, and still g's for the others
abbrev pub up_to : {X : Type 0} → ℕ → (ℕ → X) → (ℕ → X) → ℕ → List X
up_to n f g i = tabulate n (λ k. cond (leb k i) (f k) (g k))

module _ {X : Type 0} (n : ℕ) (f g : ℕ → X) where
  pub up_none : tabulate n g ≡ up_to n f g 0
  up_none = tabulate-ext g (λ k. cond (leb k 0) (f k) (g k)) n (λ i l. rw (lt-leb (suc i) 0 (omega arith)))

  pub up_more : (i : ℕ) → i < n → set (up_to n f g i) i (f (suc i)) ≡ up_to n f g (i + 1)
  up_more i l =
      let now : cond (leb (suc i) (i + 1)) (f (suc i)) (g (suc i)) ≡ f (suc i) =
      rw (le-leb (suc i) (i + 1) (omega arith)) in
      ap (λ (z : X). set (up_to n f g i) i z) (sym now)
      ∙ set-tabulate (λ k. cond (leb k i) (f k) (g k))
      (λ k. cond (leb k (i + 1)) (f k) (g k)) n i l (λ j m ne. other j ne)
    where
      other : (j : ℕ) → j ≢ i
          → cond (leb (suc j) (i + 1)) (f (suc j)) (g (suc j)) ≡ cond (leb (suc j) i) (f (suc j)) (g (suc j))
      other j ne =
          elim (dec_lt j i) [
            | yes h ↦ rw (le-leb (suc j) (i + 1) (omega arith), le-leb (suc j) i h)
            | no h ↦ rw (lt-leb (suc j) (i + 1) (omega arith), lt-leb (suc j) i (omega arith))
          ]

  pub up-all : (i : ℕ) → n ≤ i → up_to n f g i ≡ tabulate n f
  up-all i h = tabulate-ext (λ k. cond (leb k i) (f k) (g k)) f n (λ j l. rw (le-leb (suc j) i (omega arith)))

  -- there are no more than n turns
  pub up-most : (i : ℕ) → up_to n f g (min i n) ≡ up_to n f g i
  up-most i = tabulate-ext (λ k. cond (leb k (min i n)) (f k) (g k)) (λ k. cond (leb k i) (f k) (g k)) n at
    where
      at : (j : ℕ) → j < n
          → cond (leb (suc j) (min i n)) (f (suc j)) (g (suc j)) ≡ cond (leb (suc j) i) (f (suc j)) (g (suc j))
      at j l =
          elim (dec_lt j i) [
            | yes h ↦ rw (le-leb (suc j) (min i n) (omega arith), le-leb (suc j) i h)
            | no h ↦ rw (lt-leb (suc j) (min i n) (omega arith), lt-leb (suc j) i (omega arith))
          ]

  -- its entries, up to i and past it
  pub up_in : (i j : ℕ) (d : X) → j < i → j < n → get_or (up_to n f g i) j d ≡ f (suc j)
  up_in i j d l m = get_d_tabulate (λ k. cond (leb k i) (f k) (g k)) n j d m ∙ rw (le-leb (suc j) i l)

  pub up-past : (i j : ℕ) (d : X) → i ≤ j → j < n → get_or (up_to n f g i) j d ≡ g (suc j)
  up-past i j d l m = get_d_tabulate (λ k. cond (leb k i) (f k) (g k)) n j d m ∙ rw (lt-leb (suc j) i (omega arith))

-- of f only the entries 1 to i count
pub up_same : {X : Type 0} (n : ℕ) (f h g : ℕ → X) (i : ℕ) → ((j : ℕ) → j < i → j < n → f (suc j) ≡ h (suc j))
    → up_to n f g i ≡ up_to n h g i
up_same n f h g i e = tabulate-ext (λ k. cond (leb k i) (f k) (g k)) (λ k. cond (leb k i) (h k) (g k)) n at
  where
    at : (j : ℕ) → j < n → cond (leb (suc j) i) (f (suc j)) (g (suc j)) ≡ cond (leb (suc j) i) (h (suc j)) (g (suc j))
    at j l =
        elim (dec_lt j i) [
          | yes m ↦ rw (e j m l)
          | no m ↦ rw (lt-leb (suc j) i (omega arith))
        ]
