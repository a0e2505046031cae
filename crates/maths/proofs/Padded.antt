-- One more element of a list that an array holds the first k of.
use Prim.Native.Nat.{ℕ, zero, suc, ◌+◌, ◌<◌, ◌≤◌}
use mathlib.Core.Path.{◌≡◌, refl, sym, ap, ◌∙◌}
use mathlib.Core.List.{List, [], ◌∷◌, ◌++◌}
use native.Mathlib.Nat.{le_of_suc-le-suc}
use native.Mathlib.Numerals.{add-one}
use native.Mathlib.Omega.{arith}
use lib.ListN.{length, get_or, take, set, replicate}
use lib.Seq.{length-take-le, take-suc-set}
use Rattle.maths.specs.Padded.{padded}

module _ {A : Type 0} (d : A) where
  pub padded-none : (k : ℕ) → padded k d [] ≡ replicate k d
  unfolding padded
  padded-none zero = refl
  padded-none (suc k) = ap {B = List A} (λ r. d ∷ r) (padded-none k)

  pub padded-more : (k : ℕ) (xs : List A) (x : A) → length xs < k
      → padded k d (xs ++ (x ∷ [])) ≡ set (padded k d xs) (length xs) x
  unfolding padded
  padded-more zero xs x h = absurd (no h)
    where
      no : length xs < 0 → ⊥
      no h = omega arith
  padded-more (suc k) [] x h = refl
  padded-more (suc k) (y ∷ xs) x h = ap {B = List A} (λ r. y ∷ r) (padded-more k xs x (le_of_suc-le-suc h))

  pub padded-full : (k : ℕ) (xs ys : List A) → k ≤ length xs → padded k d (xs ++ ys) ≡ padded k d xs
  unfolding padded
  padded-full zero xs ys h = refl
  padded-full (suc k) [] ys h = absurd (no h)
    where
      no : suc k ≤ 0 → ⊥
      no h = omega arith
  padded-full (suc k) (x ∷ xs) ys h = ap {B = List A} (λ r. x ∷ r) (padded-full k xs ys (le_of_suc-le-suc h))

  pub length-padded : (k : ℕ) (xs : List A) → length (padded k d xs) ≡ k
  unfolding padded
  length-padded zero xs = refl
  length-padded (suc k) [] = ap suc (length-padded k [])
  length-padded (suc k) (x ∷ xs) = ap suc (length-padded k xs)

  -- an array that is filled from the left
  module _ (k : ℕ) (l : List A) (j : ℕ) (v : A) (e : padded k d (take j l) ≡ l) (less : j < k) where
    pub filled-take : take (j + 1) (set l j v) ≡ take j l ++ (v ∷ [])
    filled-take = let size : length l ≡ k = ap length (sym e) ∙ length-padded k (take j l) in
        rw add-one (take-suc-set l j v (omega arith))

    pub filled : padded k d (take (j + 1) (set l j v)) ≡ set l j v
    filled =
        let size : length l ≡ k = ap length (sym e) ∙ length-padded k (take j l) in
        let taken : length (take j l) ≡ j = length-take-le j l (omega arith) in
        ap (padded k d) filled-take ∙ padded-more k (take j l) v (omega arith) ∙ rw (taken, e)

  pub get_d_padded : (k : ℕ) (xs : List A) (i : ℕ) → i < k → get_or (padded k d xs) i d ≡ get_or xs i d
  unfolding padded
  get_d_padded zero xs i h = absurd (no h)
    where
      no : i < 0 → ⊥
      no h = omega arith
  get_d_padded (suc k) [] zero h = refl
  get_d_padded (suc k) [] (suc i) h = get_d_padded k [] i (le_of_suc-le-suc h)
  get_d_padded (suc k) (x ∷ xs) zero h = refl
  get_d_padded (suc k) (x ∷ xs) (suc i) h = get_d_padded k xs i (le_of_suc-le-suc h)
