-- What a copy of the first of a list leaves of an array that is one value otherwise.
use Prim.Native.Nat.{ℕ, zero, suc, min}
use mathlib.Core.Path.{◌≡◌, refl, sym, ap}
use mathlib.Core.List.{List, [], ◌∷◌, ◌++◌}
use native.Mathlib.Omega.{arith}
use lib.ListN.{length, take, drop, replicate}
use Rattle.maths.specs.Padded.{padded}
use Rattle.maths.proofs.Padded.{padded-none}

-- the first n of a list in the place of the first n of k times d, n being the list's count as far as k
pub filled_from : {A : Type 0} (d : A) (k : ℕ) (xs : List A) (n : ℕ) → n ≡ min (length xs) k
    → take n xs ++ drop n (replicate k d) ≡ padded k d xs
unfolding padded
filled_from d zero xs zero e = refl
filled_from d zero xs (suc n) e = absurd (omega arith)
filled_from d (suc k) [] zero e = sym (padded-none d (suc k))
filled_from d (suc k) [] (suc n) e = absurd (omega arith)
filled_from d (suc k) (x ∷ xs) zero e = absurd (omega arith)
filled_from {A} d (suc k) (x ∷ xs) (suc n) e = ap {B = List A} (λ r. x ∷ r) (filled_from d k xs n (omega arith))
