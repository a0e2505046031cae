-- A product of two bounded numbers fits, where the product of the bounds does.
use Prim.Native.Nat.{ℕ, ◌*◌, ◌^◌, ◌≤◌}
use native.Mathlib.Nat.{mul-le-mul}
use lib.Dec.{T, ltb}
use mir.Syntax.{Width}
use mir.Val.{Fits, bits}
use mir.Facts.{Fits-below}

pub fits_mul : {w : Width} {a b : ℕ} (A B : ℕ) → T (ltb (A * B) (2 ^ bits w)) → a ≤ A → b ≤ B → Fits w (a * b)
fits_mul A B t p q = Fits-below t (mul-le-mul p q)
