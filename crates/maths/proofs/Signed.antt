-- The exact difference of two unsigned 64-bit numbers below 2 ^ 62.
use Prim.Native.Nat.{ℕ, zero, suc, ◌^◌, ◌<◌}
use mathlib.Core.Path.{◌≡◌, refl}
use mathlib.Core.Bool.{Bool, true, false}
use native.Mathlib.Nat.{lt_trans}
use native.Mathlib.Omega.{arith}
use lib.Dec.{ltb, lit<}
use lib.IntN.{pos, ◌-ℤ◌}
use lib.Signed.{mag}
use mir.Syntax.{w64}
use mir.Val.{SFits, to_z, of_z}
use mir.Facts.{to_z_pos, to_z-of_z}

small_pos : (a : ℕ) → a < 2 ^ 62 → to_z w64 a ≡ pos a
small_pos a h = to_z_pos w64 (lt_trans h (lit< tt))

pub sub-mag : (a b : ℕ) → a < 2 ^ 62 → b < 2 ^ 62 → mag (pos a -ℤ pos b) < 2 ^ 63
sub-mag a zero p q = omega arith
sub-mag a (suc b) p q = split (ltb a (suc b)) refl
  where
    split : (t : Bool) → ltb a (suc b) ≡ t → mag (pos a -ℤ pos (suc b)) < 2 ^ 63
    split true e = rw e (omega arith)
    split false e = rw e (omega arith)

fits : (a b : ℕ) → a < 2 ^ 62 → b < 2 ^ 62 → SFits w64 (pos a -ℤ pos b)
fits a b p q = record { sfits = sub-mag a b p q }

pub difference_fits : (a b : ℕ) → a < 2 ^ 62 → b < 2 ^ 62 → SFits w64 (to_z w64 a -ℤ to_z w64 b)
difference_fits a b p q = rw (small_pos a p, small_pos b q) (fits a b p q)

pub difference_is : (a b : ℕ) → a < 2 ^ 62 → b < 2 ^ 62 → to_z w64 (of_z w64 (to_z w64 a -ℤ to_z w64 b))
    ≡ pos a -ℤ pos b
difference_is a b p q = rw (small_pos a p, small_pos b q) (to_z-of_z (fits a b p q))
