-- Two results that a public function's statement allows are equal.
use Prim.Native.Nat.{ℕ}
use mathlib.Core.Path.{◌≡◌}
use lib.Dec.{leb}
use Rattle.std.specs.Bool.{then_some}
use Rattle.std.specs.Prelude.{Option}
use Rattle.maths.proofs.Determined.{determined}
use Rattle.multiples.specs.Gcd.{gcd, lcm}

pub gcd-determined : (a b r s : ℕ) → r ≡ gcd a b → s ≡ gcd a b → r ≡ s
gcd-determined a b = determined (gcd a b)

pub lcm-within-determined : (a b most : ℕ) (r s : Option ℕ) → r ≡ then_some (leb (lcm a b) most) (lcm a b)
    → s ≡ then_some (leb (lcm a b) most) (lcm a b) → r ≡ s
lcm-within-determined a b most = determined (then_some (leb (lcm a b) most) (lcm a b))
