-- Two outcomes that a public function's statement allows are equal: its result, and what lies behind a reference that
-- it was lent.
use Prim.Native.Nat.{ℕ}
use mathlib.Core.Path.{◌≡◌}
use Rattle.maths.proofs.Determined.{determined, determined-both}
use Rattle.machine.specs.declared.Answer.{Answer}
use Rattle.machine.specs.declared.Machine.{Machine}
use Rattle.machine.specs.Tick.{Ticked, tick}

pub tick-determined : (x y : ℕ) (m : Machine) (r s : Answer) (a b : Machine)
    → (r ≡ (tick m x y).answer) × (a ≡ (tick m x y).machine)
    → (s ≡ (tick m x y).answer) × (b ≡ (tick m x y).machine) → (r ≡ s) × (a ≡ b)
tick-determined x y m = determined-both (tick m x y).answer (tick m x y).machine

-- of what a tick comes to as one record
pub ticked-determined : (x y : ℕ) (m : Machine) (r s : Ticked) → r ≡ tick m x y → s ≡ tick m x y → r ≡ s
ticked-determined x y m = determined (tick m x y)
