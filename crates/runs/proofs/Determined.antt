-- Two results that the statement of `ticks` allows are equal, and so is what they leave in the buffer.
use Prim.Native.Nat.{ℕ}
use mathlib.Core.Path.{◌≡◌}
use mathlib.Core.List.{List}
use Rattle.std.specs.Prelude.{Option}
use Rattle.writers.specs.declared.Written.{Written}
use Rattle.writers.specs.Written.{Wrote}
use Rattle.writers.proofs.Determined.{wrote_determined}
use Rattle.runs.specs.Ticks.{ticks_text}

module _ (platform tasks ticks : Option (List ℕ)) where
  pub ticks-determined : (out : List ℕ) (r s : Written) (a b : List ℕ)
      → Wrote (ticks_text platform tasks ticks) out r a → Wrote (ticks_text platform tasks ticks) out s b
      → (r ≡ s) × (a ≡ b)
  ticks-determined = wrote_determined (ticks_text platform tasks ticks)
