-- Two results that the statement of `rehearse` allows are equal, and so is what they leave in the buffer.
use Prim.Native.Nat.{ℕ}
use mathlib.Core.Path.{◌≡◌}
use mathlib.Core.List.{List}
use Rattle.std.specs.Prelude.{Option}
use Rattle.writers.specs.declared.Written.{Written}
use Rattle.writers.specs.Written.{Wrote}
use Rattle.writers.proofs.Determined.{wrote_determined}
use Rattle.trials.specs.Rehearse.{rehearse_text}

pub rehearse_determined : (platform tasks : Option (List ℕ)) (out : List ℕ) (r s : Written) (a b : List ℕ)
    → Wrote (rehearse_text platform tasks) out r a → Wrote (rehearse_text platform tasks) out s b → (r ≡ s) × (a ≡ b)
rehearse_determined platform tasks = wrote_determined (rehearse_text platform tasks)
