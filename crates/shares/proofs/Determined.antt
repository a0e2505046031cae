-- Two results that the statement of `explain` allows are equal, and so is what they leave in the buffer.
use Prim.Native.Nat.{ℕ}
use mathlib.Core.Path.{◌≡◌}
use mathlib.Core.List.{List}
use Rattle.std.specs.Prelude.{Option}
use Rattle.writers.specs.declared.Written.{Written}
use Rattle.writers.specs.Written.{Wrote}
use Rattle.writers.proofs.Determined.{wrote_determined}
use Rattle.shares.specs.Explain.{explain_text}

pub explain-determined : (platform tasks : Option (List ℕ)) (out : List ℕ) (r s : Written) (a b : List ℕ)
    → Wrote (explain_text platform tasks) out r a → Wrote (explain_text platform tasks) out s b → (r ≡ s) × (a ≡ b)
explain-determined platform tasks = wrote_determined (explain_text platform tasks)
