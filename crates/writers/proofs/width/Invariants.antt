use Prim.Native.Nat.{◌+◌, ◌≤◌, suc}
use mathlib.Core.Path.{◌≡◌}
use lib.ListN.{length}
use Rattle.forms.specs.Digits.{digits}
use Rattle.writers.proofs.width.Given as goal

-- the digits counted, and those that are left
abbrev pub invariant-loop-rest : goal.invariant-loop-rest
invariant-loop-rest l = (l.w + length (digits l.rest) ≡ suc (length (digits l.n))) × (l.rest ≤ l.n)

abbrev pub decreases-loop-rest : goal.decreases-loop-rest
decreases-loop-rest l = l.rest
