use Prim.Native.Nat.{◌-◌, ◌≤◌}
use mathlib.Core.Path.{◌≡◌}
use Rattle.sets.specs.Code.Less.{leaves}
use Rattle.sets.proofs.less_by.Given as goal

abbrev pub invariant-loop : goal.invariant-loop
invariant-loop l = (l.rest ≤ l.x) × (leaves l.x l.n ≡ leaves l.rest (l.n - l.counter))
