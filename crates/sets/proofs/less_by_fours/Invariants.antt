use Prim.Native.Nat.{◌-◌, ◌*◌, ◌≤◌}
use mathlib.Core.Path.{◌≡◌}
use Rattle.sets.specs.Code.Less.{leaves}
use Rattle.sets.proofs.less_by_fours.Given as goal

abbrev pub invariant-loop : goal.invariant-loop
invariant-loop l = (l.rest ≤ l.x) × (leaves l.x (4 * l.fours) ≡ leaves l.rest (4 * (l.fours - l.counter)))
