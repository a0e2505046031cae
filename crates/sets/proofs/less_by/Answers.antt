use Prim.Native.Nat.{◌-◌, ◌+◌}
use mathlib.Core.Path.{◌≡◌, refl, ◌∙◌}
use native.Mathlib.Nat.{le_trans}
use native.Mathlib.Omega.{arith}
use Rattle.sets.proofs.Lowest.{leaves-step, leaves-zero, less-le}
use borrow.Author.Rules.{rules}
use Rattle.sets.proofs.less_by.Goals as goal

pub loop-preserved : goal.loop-preserved
loop-preserved c =
    let x = c.loop.rest in
    let left = c.args.n - c.loop.counter in
    let fewer : left - 1 ≡ c.args.n - (c.loop.counter + 1) = omega arith in
    rw (c.less-rest.ensures, ← fewer) (
      le_trans (less-le x) c.loop.invariant.0,
      c.loop.invariant.1 ∙ leaves-step x left (search rules) (omega arith),
    )

pub returns : goal.returns
returns c =
    let none : c.args.n - c.loop.counter ≡ 0 = omega arith in
    rw (c.loop.invariant.1, none, leaves-zero c.loop.rest) refl
