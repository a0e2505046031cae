use Prim.Native.Nat.{◌-◌, ◌+◌, ◌*◌}
use mathlib.Core.Path.{◌≡◌, refl, ◌∙◌}
use native.Mathlib.Nat.{le_trans}
use native.Mathlib.Omega.{arith}
use Rattle.sets.proofs.Lowest.{leaves-four, leaves-zero, less-four}
use borrow.Author.Rules.{rules}
use Rattle.sets.proofs.less_by_fours.Goals as goal

pub loop-preserved : goal.loop-preserved
loop-preserved c =
    let x = c.loop.rest in
    let left = 4 * (c.args.fours - c.loop.counter) in
    let fewer : left - 4 ≡ 4 * (c.args.fours - (c.loop.counter + 1)) = omega arith in
    rw (
      c.less-rest.ensures,
      c.less-in-loop-2.ensures,
      c.less-in-loop.ensures,
      c.less.ensures,
      ← fewer,
    ) (
      le_trans (less-four x) c.loop.invariant.0,
      c.loop.invariant.1 ∙ leaves-four x left (search rules) (omega arith),
    )

pub returns : goal.returns
returns c =
    let none : 4 * (c.args.fours - c.loop.counter) ≡ 0 = omega arith in
    rw (c.loop.invariant.1, none, leaves-zero c.loop.rest) refl
