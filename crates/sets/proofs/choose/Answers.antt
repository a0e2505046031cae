use Prim.Native.Nat.{◌+◌, ◌*◌, ◌/◌, ◌%◌}
use mathlib.Core.Path.{◌≡◌}
use native.Mathlib.Omega.{arith}
use Rattle.sets.proofs.Lowest.{leaves-more, taken}
use borrow.Author.Rules.{rules}
use Rattle.sets.proofs.choose.Goals as goal

pub returns : goal.returns
returns c =
    let x = c.args.idle in
    let a = c.args.a.0 in
    let whole : 4 * (a / 4) + a % 4 ≡ a = omega arith in
    rw (
      c.less_by.ensures,
      c.less_by_fours-rest.ensures,
      ← leaves-more x (4 * (a / 4)) (a % 4) (search rules),
      whole,
    ) (taken x a)
