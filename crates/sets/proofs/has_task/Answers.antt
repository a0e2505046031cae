use mathlib.Core.Path.{sym}
use Prim.Native.Nat.{◌-◌}
use native.Mathlib.Omega.{arith}
use borrow.Author.Rules.{rules}
use borrow.Author.Tests.{lt-ltb, le-ltb}
use Rattle.sets.proofs.Bits.{bit-none, bit-above}
use Rattle.sets.proofs.has_task.Goals.{then-k-lt1-via-then-k-lt1, then-k-lt1-via-else-k-lt1+then-k-gt-MOST}
use Rattle.sets.proofs.has_task.Goals as goal

pub returns-then-k-lt1 : goal.returns-then-k-lt1
returns-then-k-lt1 c =
    let x = c.args.x in
    let k = c.args.k in
    elim c.then-k-lt1.branch [
      | then-k-lt1-via-then-k-lt1 w ↦ rw (le-ltb 0 k (omega arith))
      | then-k-lt1-via-else-k-lt1+then-k-gt-MOST w ↦
          rw (lt-ltb 0 k (omega arith)) (sym (bit-none x (k - 1) (bit-above 32 x (k - 1) (search rules) (omega arith))))
    ]
