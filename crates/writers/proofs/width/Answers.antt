use borrow.Author.Rules.{rules}
use Prim.Native.Nat.{◌<◌, ◌^◌}
use native.Mathlib.Omega.{arith}
use Rattle.forms.proofs.Digits.{width_one, width_more, width_some}
use Rattle.writers.proofs.Cells.{width_room}
use Rattle.writers.proofs.width.Goals as goal

pub loop-rest-init : goal.loop-rest-init
loop-rest-init c = (omega arith, omega arith)

pub overflow_add-w : goal.overflow_add-w
overflow_add-w c =
    let n = c.args.n in
    let fits : n < 2 ^ 64 = search rules in
    omega (arith, width_room n fits, width_some c.loop-rest.rest)

pub loop-rest-preserved : goal.loop-rest-preserved
loop-rest-preserved c = (omega (arith, width_more c.loop-rest.rest c.loop-rest-test.true), omega arith)

pub returns : goal.returns
returns c = omega (arith, width_one c.loop-rest.rest c.loop-rest-test.false)
