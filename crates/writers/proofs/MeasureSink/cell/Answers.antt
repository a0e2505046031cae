use Prim.Native.Nat.{◌<◌, ◌^◌}
use borrow.Author.Rules.{rules}
use native.Mathlib.Omega.{arith}
use Rattle.writers.proofs.Cells.{width_room}
use Rattle.writers.proofs.MeasureSink.cell.Goals as goal

pub overflow_add-width : goal.overflow_add-width
overflow_add-width c =
    let n = c.args.n in
    let fits : n < 2 ^ 64 = search rules in
    omega (arith, width_room n fits, c.width.ensures, c.ending_width.ensures.few)
