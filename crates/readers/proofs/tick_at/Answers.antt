use mathlib.Core.Path.{sym}
use native.Mathlib.Omega.{arith}
use Rattle.readers.proofs.Rows.{row-narrow}
use Rattle.readers.proofs.Ticks.{tick-there, tick-not}
use Rattle.readers.proofs.tick_at.Goals as goal

pub narrow-requires : goal.narrow-requires
narrow-requires c = (omega arith, (omega arith, row-narrow c.args.s.now 2 c.args.at _ c.in-Ok.ensures))

pub returns-in-Ok : goal.returns-in-Ok
returns-in-Ok c = rw (c.tick_of.ensures, c.narrow.ensures) (sym (tick-there _ _ _ c.in-Ok.ensures))

pub returns-in-Err : goal.returns-in-Err
returns-in-Err c = rw c.tick_of-in-Err.ensures (sym (tick-not _ _ _ c.in-Err.ensures))
