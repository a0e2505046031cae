use Prim.Native.Nat.{◌<◌, ◌^◌}
use borrow.Author.Rules.{rules}
use borrow.Author.Tests.{leb-true}
use native.Mathlib.Omega.{arith}
use Rattle.runs.proofs.Widths.{run-most}
use Rattle.runs.proofs.AnsweredTicksBounded.surely_fits.Goals as goal

pub returns-clause-fits : goal.returns-clause-fits
returns-clause-fits c = λ e.
    let l = c.args.self.now in
    let small : l.count < 2 ^ 64 = search rules in
    let most = run-most l.text.now l.count l.machine l.counted (omega (arith, small)) in
    grind (arith, leb-true)
