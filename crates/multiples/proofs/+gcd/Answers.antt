-- The measure is the second argument: a remainder is less than what it is the remainder by.
use mathlib.Core.Path.{sym, ◌∙◌}
use native.Mathlib.Omega.{arith}
use Rattle.multiples.proofs.Euclid.{gcd-zero, gcd_remainder}
use Rattle.multiples.proofs.+gcd.Goals as goal

pub returns-then-b-eq0 : goal.returns-then-b-eq0
returns-then-b-eq0 t c = rw c.if-b-eq0.true (sym (gcd-zero c.args.a))

pub nonzero_rem-a : goal.nonzero_rem-a
nonzero_rem-a t c = omega (arith, c.if-b-eq0.false)

pub returns : goal.returns
returns t c =
    let args = c.args in
    c.gcd.ensures ∙ gcd_remainder args.a args.b
