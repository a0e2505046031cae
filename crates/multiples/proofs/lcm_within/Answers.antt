use Prim.Native.Nat.{◌<◌}
use native.Mathlib.Omega.{arith}
use Rattle.multiples.proofs.Euclid.{gcd-pos}
use Rattle.multiples.proofs.lcm_within.Goals as goal

pub nonzero_div-a : goal.nonzero_div-a
nonzero_div-a c =
    let some : 0 < c.args.a = omega (arith, c.if-a-eq0.false) in
    rw c.gcd.ensures (gcd-pos c.args.a c.args.b some)
