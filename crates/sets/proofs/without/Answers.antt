use Rattle.std.proofs.Common.{◌-◌, rules}
use native.Mathlib.Omega.{arith}
use Rattle.std.proofs.lemmas.Nat.{and-not, and_comm}
use Rattle.sets.proofs.without.Goals as goal

pub returns : goal.returns
returns c =
    let x = c.args.x in
    let y = c.args.y in
    rw (and_comm x (18446744073709551615 - y), and_comm x y)
    (omega (arith, and-not 64 y x (search rules) (search rules)))
