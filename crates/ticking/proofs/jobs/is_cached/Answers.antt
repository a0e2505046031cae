use Prim.Native.Nat.{◌<◌, ◌^◌}
use borrow.Author.Rules.{rules}
use Rattle.ticking.proofs.TickTurns.{below-wide}
use Rattle.ticking.proofs.jobs.is_cached.Goals as goal

pub returns : goal.returns
returns c =
    let w : c.args.held < 2 ^ 64 = search rules in
    rw (c.without.ensures, c.below.ensures, below-wide c.args.held c.args.p.0 w)
