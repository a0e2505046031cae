use Rattle.ticking.proofs.TickTurns.{none_from}
use Rattle.ticking.proofs.refusing.is_within.Goals as goal

pub returns : goal.returns
returns c = rw c.from.ensures (none_from _ c.args.n)
