use Rattle.ticking.proofs.TickTurns.{marks_none}
use Rattle.ticking.proofs.Past.is_none.Goals as goal

pub returns : goal.returns
returns c = rw c.from.ensures (marks_none c.args.self.row c.args.self.job)
