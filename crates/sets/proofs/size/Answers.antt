use borrow.Author.Rules.{rules}
use Rattle.sets.proofs.Sizes.{count}
use Rattle.sets.proofs.size.Goals as goal

pub returns : goal.returns
returns c = rw (count 64 c.args.x (search rules))
