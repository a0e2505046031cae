use mathlib.Core.Path.{◌∙◌}
use native.Mathlib.Omega.{arith}
use borrow.Author.Rules.{rules}
use Rattle.rehearsing.proofs.FirstEvent.{rehearsing_none}
use Rattle.rehearsing.proofs.AfterFirst.{ends-calm}
use Rattle.rehearsing.proofs.run.Goals as goal

pub loop-task-init : goal.loop-task-init
loop-task-init c =
    rehearsing_none c.args.t.now c.requires.taken _ (omega (arith, c.requires.small, c.requires.is_multiple))
    c.new-track.ensures

pub returns-then-i-l : goal.returns-then-i-l
returns-then-i-l c =
    c.ended-then-i-l.ensures
    ∙ ends-calm c.in_default.ensures (search rules) (c.if-i-l.true ∙ c.requires.is_multiple)
