use mathlib.Core.Path.{sym, ◌∙◌}
use Rattle.ticking.proofs.TickLeft.{walk-left}
use Rattle.ticking.proofs.Walk.with.Goals as goal

pub returns-then-is_left : goal.returns-then-is_left
returns-then-is_left c =
    c.by.ensures
    ∙ rw c.older.ensures (walk-left _ _ _ _ _ (sym c.is_left.ensures ∙ c.if-is_left.true) _)
