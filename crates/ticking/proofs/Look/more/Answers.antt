use mathlib.Core.Path.{◌≡◌, sym, ◌∙◌}
use mathlib.Core.Bool.{false}
use Rattle.machine.specs.Jobs.{is_running}
use Rattle.ticking.proofs.TickLeft.{look-still}
use Rattle.ticking.proofs.Look.more.Goals as goal

pub returns-then-not-is_running : goal.returns-then-not-is_running
returns-then-not-is_running c =
    let still : is_running c.args.turn.job.stage ≡ false =
    sym c.is_running.ensures ∙ c.if-not-is_running.true in
    look-still c.args.turn c.args.report c.args.self still (c.requires.holds still) _
    (c.first_of-refused.ensures
    ∙ rw (c.check-found.ensures, c.releases.ensures, c.finishes-finished.ensures))
