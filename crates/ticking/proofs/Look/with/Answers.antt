use mathlib.Core.Path.{◌≡◌, sym, ◌∙◌, ap}
use mathlib.Core.Bool.{true}
use Rattle.std.specs.Prelude.{Ok}
use Rattle.machine.proofs.StateParts.{idle-not-runs}
use Rattle.maths.proofs.Tests.{both}
use Rattle.ticking.specs.Code.Passes.{admits, look_with}
use Rattle.ticking.proofs.TickTurns.{admitted, admitted-period, admitted-none}
use Rattle.ticking.proofs.TickLeft.{look-left}
use Rattle.ticking.proofs.Look.with.Goals as goal

pub returns-then-is_left : goal.returns-then-is_left
unfolding look_with
returns-then-is_left c =
    let t = c.args.turn in
    let w : admits c.args.p.0 t.task t.job c.args.self ≡ true = sym c.admits.ensures ∙ c.if-not-admits.false in
    let e = sym c.is_left.ensures ∙ c.if-is_left.true in
    rw w
    (ap Ok (look-left t.task t.job _ _ t.k e c.args.self
    (admitted-none _ _ _ c.args.self (admitted _ _ _ c.args.self w) (idle-not-runs t.job.stage (both _ _ e).0))))

pub more-requires-clause-period : goal.more-requires-clause-period
more-requires-clause-period c =
    admitted-period _ _ _ _ (admitted _ _ _ c.args.self (sym c.admits.ensures ∙ c.if-not-admits.false))

pub more-requires-clause-holds : goal.more-requires-clause-holds
more-requires-clause-holds c =
    admitted-none _ _ _ _ (admitted _ _ _ c.args.self (sym c.admits.ensures ∙ c.if-not-admits.false))
