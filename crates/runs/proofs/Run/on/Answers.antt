use Prim.Native.Nat.{ℕ, ◌+◌}
use mathlib.Core.Path.{◌≡◌, ap, ◌∙◌}
use Rattle.runs.specs.Ticks.{counted}
use Rattle.runs.specs.Code.Runs.{run_on, line_on}
use Rattle.runs.proofs.Runs.{counted-told}
use Rattle.runs.proofs.Run.on.Goals as goal

pub returns-clause-row : goal.returns-clause-row
unfolding line_on
returns-clause-row c =
    rw (c.from.ensures, c.from-2.ensures, c.from-3.ensures, c.from-4.ensures)
    (rw (c.tick-x.ensures.answer, c.tick_at-read.ensures))

pub returns-clause-run : goal.returns-clause-run
unfolding run_on
returns-clause-run c =
    let before = c.args.self.now.taken in
    let x = c.tick-x in
    let taken : before + c.from-5.result ≡ counted before x.result.refused =
    ap (λ (n : ℕ). before + n) c.from-5.ensures ∙ counted-told before x.result.refused in
    rw (taken, x.ensures.machine, x.ensures.answer, c.tick_at-read.ensures)
