use native.Mathlib.Omega.{arith}
use lib.ListN.{length}
use borrow.Author.Rules.{rules}
use mathlib.Core.Path.{◌≡◌}
use Rattle.maths.proofs.Lists.{len_mapped}
use Rattle.table.specs.Limits.{most_tasks}
use Rattle.texts.proofs.Listings.{margins-first}
use Rattle.texts.proofs.admit.Goals as goal

pub returns-in-Ok : goal.returns-in-Ok
returns-in-Ok c =
    let m = c.in-Ok.judged in
    let size : length m.margins ≡ most_tasks = search (len_mapped, rules) in
    rw (← c.in-Ok.ensures, margins-first m.n m.margins m.few (omega arith)) c.write_margins.ensures
