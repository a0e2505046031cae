use borrow.Author.Rules.{rules}
use native.Mathlib.Nat.{le_trans}
use Rattle.writers.proofs.Wholes.{wrote_all}
use Rattle.files.proofs.Wholes.{wrote-whole}
use Rattle.runs.proofs.Sizes.{ticks_fit}
use Rattle.ticks.proofs.put_listing.Goals as goal

pub returns : goal.returns
returns g c =
    let wrote = c.ticks.ensures in
    (wrote_all _ _ _ _ wrote (le_trans (ticks_fit _ _ _) (search rules)), wrote-whole _ _ _ _ wrote)
