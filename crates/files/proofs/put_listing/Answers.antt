use borrow.Author.Rules.{rules}
use native.Mathlib.Nat.{le_trans}
use Rattle.writers.proofs.Wholes.{wrote_all}
use Rattle.files.proofs.Wholes.{wrote-whole}
use Rattle.files.proofs.put_listing.Goals as goal

pub returns : goal.returns
returns g c =
    let wrote = c.write.ensures in
    (wrote_all _ _ _ _ wrote (le_trans (g.met.L.Listing.fits _ _) (search rules)), wrote-whole _ _ _ _ wrote)
