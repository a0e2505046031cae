use Rattle.std.proofs.Common.{sym, ◌∙◌}
use Rattle.writers.proofs.Wholes.{both_wrote}
use Rattle.writers.proofs.write_texts.Goals as goal

pub returns : goal.returns
returns c =
    both_wrote _ _ _ _ _ _ _ _ (sym c.fits.ensures ∙ c.if-not-fits.false)
    (sym c.fits-else-not-fits.ensures ∙ c.if-not-fits-2.false) c.write_fitting-a.ensures c.write_fitting-b.ensures
