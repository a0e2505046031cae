use Rattle.std.proofs.Common.{sym, ◌∙◌}
use Rattle.std.proofs.lemmas.Bool.{leb-false}
use Rattle.writers.proofs.Places.{wrote_short}
use Rattle.writers.proofs.write_if.Goals as goal

pub returns-then-not-fits : goal.returns-then-not-fits
returns-then-not-fits g c = wrote_short _ _ _ c.short.ensures (leb-false _ _ (sym c.requires ∙ c.if-not-fits.true))
