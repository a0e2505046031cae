use mathlib.Core.Path.{◌∙◌}
use Rattle.admission.proofs.Turns.{Measured, share-is}
use Rattle.admission.proofs.Judged.share_at.Goals as goal

pub returns : goal.returns
returns c =
    let e = c.measures.ensures in
    let x : Measured c.args.self.now.table.now c.args.k c.measures.result = record { m = e.0; b = e.1; s = e.2 } in
    c.share.ensures ∙ share-is x c.args.i
