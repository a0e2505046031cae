use Rattle.table.proofs.Table.empty.Goals as goal

pub returns : goal.returns
returns c = rw c.none.ensures
