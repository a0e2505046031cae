use Rattle.writers.proofs.Cells.{whole_cell}
use Rattle.writers.proofs.Sink.cell.Goals as goal

pub returns : goal.returns
returns g c =
    record {
      took = rw (whole_cell c.empty-cell.ensures.0 c.push_ending.ensures c.push_digits.ensures) at c.word.ensures.took;
      kept = c.word.ensures.kept;
    }
