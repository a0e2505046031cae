use Rattle.table.specs.Limits.{most_tasks}
use Rattle.table.specs.Tasks.{no_task}
use Rattle.table.proofs.Copies.{filled_from}
use Rattle.table.proofs.Table.of.Goals as goal

pub returns : goal.returns
returns c =
    let rows = c.args.rows.now in
    rw (
      c.copy_from_slice.ensures.after,
      c.none-first.ensures,
      filled_from no_task most_tasks rows c.entries-kept.result c.entries-kept.ensures,
    )
