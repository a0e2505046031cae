use Rattle.std.proofs.Common.{◌≡◌, ◌+◌}
use lib.ListN.{drop}
use Rattle.table.specs.Refused.{rows_from, rows_refusal}
use Rattle.table.proofs.Table.check_rows.Given as goal

abbrev pub invariant-loop-i : goal.invariant-loop-i
invariant-loop-i l = rows_refusal l.self ≡ rows_from l.p.0 (l.i + 1) (drop l.i l.task-items)
