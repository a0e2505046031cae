-- What the code makes on its way to the listing. No statement of a public function rests on these definitions.
use Rattle.std.specs.Prelude.{ℕ, List, Result, Ok, Err}
use Rattle.maths.specs.Tasks.{tabulate}
use Rattle.forms.specs.Forms.{lines}
use Rattle.table.specs.declared.Refusal.{Refusal}
use Rattle.table.specs.declared.Table.{Table}
use Rattle.table.specs.Reasons.{answered}
use Rattle.table.specs.Refused.{refusal}
use Rattle.shares.specs.Explain.{pair_row}

-- the rows of task k
abbrev pub task_text : Table → ℕ → List ℕ
task_text t k = lines (tabulate t.n (pair_row t k))

-- a table that was taken, and judged next
abbrev pub judged : Result Table Refusal → Result Table Refusal
judged (Ok t) = answered (refusal t) t
judged (Err r) = Err r
