-- The names of the report for what a table holds: M, A of the platform (P of document 01), and task k, numbered from 1.
use Rattle.std.specs.Prelude.{ℕ, List, length, replicate}
use Rattle.maths.specs.Padded.{padded}
use Rattle.maths.specs.Tasks.{entry}
use Rattle.table.specs.declared.Platform.{Platform}
use Rattle.table.specs.declared.Task.{Task}
use Rattle.table.specs.declared.Table.{Table}
use Rattle.table.specs.Limits.{most_tasks}

abbrev pub no_task : Task
no_task = record { d = 0; t = 0; c = 0; a = record { 0 = 0 } }

abbrev pub empty_table : Platform → Table
empty_table platform = record { platform = platform; n = 0; rows = replicate most_tasks no_task }

-- The table of a row of tasks, however many: its count is the whole row's, so that 33 earn refusal 1 and are never cut
-- to 32.
abbrev pub table_of : Platform → List Task → Table
table_of platform tasks = record { platform = platform; n = length tasks; rows = padded most_tasks no_task tasks }

-- cores
abbrev pub M : Table → ℕ
M t = t.platform.cores.0

-- partitions
abbrev pub P : Table → ℕ
P t = t.platform.partitions.0

-- task k, for k from 1 to n
abbrev pub τ : Table → ℕ → Task
τ t k = entry t.rows k no_task

abbrev pub D : Task → ℕ
D τ = τ.d

abbrev pub T : Task → ℕ
T τ = τ.t

abbrev pub C : Task → ℕ
C τ = τ.c

abbrev pub A : Task → ℕ
A τ = τ.a.0
