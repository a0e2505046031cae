-- What the rows of a text say: a platform, a table, ticks. A text that is not of its form is refusal 15 with the
-- offset, and nothing else. Of the tasks every row is counted and the first 32 are kept.
use Rattle.std.specs.Prelude.{ℕ, List, [], ◌++◌, map, length, get_or, Result, Ok, Err}
use Rattle.table.specs.declared.Platform.{Platform}
use Rattle.table.specs.declared.Task.{Task}
use Rattle.table.specs.declared.Table.{Table}
use Rattle.table.specs.declared.Refusal.{Refusal}
use Rattle.table.specs.Tasks.{table_of}
use Rattle.forms.specs.Forms.{ticks_form, crlf}
use Rattle.forms.specs.Reads.{Answer, found, refused}
use Rattle.machine.specs.declared.Report.{Report}
use Rattle.readers.specs.declared.Piece.{Piece}
use Rattle.readers.specs.Places.{row_at}

abbrev pub bad_text : ℕ → Refusal
bad_text offset = record { number = 15; row = offset }

abbrev pub platform_of : List ℕ → Platform
platform_of row = record { cores = record { 0 = get_or row 0 0 }; partitions = record { 0 = get_or row 1 0 } }

abbrev pub task_of : List ℕ → Task
task_of row = record { d = get_or row 0 0; t = get_or row 1 0; c = get_or row 2 0; a = record { 0 = get_or row 3 0 } }

-- the table that the rows of a platform text and of a tasks text say
abbrev pub table_from : List (List ℕ) → List (List ℕ) → Table
table_from platform tasks = table_of (platform_of (get_or platform 0 [])) (map task_of tasks)

abbrev pub no_platform : Platform
no_platform = platform_of []

-- a platform text has one row
abbrev pub platform_read : Answer (List (List ℕ)) → Result Platform Refusal
platform_read (found rows) = Ok (platform_of (get_or rows 0 []))
platform_read (refused offset) = Err (bad_text offset)

abbrev pub table_read : Platform → Answer (List (List ℕ)) → Result Table Refusal
table_read platform (found rows) = Ok (table_of platform (map task_of rows))
table_read platform (refused offset) = Err (bad_text offset)

abbrev pub tick_of : List ℕ → Report
tick_of row = record { released = get_or row 0 0; finished = get_or row 1 0 }

-- the ticks are read one by one from the place behind the header
abbrev pub ticks_read : Answer (List (List ℕ)) → Result ℕ Refusal
ticks_read (found rows) = Ok (length rows)
ticks_read (refused offset) = Err (bad_text offset)

abbrev pub first_tick : ℕ
first_tick = length (ticks_form.header ++ crlf)

-- where no row is, both sets are empty
unfoldable pub tick_at : List ℕ → ℕ → Piece Report
tick_at text at =
    elim (row_at text at ticks_form) [
      | Ok row ↦ record { value = tick_of row.value; next = row.next }
      | Err offset ↦ record { value = tick_of []; next = offset.0 }
    ]
