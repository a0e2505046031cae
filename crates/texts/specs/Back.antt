-- What the writers write is read back (document 01: "Writers produce the one good text of their input").
use Rattle.std.specs.Prelude.{ℕ, ◌<◌, ◌≤◌, ◌≡◌, List, map, length, take, get_or, Ok}
use Rattle.forms.specs.Forms.{columns, Within, EachRow, GoodText, platform_form, tasks_form, ticks_form}
use Rattle.forms.specs.Reads.{found}
use Rattle.forms.specs.Reader.{read}
use Rattle.table.specs.declared.Platform.{Platform}
use Rattle.table.specs.declared.Table.{Table}
use Rattle.table.specs.Limits.{most_tasks}
use Rattle.table.specs.Tasks.{no_task, table_of}
use Rattle.readers.specs.Inputs.{platform_read, table_read}
use Rattle.writers.specs.Outputs.{platform_row, task_row, tick_rows, platform_text, tasks_text, reports_text}

-- numbers of 32 bits, as the fields of a platform and of a table's rows are
abbrev pub NarrowPlatform : Platform → Type 0
NarrowPlatform p = Within (columns platform_form) (platform_row p)

abbrev pub NarrowRows : Table → Type 0
NarrowRows t = EachRow (columns tasks_form) (map task_row (take t.n t.rows))

abbrev pub NarrowTicks : List ℕ → List ℕ → Type 0
NarrowTicks released finished = EachRow (columns ticks_form) (tick_rows released finished)

-- The table of the rows that are written: nothing past the n rows, and of more than 32 only the 32 that are there.
abbrev pub table_written : Table → Table
table_written t = table_of t.platform (take t.n t.rows)

-- entries past n are zero
abbrev pub NonePast : Table → Type 0
NonePast t = (i : ℕ) → t.n ≤ i → i < most_tasks → get_or t.rows i no_task ≡ no_task

pub record WritesBack : Type 0 where
  -- each writes a good text of its form
  pub platform_good : (p : Platform) → NarrowPlatform p → GoodText platform_form (platform_text p)
  pub tasks_good : (t : Table) → NarrowRows t → GoodText tasks_form (tasks_text t)
  pub ticks_good : (released finished : List ℕ) → NarrowTicks released finished
      → GoodText ticks_form (reports_text released finished)
  -- the readers give back what was written
  pub platform_back : (p : Platform) → NarrowPlatform p
      → platform_read (read platform_form (platform_text p)) ≡ Ok p
  pub tasks_back : (t : Table) → NarrowRows t
      → table_read t.platform (read tasks_form (tasks_text t)) ≡ Ok (table_written t)
  pub ticks_back : (released finished : List ℕ) → NarrowTicks released finished
      → read ticks_form (reports_text released finished) ≡ found (tick_rows released finished)
  -- of at most 32 tasks that is the table's n and first n rows, and the table itself where entries past n are zero
  pub kept : (t : Table) → length t.rows ≡ most_tasks → t.n ≤ most_tasks
      → ((table_written t).n ≡ t.n) × (take t.n (table_written t).rows ≡ take t.n t.rows)
  pub same : (t : Table) → length t.rows ≡ most_tasks → t.n ≤ most_tasks → NonePast t → table_written t ≡ t
  -- of more it is the 32 that are there
  pub cut : (t : Table) → length t.rows ≡ most_tasks → most_tasks < t.n
      → table_written t ≡ table_of t.platform t.rows
