-- Two texts give a table, or the refusal of the first that is not of its form: the platform is read whole first.
-- Programs take a text only if it is there and not over 60,000 bytes; any other is refused with 15 and 0.
use Rattle.std.specs.Prelude.{ℕ, cond, List, leb, length, Option, None, Some, Result, Ok, Err}
use Rattle.forms.specs.Forms.{Form, platform_form, tasks_form}
use Rattle.forms.specs.Reads.{Answer, found, refused}
use Rattle.forms.specs.Reader.{read}
use Rattle.table.specs.declared.Refusal.{Refusal}
use Rattle.table.specs.declared.Table.{Table}
use Rattle.readers.specs.Inputs.{bad_text, table_from}
use Rattle.writers.specs.Outputs.{refused_text}

-- what the two texts give, from what each was read to
abbrev pub given : Answer (List (List ℕ)) → Answer (List (List ℕ)) → Result Table Refusal
given (refused offset) tasks = Err (bad_text offset)
given (found platform) (refused offset) = Err (bad_text offset)
given (found platform) (found rows) = Ok (table_from platform rows)

-- what is told of it: of the refusal, or of the table
abbrev pub told : {A : Type 0} → (Refusal → A) → (Table → A) → Result Table Refusal → A
told bad good (Err r) = bad r
told bad good (Ok t) = good t

abbrev pub longest : ℕ
longest = 60000

unfoldable pub taken : Form → Option (List ℕ) → Answer (List (List ℕ))
taken F None = refused 0
taken F (Some bytes) = cond (leb (length bytes) longest) (read F bytes) (refused 0)

-- the table of a program's two texts
abbrev pub table_taken : Option (List ℕ) → Option (List ℕ) → Result Table Refusal
table_taken platform tasks = given (taken platform_form platform) (taken tasks_form tasks)

-- what a program writes that lists their table
abbrev pub listed : (Table → List ℕ) → Option (List ℕ) → Option (List ℕ) → List ℕ
listed text platform tasks = told refused_text text (table_taken platform tasks)
