-- Set-up from two texts as the code goes about it: first the texts are read, then the machine is set up from what was
-- read, and a failure is put into C's record.
-- No statement of a public function rests on these definitions.
use Rattle.std.specs.Prelude.{ℕ, cond, eqb, List, Result, Ok, Err}
use Rattle.forms.specs.Forms.{platform_form, tasks_form}
use Rattle.forms.specs.Reads.{Answer, found, refused}
use Rattle.forms.specs.Reader.{read}
use Rattle.table.specs.declared.Refusal.{Refusal}
use Rattle.table.specs.declared.Table.{Table}
use Rattle.table.specs.Refused.{refusal}
use Rattle.readers.specs.Inputs.{bad_text, table_from}
use Rattle.gorsetumble.specs.declared.texting.Failure.{Failure}
use Rattle.gorsetumble.specs.declared.texting.Failure.TheVariants.{Platform, Tasks, Judged}
use Rattle.gorsetumble.specs.declared.texting.TextRefusal.{TextRefusal}
use Rattle.gorsetumble.specs.FromTexts.{in_platform, in_tasks}

abbrev pub read_of : Answer (List (List ℕ)) → Answer (List (List ℕ)) → Result Table Failure
read_of (refused offset) tasks = Err (Platform (bad_text offset))
read_of (found platform) (refused offset) = Err (Tasks (bad_text offset))
read_of (found platform) (found rows) = Ok (table_from platform rows)

unfoldable pub texts_read : List ℕ → List ℕ → Result Table Failure
texts_read platform tasks = read_of (read platform_form platform) (read tasks_form tasks)

abbrev pub renewed : Result Table Failure → Result Unit Failure
renewed (Err f) = Err f
renewed (Ok t) = cond (eqb (refusal t).number 0) (Ok tt) (Err (Judged (refusal t)))

abbrev pub judged : Refusal → Failure
judged r = Judged r

-- C's record of a failure
abbrev pub told_of : Failure → TextRefusal
told_of (Platform r) = record { refused = r; text = in_platform }
told_of (Tasks r) = record { refused = r; text = in_tasks }
told_of (Judged r) = record { refused = r; text = 0 }
