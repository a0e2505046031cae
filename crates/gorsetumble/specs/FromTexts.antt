-- Set-up from two texts (document 01, "Texts" and "Numbers of refusals"): 15 with its offset and which text it is in,
-- the platform being read whole first; then 1 to 8 of the table that the texts give. A refusal leaves the old machine.
use Rattle.std.specs.Prelude.{ℕ, List}
use Rattle.forms.specs.Forms.{platform_form, tasks_form}
use Rattle.forms.specs.Reads.{Answer, found, refused}
use Rattle.forms.specs.Reader.{read}
use Rattle.readers.specs.Inputs.{bad_text, table_from}
use Rattle.machine.specs.declared.Machine.{Machine}
use Rattle.machine.specs.Fresh.{SetUp, set_up}
use Rattle.gorsetumble.specs.declared.texting.TextRefusal.{TextRefusal}

-- what set-up from two texts comes to: why none is made, with number 0 where one is, and the machine that is left
pub record TextsSetUp : Type 0 where
  pub refused : TextRefusal
  pub machine : Machine

-- which text a refusal is in: 0 where it is in none
abbrev pub in_platform : ℕ
in_platform = 1

abbrev pub in_tasks : ℕ
in_tasks = 2

abbrev pub bad_in : ℕ → ℕ → TextRefusal
bad_in text offset = record { refused = bad_text offset; text = text }

-- what comes of a table that was read
abbrev pub of_table : SetUp → TextsSetUp
of_table s = record { refused = record { refused = s.refused; text = 0 }; machine = s.machine }

abbrev pub set_up_read : Machine → Answer (List (List ℕ)) → Answer (List (List ℕ)) → TextsSetUp
set_up_read old (refused offset) tasks = record { refused = bad_in in_platform offset; machine = old }
set_up_read old (found platform) (refused offset) = record { refused = bad_in in_tasks offset; machine = old }
set_up_read old (found platform) (found rows) = of_table (set_up old (table_from platform rows))

unfoldable pub set_up_texts : Machine → List ℕ → List ℕ → TextsSetUp
set_up_texts old platform tasks = set_up_read old (read platform_form platform) (read tasks_form tasks)
