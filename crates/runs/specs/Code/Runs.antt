-- A run on its way through a ticks text, as the code's loop holds it, and what the code makes on its way there. No
-- statement of a public function rests on these definitions.
use Rattle.std.specs.Prelude.{ℕ, ◌≡◌, List, [], length, Result, Ok, Err}
use Rattle.forms.specs.Forms.{ticks_form}
use Rattle.forms.specs.Reads.{Answer, found, refused}
use Rattle.forms.specs.Reader.{read}
use Rattle.table.specs.declared.Refusal.{Refusal}
use Rattle.table.specs.declared.Table.{Table}
use Rattle.table.specs.Reasons.{answered}
use Rattle.table.specs.Refused.{refusal}
use Rattle.machine.specs.declared.Machine.{Machine}
use Rattle.machine.specs.Fresh.{fresh}
use Rattle.readers.specs.Inputs.{tick_at}
use Rattle.runs.specs.declared.Run.{Run}
use Rattle.runs.specs.Ticks.{tick_with, run_row, counted}

abbrev pub rows_of : Answer (List (List ℕ)) → List (List ℕ)
rows_of (found rows) = rows
rows_of (refused offset) = []

-- the rows of a good ticks text
abbrev pub ticks_in : List ℕ → List (List ℕ)
ticks_in text = rows_of (read ticks_form text)

-- a ticks text that is good, of so many ticks
pub record CountedTicks (text : List ℕ) (count : ℕ) : Type 0 where
  pub good : read ticks_form text ≡ found (ticks_in text)
  pub all : count ≡ length (ticks_in text)

-- past the tick at the run's place
unfoldable pub run_on : List ℕ → Run → Run
run_on text r =
    let x = tick_at text r.at in
    let t = tick_with r.machine x.value in
    record { machine = t.machine; taken = counted r.taken t.answer.refused; at = x.next }

-- the row of that tick
unfoldable pub line_on : List ℕ → Run → List ℕ
line_on text r = run_row r.taken (tick_with r.machine (tick_at text r.at).value)

-- the machine and how many ticks it is to take, from a table and ticks that were taken: the table is judged next
abbrev pub judged : Result Table Refusal → Result ℕ Refusal → Result (Machine × ℕ) Refusal
judged (Err r) ticks = Err r
judged (Ok t) (Err r) = Err r
judged (Ok t) (Ok count) = answered (refusal t) (fresh t, count)
