-- What the program "ticks" writes, from its three texts, each there or missing: a row for each tick, on the machine
-- that the ticks before it left, or the refusal. Platform, tasks and ticks text are tried in that order before any
-- number of the table is judged.
use Rattle.std.specs.Prelude.{ℕ, suc, ◌+◌, ◌-◌, ◌*◌, ◌/◌, ◌≤◌, Option, cond, List, [], ◌∷◌, eqb, length}
use Rattle.forms.specs.Forms.{ticks_form}
use Rattle.forms.specs.Reads.{Answer, found, refused}
use Rattle.table.specs.declared.Refusal.{Refusal}
use Rattle.table.specs.declared.Table.{Table}
use Rattle.table.specs.Refused.{refusal, unrefused}
use Rattle.machine.specs.declared.Machine.{Machine}
use Rattle.machine.specs.Fresh.{fresh}
use Rattle.machine.specs.Tick.{Ticked, tick}
use Rattle.machine.specs.declared.Report.{Report}
use Rattle.readers.specs.Inputs.{bad_text, tick_of, first_tick}
use Rattle.writers.specs.Outputs.{listing, refused_text}
use Rattle.texts.specs.Given.{listed, longest, taken}

abbrev pub tick_with : Machine → Report → Ticked
tick_with m report = tick m report.released report.finished

-- ticks taken before the row, refusal number or 0, and the three sets
abbrev pub run_row : ℕ → Ticked → List ℕ
run_row before t = before ∷ t.answer.refused.number ∷ t.answer.finished ∷ t.answer.late ∷ t.answer.started ∷ []

-- a refused tick is not taken
abbrev pub counted : ℕ → Refusal → ℕ
counted before r = cond (eqb r.number 0) (suc before) before

-- the rows of the ticks to come, where so many were taken
unfoldable pub run_rows : ℕ → Machine → List (List ℕ) → List (List ℕ)
run_rows before m [] = []
run_rows before m (row ∷ rows) =
    let t = tick_with m (tick_of row) in
    run_row before t ∷ run_rows (counted before t.answer.refused) t.machine rows

abbrev pub run_text : Machine → List (List ℕ) → List ℕ
run_text m rows = listing "tick,refused,finished,late,started" (run_rows 0 m rows)

-- the ticks of the text on a fresh machine of the table
abbrev pub ran : Answer (List (List ℕ)) → Table → List ℕ
ran (refused offset) t = refused_text (bad_text offset)
ran (found rows) t = cond (unrefused t) (run_text (fresh t) rows) (refused_text (refusal t))

unfoldable pub ticks_text : Option (List ℕ) → Option (List ℕ) → Option (List ℕ) → List ℕ
ticks_text platform tasks ticks = listed (ran (taken ticks_form ticks)) platform tasks

-- A listing of so many ticks is no longer: a header of 36 bytes, and five numbers of at most 20 digits, four commas and
-- CR LF for each.
abbrev pub listing_most : ℕ → ℕ
listing_most ticks = 36 + 106 * ticks

-- The program's buffer, `TICKS_MOST`: a tick takes at least 5 bytes of its text, two digits, a comma and CR LF.
abbrev pub ticks_most : ℕ
ticks_most = listing_most ((longest - first_tick) / 5)

-- Refusal 16 cannot come up in the program: whatever its texts, there or missing, however long.
abbrev pub TicksFit : Type 0
TicksFit = (platform tasks ticks : Option (List ℕ)) → length (ticks_text platform tasks ticks) ≤ ticks_most
