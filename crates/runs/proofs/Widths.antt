-- A listing of ticks has at most 106 bytes for each.
use Prim.Native.Nat.{ℕ, ◌+◌, ◌*◌, ◌<◌, ◌≤◌}
use mathlib.Core.Path.{ap}
use mathlib.Core.List.{List, [], ◌∷◌}
use native.Mathlib.Omega.{arith}
use lib.ListN.{length, get_or, length-append}
use Rattle.forms.specs.Forms.{Within, EachRow, none, also, columns, largest, ticks_form, lines}
use Rattle.forms.proofs.Theorem.{written}
use Rattle.machine.specs.declared.Machine.{Machine}
use Rattle.readers.specs.Inputs.{tick_of}
use Rattle.writers.proofs.Listings.{big, row-most}
use Rattle.runs.specs.Ticks.{tick_with, counted, run_rows, run_text, listing_most}
use Rattle.runs.specs.Code.Runs.{ticks_in, CountedTicks}
use Rattle.runs.proofs.Runs.{header, run_start, to_come, run_split, counted-most}
use Rattle.runs.proofs.Answered.{tick-small}

second-most : {row : List ℕ} → Within (columns ticks_form) row → get_or row 1 0 ≤ largest
second-most (also a (also b none)) = b

lines-most : (rows : List (List ℕ)) (before : ℕ) (m : Machine) → before + length rows < big
    → EachRow (columns ticks_form) rows → length (lines (run_rows before m rows)) ≤ 106 * length rows
unfolding lines run_rows
lines-most [] before m h none = omega arith
lines-most (row ∷ rows) before m h (also within each) =
    let t = tick_with m (tick_of row) in
    let s = tick-small m (tick_of row) (omega (arith, second-most within)) in
    let first = row-most before _ _ _ _ (omega arith) s.number s.finished s.late s.started in
    let up = counted-most before t.answer.refused in
    let rest = lines-most rows (counted before t.answer.refused) t.machine (omega arith) each in
    simp length-append (omega arith)

pub rows-most : (rows : List (List ℕ)) (m : Machine) → length rows < big → EachRow (columns ticks_form) rows
    → length (run_text m rows) ≤ listing_most (length rows)
rows-most rows m h each =
    let most = lines-most rows 0 m (omega arith) each in
    let size = ap length (run_split m rows) in
    omega (arith, length-append header (to_come (run_start m) rows))

pub run-most : (text : List ℕ) (count : ℕ) (m : Machine) → CountedTicks text count → count < big
    → length (run_text m (ticks_in text)) ≤ listing_most count
run-most text count m k h =
    let all = k.all in
    let most = rows-most (ticks_in text) m (omega arith) (written ticks_form text (ticks_in text) k.good).0.each in
    omega arith
