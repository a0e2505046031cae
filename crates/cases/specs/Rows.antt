-- Cases P1 to P10 of document 01 and its cases at the limits: what is given, as the lines of the texts, what is asked,
-- and the answer that document 01 gives; of "explain", which document 01 does not have, the answer by hand from its
-- formulas; of a rehearsal (wish 1) what a plain simulation gives. `cases` is proved to give `expected` in
-- proofs/Hold.antt, from the bytes of the texts on.
use Rattle.std.specs.Prelude.{ℕ, ◌*◌, ◌/◌, cond, List, [], ◌∷◌, Some, Result}
use Rattle.std.specs.Prelude.{◌++◌, map, ℤ, pos, negsuc, length, replicate, take}
use Prim.Native.String.{String}
use Rattle.maths.specs.Tasks.{entry}
use Rattle.forms.specs.Bytes.{bytes}
use Rattle.forms.specs.Forms.{crlf, platform_form, tasks_form}
use Rattle.forms.specs.Reader.{read}
use Rattle.table.specs.declared.Refusal.{Refusal}
use Rattle.table.specs.declared.Table.{Table}
use Rattle.table.specs.Tasks.{empty_table}
use Rattle.table.specs.Refused.{refusal}
use Rattle.admission.specs.Test.{B, load_of}
use Rattle.admission.specs.declared.FullAnswer.{FullAnswer}
use Rattle.admission.specs.Answers.{full_answer, quick_answer}
use Rattle.machine.specs.declared.Machine.{Machine}
use Rattle.machine.specs.Tick.{Ticked}
use Rattle.machine.specs.Jobs.{held}
use Rattle.machine.specs.Fresh.{fresh}
use Rattle.rehearsal.specs.declared.Rehearsal.{Rehearsal}
use Rattle.rehearsal.specs.Multiple.{multiple}
use Rattle.rehearsal.specs.Rehearsal.{bench_refusal, rehearsed}
use Rattle.machine.specs.declared.Report.{Report}
use Rattle.readers.specs.Inputs.{no_platform}
use Rattle.texts.specs.Given.{given, told}
use Rattle.texts.specs.Admit.{admit_text}
use Rattle.texts.specs.Verdict.{verdict}
use Rattle.runs.specs.Ticks.{tick_with, ticks_text}
use Rattle.shares.specs.Explain.{explain_text}

-- the bytes of a text, each of whose lines ends in CR LF
abbrev pub csv : List String → List ℕ
csv [] = []
csv (line ∷ more) = bytes line ++ (crlf ++ csv more)

-- the lines of platform.csv and of tasks.csv
pub record Files : Type 0 where
  pub platform : List String
  pub tasks : List String

-- the two sets that a tick brings
abbrev pub brings : ℕ → ℕ → Report
brings released finished = record { released = released; finished = finished }

pub data Asked : Type 0 where
  -- what "admit" writes
  admit : Files → Asked
  -- what "explain" writes
  explain : Files → Asked
  -- what "ticks" writes, with these lines on standard input
  ticks : Files → List String → Asked
  -- the number that the board gets
  board : Files → Asked
  -- verdict (1 for admitted), first task that does not pass, and the margin of each task
  answer : Files → Asked
  -- B of task k
  blocks : Files → ℕ → Asked
  -- load, and load over M × B, of M, B and the tasks' partitions and interference
  load2 : (m b : ℕ) → (a x : List ℕ) → Asked
  -- of each tick on a fresh machine the refusal, number and task, and the sets finished, late and started
  ticked : Files → List Report → Asked
  -- the partitions that task k holds after the ticks
  holds : Files → List Report → ℕ → Asked
  -- number and row of the refusal of the two texts or of their table; for 15 the offset
  refusal_of : Files → Asked
  -- of a rehearsal the refusal, number and row; the tick and its lowest late task; the jobs that each task started
  outcome : Files → Asked
  -- L, and number and row of the refusal of a rehearsal; none of its ticks
  common : Files → Asked
  -- the test beside the bench: whether the table is admitted (1 or 0), and the lowest late task of its rehearsal
  beside : Files → Asked

pub data Answered : Type 0 where
  written : List ℕ → Answered
  numbers : List (List ℤ) → Answered

-- what two texts give
abbrev pub read_in : Files → Result Table Refusal
read_in f = given (read platform_form (csv f.platform)) (read tasks_form (csv f.tasks))

-- the table of two good texts
abbrev pub table_in : Files → Table
table_in f = told (λ r. empty_table no_platform) (λ t. t) (read_in f)

abbrev pub refusal_in : Files → Refusal
refusal_in f = told (λ r. r) refusal (read_in f)

abbrev pub answer_row : ℕ → FullAnswer → List ℤ
answer_row n a = cond a.admitted (pos 1) (pos 0) ∷ pos a.first ∷ take n a.margins

abbrev pub ticked_row : Ticked → List ℤ
ticked_row r =
    pos r.answer.refused.number ∷ pos r.answer.refused.row ∷ pos r.answer.finished ∷
    pos r.answer.late ∷ pos r.answer.started ∷ []

unfoldable pub ticked_rows : Machine → List Report → List (List ℤ)
ticked_rows m [] = []
ticked_rows m (x ∷ xs) = ticked_row (tick_with m x) ∷ ticked_rows (tick_with m x).machine xs

unfoldable pub after : Machine → List Report → Machine
after m [] = m
after m (x ∷ xs) = after (tick_with m x).machine xs

abbrev pub pair : ℕ → ℕ → List ℤ
pair x y = pos x ∷ pos y ∷ []

abbrev pub refusal_row : Refusal → List ℤ
refusal_row r = pair r.number r.row

abbrev pub rehearsed_rows : ℕ → Rehearsal → List (List ℤ)
rehearsed_rows n r = refusal_row r.refused ∷ pair r.tick r.task ∷ map pos (take n r.started) ∷ []

abbrev pub answered : Asked → Answered
answered (admit f) = written (admit_text (Some (csv f.platform)) (Some (csv f.tasks)))
answered (explain f) = written (explain_text (Some (csv f.platform)) (Some (csv f.tasks)))
answered (ticks f xs) = written (ticks_text (Some (csv f.platform)) (Some (csv f.tasks)) (Some (csv xs)))
answered (board f) = numbers ((pos (verdict (csv f.platform) (csv f.tasks)) ∷ []) ∷ [])
answered (answer f) = numbers (answer_row (table_in f).n (full_answer (table_in f)) ∷ [])
answered (blocks f k) = numbers ((pos (B (table_in f) k) ∷ []) ∷ [])
answered (load2 m b a x) =
    let load : ℕ = load_of (length a) m b (λ i. entry a i 0) (λ i. entry x i 0) in
    numbers ((pos load ∷ pos (load / (m * b)) ∷ []) ∷ [])
answered (ticked f xs) = numbers (ticked_rows (fresh (table_in f)) xs)
answered (holds f xs k) = numbers ((pos (held (after (fresh (table_in f)) xs) k) ∷ []) ∷ [])
answered (refusal_of f) = numbers (refusal_row (refusal_in f) ∷ [])
answered (outcome f) = numbers (rehearsed_rows (table_in f).n (rehearsed (table_in f)))
answered (common f) = numbers ((pos (multiple (table_in f)) ∷ refusal_row (bench_refusal (table_in f))) ∷ [])
answered (beside f) =
    numbers (pair (cond (quick_answer (table_in f)).admitted 1 0) (rehearsed (table_in f)).task ∷ [])

-- a case: its number in document 01 (0 for one that has none, as in its last line), what is asked, and the answer
pub record Case : Type 0 where
  pub number : ℕ
  pub asked : Asked
  pub expected : Answered

abbrev writes : ℕ → Asked → List String → Case
writes number asked lines = record { number = number; asked = asked; expected = written (csv lines) }

abbrev gives : ℕ → Asked → List (List ℤ) → Case
gives number asked rows = record { number = number; asked = asked; expected = numbers rows }

-- M and P in one row, and the rows of the tasks
abbrev files : String → List String → Files
files platform rows = record { platform = "cores,partitions" ∷ platform ∷ []; tasks = "D,T,C,A" ∷ rows }

-- M = 1, P = 1 and one task, or two
abbrev one : String → Files
one row = files "1,1" (row ∷ [])

abbrev two : String → String → Files
two row1 row2 = files "1,1" (row1 ∷ row2 ∷ [])

abbrev judged1 : ℕ → ℕ → ℤ → List (List ℤ)
judged1 verdict first margin = (pos verdict ∷ pos first ∷ margin ∷ []) ∷ []

abbrev number1 : ℕ → List (List ℤ)
number1 n = (pos n ∷ []) ∷ []

abbrev refusal2 : ℕ → ℕ → List (List ℤ)
refusal2 n row = pair n row ∷ []

abbrev row5 : ℕ → ℕ → ℕ → ℕ → ℕ → List ℤ
row5 refused task finished late started = pos refused ∷ pos task ∷ pos finished ∷ pos late ∷ pos started ∷ []

-- of a rehearsal that has no late job
abbrev none_late : List ℕ → List (List ℤ)
none_late started = pair 0 0 ∷ pair 0 0 ∷ map pos started ∷ []

abbrev late_at : (tick task : ℕ) → List ℕ → List (List ℤ)
late_at tick task started = pair 0 0 ∷ pair tick task ∷ map pos started ∷ []

-- of two tasks
abbrev unrehearsed : (number row : ℕ) → List (List ℤ)
unrehearsed number row = pair number row ∷ pair 0 0 ∷ pair 0 0 ∷ []

abbrev common3 : (L number row : ℕ) → List (List ℤ)
common3 L number row = (pos L ∷ pair number row) ∷ []

abbrev beside2 : (admitted late : ℕ) → List (List ℤ)
beside2 admitted late = pair admitted late ∷ []

abbrev p1_on : String → Files
p1_on platform = files platform ("40,50,2,1" ∷ "60,60,3,2" ∷ "80,100,4,2" ∷ [])

abbrev p1 : Files
p1 = p1_on "2,4"

abbrev p2 : Files
p2 = one "6,6,2,1"

abbrev p8_on : String → Files
p8_on platform = files platform ("6,6,2,1" ∷ "8,8,3,2" ∷ "9,9,2,2" ∷ "12,12,2,1" ∷ [])

abbrev p8 : Files
p8 = p8_on "3,4"

abbrev p9 : Files
p9 = two "2,4,2,1" "3,4,2,1"

abbrev p10 : Files
p10 = two "3,3,3,1" "1,1,1,1"

unfoldable pub paper_cases : List Case
paper_cases =
    writes 1 (admit p1) ("task,margin,pass" ∷ "1,232,1" ∷ "2,268,1" ∷ "3,370,1" ∷ [])
    ∷ gives 1 (board p1) (number1 0)
    ∷ writes 1
    (explain p1)
    ("task,other,interference,weight,share"
    ∷ "1,1,4,4,16"
    ∷ "1,2,6,4,24"
    ∷ "1,3,8,4,32"
    ∷ "2,1,6,3,18"
    ∷ "2,2,6,4,24"
    ∷ "2,3,8,4,32"
    ∷ "3,1,6,3,18"
    ∷ "3,2,9,4,36"
    ∷ "3,3,8,4,32"
    ∷ [])
    ∷ gives 2 (answer p2) (judged1 0 1 (pos 0))
    ∷ gives 2 (board p2) (number1 101)
    ∷ writes 2 (admit p2) ("task,margin,pass" ∷ "1,0,0" ∷ [])
    ∷ gives 3 (answer (one "7,7,2,1")) (judged1 1 0 (pos 1))
    ∷ gives 4 (answer (one "5,5,2,1")) (judged1 0 1 (negsuc 0))
    ∷ writes 4 (admit (one "5,5,2,1")) ("task,margin,pass" ∷ "1,-1,0" ∷ [])
    ∷ gives 5 (answer (one "2,2,2,1")) (judged1 0 1 (negsuc 3))
    ∷ gives 6 (blocks (one "6,6,2,0") 1) (number1 2)
    ∷ gives 6 (answer (one "6,6,2,0")) (judged1 0 1 (pos 0))
    ∷ gives 7 (load2 2 4 (1 ∷ 3 ∷ 1 ∷ []) (4 ∷ 4 ∷ 6 ∷ [])) ((pos 64 ∷ pos 8 ∷ []) ∷ [])
    ∷ writes 8
    (ticks p8 ("released,finished" ∷ "15,0" ∷ "0,0" ∷ "0,1" ∷ "0,2" ∷ "0,4" ∷ "1,8" ∷ "0,8" ∷ "1,0" ∷ []))
    ("tick,refused,finished,late,started"
    ∷ "0,0,0,0,3"
    ∷ "1,0,0,0,0"
    ∷ "2,0,1,0,4"
    ∷ "3,0,2,0,8"
    ∷ "4,0,4,0,0"
    ∷ "5,12,0,0,0"
    ∷ "5,0,8,0,0"
    ∷ "6,0,0,0,1"
    ∷ [])
    ∷ gives 8 (holds p8 (brings 15 0 ∷ brings 0 0 ∷ brings 0 1 ∷ []) 3) (number1 9)
    ∷ gives 9
    (ticked p9 (brings 3 0 ∷ brings 0 0 ∷ brings 0 1 ∷ brings 0 0 ∷ []))
    (row5 0 0 0 0 1 ∷ row5 0 0 0 0 0 ∷ row5 0 0 1 0 2 ∷ row5 0 0 0 2 0 ∷ [])
    ∷ gives 10
    (ticked p10 (brings 3 0 ∷ brings 2 0 ∷ []))
    (row5 0 0 0 0 1 ∷ row5 13 2 0 0 0 ∷ [])
    ∷ gives 0 (refusal_of (files "1,1" (replicate 32 "1,1,1,1"))) (refusal2 0 0)
    ∷ gives 0 (refusal_of (files "1,1" (replicate 33 "1,1,1,1"))) (refusal2 1 0)
    ∷ gives 0 (board (files "1,1" (replicate 33 "1,1,1,1"))) (number1 1)
    ∷ gives 0 (refusal_of (files "1,64" ("1,1,1,1" ∷ []))) (refusal2 0 0)
    ∷ gives 0 (refusal_of (files "1,65" ("1,1,1,1" ∷ []))) (refusal2 3 0)
    ∷ gives 0 (refusal_of (one "1,65535,1,1")) (refusal2 0 0)
    ∷ gives 0 (refusal_of (one "1,65536,1,1")) (refusal2 4 1)
    ∷ gives 0 (refusal_of (record { platform = "cores,partitions" ∷ "1,1" ∷ []; tasks = [] })) (refusal2 15 0)
    ∷ gives 0 (refusal_of (files "1,1" [])) (refusal2 1 0)
    ∷ writes 0 (explain (files "1,1" [])) ("refused,row" ∷ "1,0" ∷ [])
    ∷ writes 0
    (explain (files "4,4" ("9,10,2,2" ∷ "20,20,3,0" ∷ [])))
    ("task,other,interference,weight,share" ∷ "1,1,4,8,32" ∷ "1,2,6,3,18" ∷ "2,1,6,8,48" ∷ "2,2,6,3,18" ∷ [])
    ∷ []

-- Wish 1, each row with the wrong readings that it tells apart. Those of many ticks stand last, so that a wrong row is
-- refused before they are computed. The ticks of L = 1,000,000 are run, not computed.
unfoldable pub bench_cases : List Case
bench_cases =
    -- never late, and P2 is not admitted: the converse of `NeverLate` is false
    gives 2 (beside p2) (beside2 0 0)
    ∷ gives 2 (outcome p2) (none_late (1 ∷ []))
    ∷ gives 3 (beside (one "7,7,2,1")) (beside2 1 0)
    ∷ gives 9 (beside p9) (beside2 0 2)
    -- a job that finishes at its deadline is in time: late is judged after the finishes
    ∷ gives 5 (outcome (one "2,2,2,1")) (none_late (1 ∷ []))
    -- late by D, not by T; started is not finished, which would be 1, 0
    ∷ gives 9 (outcome p9) (late_at 3 2 (1 ∷ 1 ∷ []))
    -- late in the tick of its next release, which `tick` refuses under 13, naming nobody late
    ∷ gives 10 (outcome p10) (late_at 1 2 (1 ∷ 0 ∷ []))
    -- late at L itself: the ticks do not end before it
    ∷ gives 0 (outcome (two "3,3,2,1" "3,3,2,1")) (late_at 3 2 (1 ∷ 1 ∷ []))
    -- finished at L is in time, and nothing is released there: else 2, 1
    ∷ gives 0 (outcome (two "4,4,2,1" "4,4,2,1")) (none_late (1 ∷ 1 ∷ []))
    -- the end is the first tick with a late job, though task 1 would be late at 7
    ∷ gives 0 (outcome (two "3,4,2,1" "5,8,4,1")) (late_at 5 2 (1 ∷ 1 ∷ []))
    -- tasks 3 and 4 are late together: the lowest; task 3 would start in this tick
    ∷ gives 0
    (outcome (files "1,1" ("1,10,1,1" ∷ "3,10,1,0" ∷ "2,10,2,1" ∷ "2,10,1,1" ∷ [])))
    (late_at 2 3 (1 ∷ 1 ∷ 0 ∷ 0 ∷ []))
    -- 17 is for a multiple above 1,000,000, not for 1,000,000 itself
    ∷ gives 0 (common (two "15625,15625,1,1" "64,64,1,1")) (common3 1000000 0 0)
    ∷ gives 0 (common (two "101,101,1,1" "9901,9901,1,1")) (common3 1000001 17 0)
    -- and not for the product, 2,000,000,000
    ∷ gives 0 (common (two "40000,40000,1,1" "50000,50000,1,1")) (common3 200000 0 0)
    -- 17 has no row, and all else is 0
    ∷ gives 0 (outcome (two "1000,1000,1,1" "1001,1001,1,1")) (unrehearsed 17 0)
    ∷ gives 0 (outcome (two "65535,65535,1,1" "65534,65534,1,1")) (unrehearsed 17 0)
    -- 17 comes after the table's own
    ∷ gives 0 (outcome (two "1000,1000,1,1" "1001,1001,0,1")) (unrehearsed 5 2)
    -- started is not released, which would be 2, 2, 2, 1; task 1 would start a third time in the last tick
    ∷ gives 8 (outcome (p8_on "1,4")) (late_at 12 4 (2 ∷ 2 ∷ 1 ∷ 0 ∷ []))
    -- partitions count; in a queue that looks past the first waiting job nobody would be late
    ∷ gives 8 (outcome (p8_on "3,2")) (late_at 24 4 (4 ∷ 3 ∷ 3 ∷ 2 ∷ []))
    -- L is not the product, 5,184, nor the longest period
    ∷ gives 8 (common p8) (common3 72 0 0)
    ∷ gives 8 (outcome p8) (none_late (12 ∷ 9 ∷ 8 ∷ 6 ∷ []))
    -- L is of the periods, 300; with the deadlines' 240 it would be 5, 4, 3
    ∷ gives 1 (outcome p1) (none_late (6 ∷ 5 ∷ 3 ∷ []))
    ∷ gives 1 (outcome (p1_on "1,4")) (none_late (6 ∷ 5 ∷ 3 ∷ []))
    ∷ []

unfoldable pub cases : List Case
cases = paper_cases ++ bench_cases
