-- What the program "rehearse" writes, from its two texts, each there or missing: a row for each task, or the refusal.
use Rattle.std.specs.Prelude.{ℕ, ◌+◌, ◌*◌, ◌≤◌, Option, cond, List, [], ◌∷◌, eqb, length}
use Rattle.maths.specs.Tasks.{tabulate, entry}
use Rattle.table.specs.declared.Table.{Table}
use Rattle.table.specs.Limits.{most_tasks}
use Rattle.writers.specs.Outputs.{listing, refused_text}
use Rattle.texts.specs.Given.{listed}
use Rattle.rehearsal.specs.declared.Rehearsal.{Rehearsal}
use Rattle.rehearsal.specs.Rehearsal.{rehearsed}

-- task k, the jobs that it started, and the tick in the row of the lowest late task
abbrev pub trial_row : Rehearsal → ℕ → List ℕ
trial_row r k = k ∷ entry r.started k 0 ∷ cond (eqb k r.task) r.tick 0 ∷ []

abbrev pub trial_rows : ℕ → Rehearsal → List (List ℕ)
trial_rows n r = tabulate n (trial_row r)

abbrev pub trial_text : ℕ → Rehearsal → List ℕ
trial_text n r = listing "task,started,late" (trial_rows n r)

abbrev pub tried_text : ℕ → Rehearsal → List ℕ
tried_text n r = cond (eqb r.refused.number 0) (trial_text n r) (refused_text r.refused)

abbrev pub tried : Table → List ℕ
tried t = tried_text t.n (rehearsed t)

unfoldable pub rehearse_text : Option (List ℕ) → Option (List ℕ) → List ℕ
rehearse_text = listed tried

-- The program's buffer, `REHEARSE_MOST`: a header of 19 bytes, and for each task its number of two digits, two numbers
-- of at most ten, two commas and CR LF.
abbrev pub rehearse_most : ℕ
rehearse_most = 19 + 26 * most_tasks

-- Refusal 16 cannot come up in the program: whatever its texts, there or missing, however long.
abbrev pub RehearseFits : Type 0
RehearseFits = (platform tasks : Option (List ℕ)) → length (rehearse_text platform tasks) ≤ rehearse_most
