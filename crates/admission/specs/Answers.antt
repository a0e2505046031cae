-- The two answers of document 01: full, with the margin of each task 1 to n and 0 beyond, and quick, with the verdict
-- and the first task that does not pass. A refused table carries number and row, and all else is 0.
use Rattle.std.specs.Prelude.{ℕ, zero, suc, false, cond, List, leb, ℤ, pos, Option, Some, None, Result}
use Rattle.maths.specs.Tasks.{tabulate}
use Rattle.table.specs.declared.Table.{Table}
use Rattle.table.specs.declared.Refusal.{Refusal}
use Rattle.table.specs.Limits.{most_tasks}
use Rattle.table.specs.Refused.{refusal, unrefused}
use Rattle.table.specs.Reasons.{answered}
use Rattle.admission.specs.declared.FullAnswer.{FullAnswer}
use Rattle.admission.specs.declared.QuickAnswer.{QuickAnswer}
use Rattle.admission.specs.Test.{margin, admitted, first_failing}

abbrev pub margins : Table → List ℤ
margins t = tabulate most_tasks (λ k. cond (leb k t.n) (margin t k) (pos 0))

-- the task of that number; none of 0
abbrev pub task_found : ℕ → Option ℕ
task_found zero = None
task_found (suc k) = Some (suc k)

-- the first task that does not pass, if there is one, or the refusal
abbrev pub first_answer : Table → Result (Option ℕ) Refusal
first_answer t = answered (refusal t) (task_found (first_failing t))

-- the margins, or the refusal
abbrev pub margins_answer : Table → Result (List ℤ) Refusal
margins_answer t = answered (refusal t) (margins t)

-- of a refused table
abbrev pub full_refused : Refusal → FullAnswer
full_refused refused =
    record { refused = refused; admitted = false; first = 0; margins = tabulate most_tasks (λ k. pos 0) }

abbrev pub quick_refused : Refusal → QuickAnswer
quick_refused refused = record { refused = refused; admitted = false; first = 0 }

unfoldable pub full_answer : Table → FullAnswer
full_answer t =
    cond (unrefused t)
    (record { refused = refusal t; admitted = admitted t; first = first_failing t; margins = margins t })
    (full_refused (refusal t))

unfoldable pub quick_answer : Table → QuickAnswer
quick_answer t =
    cond (unrefused t)
    (record { refused = refusal t; admitted = admitted t; first = first_failing t })
    (quick_refused (refusal t))

-- the full answer without its margins
abbrev pub without_margins : FullAnswer → QuickAnswer
without_margins a = record { refused = a.refused; admitted = a.admitted; first = a.first }
