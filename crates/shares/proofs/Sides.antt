-- "admit" and "explain" refuse the same texts and tables with the same refusal, and list the same table.
use mathlib.Core.Path.{◌≡◌, refl}
use mathlib.Core.Bool.{Bool, true, false, cond}
use Rattle.std.specs.Prelude.{Result, Ok, Err}
use Rattle.table.specs.declared.Table.{Table}
use Rattle.table.specs.declared.Refusal.{Refusal}
use Rattle.table.specs.Refused.{refusal, unrefused}
use Rattle.admission.specs.Test.{admitted, first_failing}
use Rattle.admission.specs.Answers.{margins, full_refused, full_answer}
use Rattle.writers.specs.Outputs.{refused_text}
use Rattle.texts.specs.Given.{told, table_taken}
use Rattle.texts.specs.Admit.{answer_text, judged, admit_text}
use Rattle.shares.specs.Explain.{pairs_text, explained, explain_text, SideBySide, refusals, listings, ExplainsAdmit}

one_table_lem : (t : Table) → SideBySide (judged t) (explained t)
unfolding full_answer
one_table_lem t = by (unrefused t) refl
  where
    by : (b : Bool) → unrefused t ≡ b
        → SideBySide
        (answer_text t.n
        (cond b
        (record { refused = refusal t; admitted = admitted t; first = first_failing t; margins = margins t })
        (full_refused (refusal t))))
        (cond b (pairs_text t) (refused_text (refusal t)))
    by true e = listings t e (rw e) refl
    by false e = refusals (refusal t) (rw e) refl

pub explains_admit : ExplainsAdmit
unfolding admit_text explain_text
explains_admit platform tasks = go (table_taken platform tasks)
  where
    go : (x : Result Table Refusal) → SideBySide (told refused_text judged x) (told refused_text explained x)
    go (Err r) = refusals r refl refl
    go (Ok t) = one_table_lem t
