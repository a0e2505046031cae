-- What the program "admit" writes, from its two texts, each there or missing: a row for each task, or the refusal.
use Rattle.std.specs.Prelude.{ℕ, ◌+◌, ◌*◌, ◌≤◌, cond, List, eqb, length, Option}
use Rattle.table.specs.declared.Table.{Table}
use Rattle.table.specs.Limits.{most_tasks}
use Rattle.admission.specs.declared.FullAnswer.{FullAnswer}
use Rattle.admission.specs.Answers.{full_answer}
use Rattle.writers.specs.Outputs.{refused_text, margins_text}
use Rattle.texts.specs.Given.{listed}

abbrev pub answer_text : ℕ → FullAnswer → List ℕ
answer_text n a = cond (eqb a.refused.number 0) (margins_text n a.margins) (refused_text a.refused)

abbrev pub judged : Table → List ℕ
judged t = answer_text t.n (full_answer t)

unfoldable pub admit_text : Option (List ℕ) → Option (List ℕ) → List ℕ
admit_text = listed judged

-- The program's buffer, `ADMIT_MOST`: a header of 18 bytes, and a row of at most 27 for each task, whose number has two
-- digits, whose margin has a sign and 19.
abbrev pub admit_most : ℕ
admit_most = 18 + 27 * most_tasks

-- Refusal 16 cannot come up in the program: whatever its texts, there or missing, however long.
abbrev pub AdmitFits : Type 0
AdmitFits = (platform tasks : Option (List ℕ)) → length (admit_text platform tasks) ≤ admit_most
