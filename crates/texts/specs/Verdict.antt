-- The one number that the board's start-up code gets for two texts: 0 for admitted, 100 and the first task that does
-- not pass, or the number of the refusal. No text is too long here.
use Rattle.std.specs.Prelude.{ℕ, ◌+◌, cond, List, eqb}
use Rattle.forms.specs.Forms.{platform_form, tasks_form}
use Rattle.forms.specs.Reader.{read}
use Rattle.table.specs.declared.Refusal.{Refusal}
use Rattle.table.specs.declared.Table.{Table}
use Rattle.admission.specs.declared.QuickAnswer.{QuickAnswer}
use Rattle.admission.specs.Answers.{quick_answer}
use Rattle.texts.specs.Given.{given, told}

abbrev pub numbered : QuickAnswer → ℕ
numbered a = cond (eqb a.refused.number 0) (cond (eqb a.first 0) 0 (100 + a.first)) a.refused.number

abbrev pub number_of : Refusal → ℕ
number_of r = r.number

abbrev pub quick_number : Table → ℕ
quick_number t = numbered (quick_answer t)

unfoldable pub verdict : List ℕ → List ℕ → ℕ
verdict platform tasks = told number_of quick_number (given (read platform_form platform) (read tasks_form tasks))
