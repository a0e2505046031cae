use Prim.Native.Nat.{ℕ}
use mathlib.Core.Path.{◌≡◌, refl, sym, ◌∙◌}
use mathlib.Core.List.{List}
use Rattle.std.specs.Prelude.{Ok}
use Rattle.maths.proofs.Results.{handed}
use Rattle.table.specs.declared.Platform.{Platform}
use Rattle.readers.specs.Inputs.{platform_read, table_read}
use Rattle.forms.specs.Forms.{platform_form, tasks_form}
use Rattle.forms.specs.Reader.{read}
use Rattle.texts.specs.Verdict.{verdict}
use Rattle.texts.specs.Given.{given}
use Rattle.texts.proofs.Answers.{number_is, first-few}
use Rattle.texts.proofs.Given.{first-bad, first_good, rows_32}
use Rattle.texts.proofs.first_failing.Goals as goal

-- the table that both texts give, once the platform is read
both_read : (platform tasks : List ℕ) (held : Platform) → Ok held ≡ platform_read (read platform_form platform)
    → table_read held (read tasks_form tasks) ≡ given (read platform_form platform) (read tasks_form tasks)
both_read platform tasks = first_good (read platform_form platform) (read tasks_form tasks)

pub returns-in_err-platform-clause-number : goal.returns-in_err-platform-clause-number
unfolding verdict
returns-in_err-platform-clause-number c =
    let bad = first-bad (read platform_form c.args.platform.now) (read tasks_form c.args.tasks.now) in
    rw (handed _ c.from_residual.ensures, ← bad _ c.in_err-platform.ensures) refl

pub returns-in_err-table-clause-number : goal.returns-in_err-table-clause-number
unfolding verdict
returns-in_err-table-clause-number c =
    let both = both_read c.args.platform.now c.args.tasks.now c.in_ok-platform.platform c.in_ok-platform.ensures in
    rw (handed _ c.from_residual-in_err-table.ensures, ← both, ← c.in_err-table.ensures) refl

pub returns-clause-number : goal.returns-clause-number
unfolding verdict
returns-clause-number c =
    let both = both_read c.args.platform.now c.args.tasks.now c.in_ok-platform.platform c.in_ok-platform.ensures in
    rw (← both, ← c.in_ok-table.ensures, c.first_failing_of.ensures) (number_is c.in_ok-table.table)

pub returns-clause-few : goal.returns-clause-few
returns-clause-few c k e =
    let t = c.in_ok-table in
    let size = rows_32 c.in_ok-platform.platform (read tasks_form c.args.tasks.now) t.table t.ensures in
    first-few t.table size k (sym e ∙ c.first_failing_of.ensures)
