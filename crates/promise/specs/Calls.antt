-- The promise about what the functions give. By their contracts `quick_answer(t)` returns `quick_answer t`; of
-- `old.set_up(t)` what is returned and the machine that it leaves are `set_up old t`, and of `tick(m, released,
-- finished)` they are `tick m released finished`. Whoever is told that the table is admitted, sets up and goes on with
-- the machine that each tick leaves, over whatever machine was there before, sees the promise kept in these very
-- values.
use Rattle.std.specs.Prelude.{◌≡◌, true, List, [], ◌∷◌, length}
use Rattle.table.specs.declared.Table.{Table}
use Rattle.table.specs.Limits.{most_tasks}
use Rattle.admission.specs.declared.QuickAnswer.{QuickAnswer}
use Rattle.admission.specs.Answers.{quick_answer}
use Rattle.machine.specs.declared.Machine.{Machine}
use Rattle.machine.specs.Fresh.{SetUp, set_up}
use Rattle.machine.specs.Tick.{Ticked, tick}
use Rattle.promise.specs.Sequences.{Report, accepts, Step, step, counted}
use Rattle.promise.specs.Promise.{Kept}

-- `rs` are returned by ticks on the reports, from machine m on, each called on the machine that the one before it
-- returned
pub data Ticks : Machine → List Report → List Ticked → Type 0 where
  none : {m : Machine} → Ticks m [] []
  call : {m : Machine} {x : Report} {xs : List Report} {r : Ticked} {rs : List Ticked}
      → r ≡ tick m x.released x.finished → Ticks r.machine xs rs → Ticks m (x ∷ xs) (r ∷ rs)

-- the accepted ones among them
abbrev pub returned : List Report → List Ticked → List Step
returned [] rs = []
returned (x ∷ xs) [] = []
returned (x ∷ xs) (r ∷ rs) = counted (accepts r.answer) (step x r) (returned xs rs)

pub record Calls (t : Table) (old : Machine) (reports : List Report) : Type 0 where
  pub verdict : QuickAnswer
  pub begun : SetUp
  pub ticked : List Ticked
  pub quick_contract : verdict ≡ quick_answer t
  pub set_up_contract : begun ≡ set_up old t
  pub tick_contract : Ticks begun.machine reports ticked

abbrev pub Demand3OfCalls : Type 0
Demand3OfCalls =
    (t : Table) → length t.rows ≡ most_tasks → (old : Machine) (reports : List Report) (c : Calls t old reports)
    → c.verdict.admitted ≡ true → Kept t (record { first = c.begun.machine; ticks = returned reports c.ticked })
