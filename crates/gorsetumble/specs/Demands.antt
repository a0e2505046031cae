-- The demands, of what a caller outside lends: a row of tasks, and a machine that is set up and moved on.
-- Demand 2 is the contracts themselves; here is what they say of the count of a row, and that the two answers agree.
use Rattle.std.specs.Prelude.{ℕ, suc, ◌<◌, ◌≡◌, true, List, [], ◌≢◌, length}
use Rattle.table.specs.declared.Platform.{Platform}
use Rattle.table.specs.declared.Task.{Task}
use Rattle.table.specs.Limits.{most_tasks}
use Rattle.table.specs.Refused.{refusal}
use Rattle.table.specs.Tasks.{table_of}
use Rattle.admission.specs.Answers.{full_answer, quick_answer, without_margins}
use Rattle.machine.specs.declared.Machine.{Machine}
use Rattle.machine.specs.Fresh.{set_up}
use Rattle.machine.specs.Jobs.{job}
use Rattle.machine.specs.Tick.{refused_answer, tick}
use Rattle.promise.specs.Sequences.{Report, Sequence, steps}
use Rattle.promise.specs.Promise.{Kept}

pub record LentDemand1 : Type 0 where
  -- A set-up that is refused leaves the machine as it was lent.
  pub set_up_refused : (m : Machine) (p : Platform) (rows : List Task)
      → (set_up m (table_of p rows)).refused.number ≢ 0 → (set_up m (table_of p rows)).machine ≡ m
  -- One that is not leaves nothing of it: what stands there is of the new rows and platform alone.
  pub set_up_forgets : (m other : Machine) (p : Platform) (rows : List Task)
      → (set_up m (table_of p rows)).refused.number ≡ 0
      → (set_up m (table_of p rows)).machine ≡ (set_up other (table_of p rows)).machine
  -- A stage above 2, of a task of the table or past it, is refused under 14.
  pub no_stage : (m : Machine) → length m.table.rows ≡ most_tasks → (i : ℕ) → i < most_tasks
      → 2 < (job m (suc i)).stage.0
      → (released finished : ℕ) → (tick m released finished).answer.refused ≡ record { number = 14; row = 0 }
  -- A tick that is refused leaves the machine as it was lent, and answers 0 for its sets.
  pub tick_refused : (m : Machine) (released finished : ℕ) → (tick m released finished).answer.refused.number ≢ 0
      → ((tick m released finished).machine ≡ m)
      × ((tick m released finished).answer ≡ refused_answer (tick m released finished).answer.refused)

pub record LentDemand2 : Type 0 where
  -- No row at all, and more rows than a table keeps, however many, earn refusal 1.
  pub none : (p : Platform) → refusal (table_of p []) ≡ record { number = 1; row = 0 }
  pub too_many : (p : Platform) (rows : List Task) → most_tasks < length rows
      → refusal (table_of p rows) ≡ record { number = 1; row = 0 }
  pub agree : (p : Platform) (rows : List Task)
      → without_margins (full_answer (table_of p rows)) ≡ quick_answer (table_of p rows)

-- the sequence of ticks of a machine that stands at m
abbrev pub since : Machine → List Report → Sequence
since m reports = record { first = m; ticks = steps m reports }

-- Where the quick answer on a lent row is "admitted", set-up from that row is not refused, whatever the machine was,
-- and from there on the machine keeps the promise, whatever it is told.
abbrev pub LentDemand3 : Type 0
LentDemand3 = (m : Machine) (p : Platform) (rows : List Task) → (quick_answer (table_of p rows)).admitted ≡ true
    → (reports : List Report)
    → ((set_up m (table_of p rows)).refused.number ≡ 0)
    × Kept (table_of p rows) (since (set_up m (table_of p rows)).machine reports)
