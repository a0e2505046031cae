-- The promise is not empty: P1 of document 01 is admitted and its tasks contend, and time can always go on.
use Rattle.std.specs.Prelude.{◌≡◌, true, [], ◌∷◌, ℕ, ◌≤◌, replicate}
use Rattle.table.specs.declared.Task.{Task}
use Rattle.table.specs.declared.Table.{Table}
use Rattle.table.specs.Tasks.{no_task}
use Rattle.machine.specs.Jobs.{waits}
use Rattle.promise.specs.Sequences.{Report, told, Sequence, sequence, count, tick_at, state}
use Rattle.promise.specs.Promise.{Admitted}

abbrev row : ℕ → ℕ → ℕ → ℕ → Task
row d t c a = record { d = d; t = t; c = c; a = record { 0 = a } }

-- M = 2, P = 4
abbrev pub p1 : Table
p1 =
    record {
      platform = record { cores = record { 0 = 2 }; partitions = record { 0 = 4 } };
      n = 3;
      rows = row 40 50 2 1 ∷ row 60 60 3 2 ∷ row 80 100 4 2 ∷ replicate 29 no_task;
    }

-- all three released at once: tasks 1 and 2 start, and 3 waits
abbrev pub all3 : Report
all3 = record { released = 7; finished = 0 }

pub record Contended : Type 0 where
  pub admitted : Admitted p1
  pub one_tick : count (sequence p1 (all3 ∷ [])) ≡ 1
  pub started : (tick_at (sequence p1 (all3 ∷ [])) 0).answer.started ≡ 3
  pub waits : waits (state (sequence p1 (all3 ∷ [])) 1) 3 ≡ true

-- In each state of a sequence some report is accepted.
abbrev pub GoesOn : Sequence → Type 0
GoesOn s = (i : ℕ) → i ≤ count s → (x : Report) × ((told (state s i) x).answer.refused.number ≡ 0)
