-- The reasons of refusals as document 01 numbers them, and what a function hands on of a refusal: nothing, or itself.
use Rattle.std.specs.Prelude.{ℕ, cond, eqb, Result, Ok, Err}
use Rattle.table.specs.declared.Reason.{Reason}
use Rattle.table.specs.declared.Reason.TheVariants.{Count, Cores, Partitions, Period, NoRun, Run, Deadline, Need}
use Rattle.table.specs.declared.Reason.TheVariants.{Task, NotRunning, Overrun, Early, Unfinished, State, Text, Room}
use Rattle.table.specs.declared.Reason.TheVariants.{Multiple}
use Rattle.table.specs.declared.Refusal.{Refusal}

abbrev pub number : Reason → ℕ
number Count = 1
number Cores = 2
number Partitions = 3
number Period = 4
number NoRun = 5
number Run = 6
number Deadline = 7
number Need = 8
number Task = 9
number NotRunning = 10
number Overrun = 11
number Early = 12
number Unfinished = 13
number State = 14
number Text = 15
number Room = 16
number Multiple = 17

-- the number of what was found, 0 where nothing was
abbrev pub number_of : {A : Type 0} → Result A Reason → ℕ
number_of (Ok _) = 0
number_of (Err reason) = number reason

abbrev pub refusal_for : Reason → ℕ → Refusal
refusal_for reason row = record { number = number reason; row = row }

-- a value, or the refusal where there is one
abbrev pub answered : {A : Type 0} → Refusal → A → Result A Refusal
answered r x = cond (eqb r.number 0) (Ok x) (Err r)

abbrev pub outcome : Refusal → Result Unit Refusal
outcome r = answered r tt
