-- Sequences of ticks. A machine is told one report after another and goes on from the state that each leaves. The
-- reports that it accepts are the ticks of the sequence, numbered 0, 1, 2, ..; a refused report has no number. State 0
-- is the first state, and tick i leads from state i to state i + 1.
use Rattle.std.specs.Prelude.{ℕ, zero, suc, Bool, true, false, List, [], ◌∷◌, eqb, length}
use Rattle.table.specs.declared.Table.{Table}
use Rattle.sets.specs.TaskSets.{has_task}
use Rattle.machine.specs.declared.Answer.{Answer}
use Rattle.machine.specs.declared.Machine.{Machine}
use Rattle.machine.specs.Fresh.{fresh}
use Rattle.machine.specs.Tick.{Ticked, refused_answer, tick}

-- the two sets that a tick brings
pub record Report : Type 0 where
  pub released : ℕ
  pub finished : ℕ

-- a tick of the machine on a report: the answer and the machine moved on
abbrev pub told : Machine → Report → Ticked
told m x = tick m x.released x.finished

-- the number of the refusal in an answer is 0
abbrev pub accepts : Answer → Bool
accepts a = eqb a.refused.number 0

-- an accepted tick: what it was told, what it answered and the state that it left
pub record Step : Type 0 where
  pub report : Report
  pub answer : Answer
  pub after : Machine

abbrev pub step : Report → Ticked → Step
step x r = record { report = x; answer = r.answer; after = r.machine }

-- a tick counts if it is accepted
abbrev pub counted : Bool → Step → List Step → List Step
counted true st rest = st ∷ rest
counted false st rest = rest

-- the accepted ticks among the reports, from state m on
unfoldable pub steps : Machine → List Report → List Step
steps m [] = []
steps m (x ∷ xs) = counted (accepts (told m x).answer) (step x (told m x)) (steps (told m x).machine xs)

pub record Sequence : Type 0 where
  pub first : Machine
  pub ticks : List Step

-- the sequence of a fresh machine
abbrev pub sequence : Table → List Report → Sequence
sequence t xs = record { first = fresh t; ticks = steps (fresh t) xs }

abbrev pub count : Sequence → ℕ
count s = length s.ticks

-- where there is no tick, nothing is told, nothing answered and nothing changed
abbrev pub no_step : Machine → Step
no_step m =
    record {
      report = record { released = 0; finished = 0 };
      answer = refused_answer (record { number = 0; row = 0 });
      after = m;
    }

abbrev pub nth : Machine → List Step → ℕ → Step
nth m [] i = no_step m
nth m (x ∷ xs) zero = x
nth m (x ∷ xs) (suc i) = nth x.after xs i

-- tick i, for i below count s
abbrev pub tick_at : Sequence → ℕ → Step
tick_at s i = nth s.first s.ticks i

-- state i, for i up to count s
abbrev pub state : Sequence → ℕ → Machine
state s zero = s.first
state s (suc i) = (tick_at s i).after

-- tick i releases, finishes or starts task k
abbrev pub releases : Sequence → ℕ → ℕ → Bool
releases s i k = has_task (tick_at s i).report.released k

abbrev pub finishes : Sequence → ℕ → ℕ → Bool
finishes s i k = has_task (tick_at s i).report.finished k

abbrev pub starts : Sequence → ℕ → ℕ → Bool
starts s i k = has_task (tick_at s i).answer.started k
