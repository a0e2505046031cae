-- One tick: its refusals, each tried over all tasks before the next, with the lowest task concerned, and the machine
-- and the sets where none is given. A refused tick leaves the state as it was and answers 0 for the sets.
use Rattle.std.specs.Prelude.{ℕ, Bool, cond, not, ◌&&◌, ◌||◌, List, [], ◌∷◌, ltb, eqb}
use Rattle.maths.specs.Rules.{Rule, rule}
use Rattle.maths.specs.Tasks.{lowest}
use Rattle.table.specs.declared.Refusal.{Refusal}
use Rattle.table.specs.Limits.{most_tasks}
use Rattle.table.specs.Tasks.{τ, T, C}
use Rattle.sets.specs.TaskSets.{has_task, tasks_where}
use Rattle.machine.specs.declared.Answer.{Answer}
use Rattle.machine.specs.declared.Machine.{Machine}
use Rattle.machine.specs.Jobs.{job, idles, waits, runs}
use Rattle.machine.specs.Conditions.{good_state}
use Rattle.machine.specs.Steps.{passed, finish, late_set, release, start_all}

-- what a tick comes to
pub record Ticked : Type 0 where
  pub machine : Machine
  pub answer : Answer

-- refusals 9 to 13, of task k
unfoldable pub tick_rules : Machine → ℕ → ℕ → List (Rule ℕ)
tick_rules m released finished =
    rule 9 (λ k. ltb m.table.n k && (has_task released k || has_task finished k))
    ∷ rule 10 (λ k. has_task finished k && not (runs m k))
    ∷ rule 11 (λ k. runs m k && eqb (job (passed m) k).ran (C (τ m.table k)) && not (has_task finished k))
    ∷ rule 12 (λ k. has_task released k && ltb (job (passed m) k).age (T (τ m.table k)))
    ∷ rule 13 (λ k. has_task released k && not (idles (finish finished (passed m)) k))
    ∷ []

-- the first rule that is given of some task, with the lowest such task
unfoldable pub first_given : List (Rule ℕ) → Refusal
first_given [] = record { number = 0; row = 0 }
first_given (r ∷ rs) =
    cond (eqb (lowest most_tasks r.given) 0)
    (first_given rs)
    (record { number = r.number; row = lowest most_tasks r.given })

unfoldable pub tick_refusal : Machine → ℕ → ℕ → Refusal
tick_refusal m released finished =
    cond (good_state m) (first_given (tick_rules m released finished)) (record { number = 14; row = 0 })

-- the machine before step 5, and after it
abbrev pub readied : Machine → ℕ → ℕ → Machine
readied m released finished = release released (finish finished (passed m))

abbrev pub moved : Machine → ℕ → ℕ → Machine
moved m released finished = start_all (readied m released finished)

abbrev pub started_set : Machine → Machine → ℕ
started_set before now = tasks_where (λ k. waits before k && runs now k) now.table.n

abbrev pub refused_answer : Refusal → Answer
refused_answer refused = record { refused = refused; finished = 0; late = 0; started = 0 }

abbrev pub accepted : Machine → ℕ → ℕ → Bool
accepted m released finished = eqb (tick_refusal m released finished).number 0

abbrev pub accepted_tick : Machine → ℕ → ℕ → Ticked
accepted_tick m released finished =
    record {
      machine = moved m released finished;
      answer =
          record {
            refused = tick_refusal m released finished;
            finished = finished;
            late = late_set m (finish finished (passed m));
            started = started_set (readied m released finished) (moved m released finished);
          };
    }

abbrev pub refused_tick : Machine → Refusal → Ticked
refused_tick m refused = record { machine = m; answer = refused_answer refused }

unfoldable pub tick : Machine → ℕ → ℕ → Ticked
tick m released finished =
    cond (accepted m released finished) (accepted_tick m released finished)
    (refused_tick m (tick_refusal m released finished))
