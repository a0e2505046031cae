-- A table rehearsed (wish 1): all tasks released at tick 0 and then each period, every job running its full C, for the
-- least common multiple L of the periods. The ticks are 0 to L, and nothing is released at L. It ends at the first tick
-- at which some job becomes late, judged before that tick's releases: with D = T that is the tick of its next release.
use Rattle.std.specs.Prelude.{ℕ, zero, suc, ◌+◌, ◌%◌, Bool, true, false, cond, ◌&&◌, List, ltb, eqb}
use Rattle.maths.specs.Tasks.{lowest, tabulate, entry}
use Rattle.table.specs.declared.Refusal.{Refusal}
use Rattle.table.specs.declared.Table.{Table}
use Rattle.table.specs.Limits.{most_tasks}
use Rattle.table.specs.Tasks.{τ, T, C}
use Rattle.table.specs.Refused.{no_refusal, refusal, unrefused}
use Rattle.sets.specs.TaskSets.{has_task, tasks_where}
use Rattle.machine.specs.declared.Machine.{Machine}
use Rattle.machine.specs.Jobs.{job, runs}
use Rattle.machine.specs.Fresh.{fresh}
use Rattle.machine.specs.Steps.{passed, finish, late_set}
use Rattle.machine.specs.Tick.{Ticked, tick}
use Rattle.rehearsal.specs.declared.Rehearsal.{Rehearsal}
use Rattle.rehearsal.specs.Multiple.{multiple, most_multiple}

-- released at tick i: each task whose period divides i, and none at L
abbrev pub is_due : (L : ℕ) → Table → (i : ℕ) → ℕ → Bool
is_due L t i k = ltb i L && eqb (i % T (τ t k)) 0

abbrev pub released_at : (L : ℕ) → Table → (i : ℕ) → ℕ
released_at L t i = tasks_where (is_due L t i) t.n

-- finished: each running job that, this tick counted, has run its full C
abbrev pub full : Machine → ℕ
full m = tasks_where (λ k. runs m k && eqb (job (passed m) k).ran (C (τ m.table k))) m.table.n

-- late: step 3 of a tick, before step 4 releases
abbrev pub late_now : Machine → ℕ
late_now m = late_set m (finish (full m) (passed m))

-- tick i, on the machine before it
abbrev pub bench_tick : (L i : ℕ) → Machine → Ticked
bench_tick L i m = tick m (released_at L m.table i) (full m)

-- how many jobs each task started, with those of one set more
abbrev pub and_started : List ℕ → ℕ → List ℕ
and_started started s = tabulate most_tasks (λ k. entry started k 0 + cond (has_task s k) 1 0)

abbrev pub none_started : List ℕ
none_started = tabulate most_tasks (λ k. 0)

-- the tick at which some job is late and the lowest such task, or 0 and 0; and the jobs that each task started before
pub record Outcome : Type 0 where
  pub tick : ℕ
  pub task : ℕ
  pub started : List ℕ

-- it ends at tick i, at which some job is late
abbrev pub ended_at : (i : ℕ) → Machine → List ℕ → Outcome
ended_at i m started = record { tick = i; task = lowest m.table.n (has_task (late_now m)); started = started }

-- from tick i on, where so many ticks are left
unfoldable pub from : (L left i : ℕ) → Machine → List ℕ → Outcome
from L zero i m started = record { tick = 0; task = 0; started = started }
from L (suc left) i m started =
    elim (eqb (late_now m) 0) [
      | true ↦ let r : Ticked = bench_tick L i m in
          from L left (suc i) r.machine (and_started started r.answer.started)
      | false ↦ ended_at i m started
    ]

-- ticks 0 to L of the fresh machine
unfoldable pub rehearsal : Table → Outcome
rehearsal t = from (multiple t) (suc (multiple t)) 0 (fresh t) none_started

-- the table's own refusal, and after it 17
abbrev pub bench_refusal : Table → Refusal
bench_refusal t =
    cond (unrefused t)
    (cond (ltb most_multiple (multiple t)) (record { number = 17; row = 0 }) no_refusal)
    (refusal t)

-- what `rehearse` answers
unfoldable pub rehearsed : Table → Rehearsal
rehearsed t =
    elim (eqb (bench_refusal t).number 0) [
      | true ↦ let r : Outcome = rehearsal t in
          record { refused = bench_refusal t; tick = r.tick; task = r.task; started = r.started }
      | false ↦ record { refused = bench_refusal t; tick = 0; task = 0; started = none_started }
    ]
