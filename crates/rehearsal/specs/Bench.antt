-- What is proved of every rehearsal of a table that is not refused (wish 1): how it ends, that no release is ever due
-- while a job is unfinished, and that without a late job each task started L / T jobs. And an admitted table is never
-- late on the bench. The converse does not hold: row P2 of `cases` is not admitted and rehearses well.
use Rattle.std.specs.Prelude.{◌≡◌, true, List, ◌≢◌, ℕ, zero, suc, ◌/◌, ◌≤◌, ◌<◌, length}
use Rattle.maths.specs.Tasks.{Each, lowest, entry}
use Rattle.table.specs.declared.Table.{Table}
use Rattle.table.specs.Limits.{most_tasks}
use Rattle.table.specs.Tasks.{τ, T}
use Rattle.table.specs.Refused.{refusal}
use Rattle.sets.specs.TaskSets.{has_task}
use Rattle.machine.specs.declared.Machine.{Machine}
use Rattle.machine.specs.Tick.{Ticked}
use Rattle.machine.specs.Jobs.{idles}
use Rattle.machine.specs.Fresh.{fresh}
use Rattle.promise.specs.Promise.{Admitted}
use Rattle.rehearsal.specs.Multiple.{multiple, IsLeast}
use Rattle.rehearsal.specs.Rehearsal.{late_now, bench_tick, none_started, and_started, rehearsal, rehearsed}

-- The machine before tick i, were the rehearsal to go on to it; and what tick i makes of it.
unfoldable pub bench_at : Table → ℕ → Machine
bench_at t zero = fresh t
bench_at t (suc i) = (bench_tick (multiple t) i (bench_at t i)).machine

abbrev pub tick_at : Table → ℕ → Ticked
tick_at t i = bench_tick (multiple t) i (bench_at t i)

-- how many jobs each task started at ticks 0 to i - 1
unfoldable pub started_before : Table → ℕ → List ℕ
started_before t zero = none_started
started_before t (suc i) = and_started (started_before t i) (tick_at t i).answer.started

-- nobody is late at ticks 0 to i - 1
abbrev pub CalmBefore : Table → ℕ → Type 0
CalmBefore t i = (j : ℕ) → j < i → late_now (bench_at t j) ≡ 0

-- A table that is not refused. An array of the board's has its 32 entries; a list in a definition need not.
pub record Unrefused (t : Table) : Type 0 where
  pub whole : length t.rows ≡ most_tasks
  pub unrefused : (refusal t).number ≡ 0

-- it went to its end: nobody is late at ticks 0 to L, and the starts of all these ticks count
pub record EndsCalm (t : Table) : Type 0 where
  pub calm : CalmBefore t (suc (multiple t))
  pub tick : (rehearsal t).tick ≡ 0
  pub started : (rehearsal t).started ≡ started_before t (suc (multiple t))

-- it ended early or at L: its tick is the first at which somebody is late, its task the lowest of these, and the starts
-- of the ticks before count
pub record EndsLate (t : Table) : Type 0 where
  pub within : (rehearsal t).tick ≤ multiple t
  pub calm : CalmBefore t (rehearsal t).tick
  pub task : (rehearsal t).task ≡ lowest t.n (has_task (late_now (bench_at t (rehearsal t).tick)))
  pub started : (rehearsal t).started ≡ started_before t (rehearsal t).tick

-- by whether a task is named
pub record EndsRightly (t : Table) : Type 0 where
  pub none : (rehearsal t).task ≡ 0 → EndsCalm t
  pub some : (rehearsal t).task ≢ 0 → EndsLate t

-- No tick at which nobody is late is refused, up to the first at which somebody is: under 13 it would be, were a
-- release due while a job is unfinished.
abbrev pub EachAccepted : Table → Type 0
EachAccepted t = (i : ℕ) → i ≤ multiple t → CalmBefore t (suc i) → (tick_at t i).answer.refused.number ≡ 0

-- Where nobody is late, each task started L / T jobs, and none of them is unfinished at L.
abbrev pub WholePeriods : Table → Type 0
WholePeriods t = (rehearsal t).task ≡ 0 → Each t.n
    (λ k. (entry (rehearsal t).started k 0 ≡ multiple t / T (τ t k)) × (idles (bench_at t (suc (multiple t))) k ≡ true))

pub record Bench (t : Table) : Type 0 where
  pub least : IsLeast t (multiple t)
  pub ends : EndsRightly t
  pub accepted : EachAccepted t
  pub periods : WholePeriods t

abbrev pub EveryBench : Type 0
EveryBench = (t : Table) → Unrefused t → Bench t

-- An admitted table has no late job, whatever its L: `rehearse` names none, and refuses it under 17 or not at all.
pub record AdmittedBench (t : Table) : Type 0 where
  pub never : (rehearsal t).task ≡ 0
  pub answer : ((rehearsed t).tick ≡ 0) × ((rehearsed t).task ≡ 0)
  pub refused : (rehearsed t).refused.number ≢ 0 → (rehearsed t).refused.number ≡ 17

abbrev pub NeverLate : Type 0
NeverLate = (t : Table) → Admitted t → AdmittedBench t
