-- The five steps of a tick, in the order and the words of document 01. Step 5 is FP_CA, blocking style (section 4.1 of
-- the report).
use Rattle.std.specs.Prelude.{ℕ, zero, suc, ◌+◌, min, Bool, cond, not, ◌&&◌, leb, eqb, set}
use Rattle.maths.specs.Tasks.{lowest, tabulate}
use Rattle.table.specs.declared.Cores.{Cores}
use Rattle.table.specs.declared.Partitions.{Partitions}
use Rattle.table.specs.declared.Task.{Task}
use Rattle.table.specs.Limits.{most_tasks}
use Rattle.table.specs.Tasks.{τ, D, A}
use Rattle.sets.specs.TaskSets.{has_task, tasks_where}
use Rattle.sets.specs.Choice.{choice}
use Rattle.machine.specs.declared.Job.{Job}
use Rattle.machine.specs.declared.Machine.{Machine}
use Rattle.machine.specs.Jobs.{Idle, Waiting, Running, is_running, job, top, idles, waits, waiting, idle_set}
use Rattle.machine.specs.Jobs.{idle_cores, idle_partitions}

-- the job of each task k from 1 to n changed by f k
unfoldable pub for_tasks : (ℕ → Job → Job) → Machine → Machine
for_tasks f m =
    record { table = m.table; jobs = tabulate most_tasks (λ k. cond (leb k m.table.n) (f k (job m k)) (job m k)) }

-- step 1: one unit has passed
abbrev pub older : Task → Job → Job
older τ j =
    record {
      stage = j.stage;
      age = min (j.age + 1) (top τ);
      ran = cond (is_running j.stage) (j.ran + 1) j.ran;
      held = j.held;
    }

abbrev pub passed : Machine → Machine
passed m = for_tasks (λ k. older (τ m.table k)) m

-- step 2: finished jobs become idle and give up core and partitions
abbrev pub ended : Job → Job
ended j = record { stage = Idle; age = j.age; ran = 0; held = 0 }

abbrev pub finish : ℕ → Machine → Machine
finish finished m = for_tasks (λ k j. cond (has_task finished k) (ended j) j) m

-- step 3: the tasks whose job is unfinished in `now` and whose age went from D - 1 in `before` to D
abbrev pub late_set : Machine → Machine → ℕ
late_set before now =
    tasks_where
    (λ k. not (idles now k) && eqb ((job before k).age + 1) (D (τ now.table k))
    && eqb (job now k).age (D (τ now.table k)))
    now.table.n

-- step 4: released tasks become waiting, age 0
abbrev pub awaiting : Job → Job
awaiting j = record { stage = Waiting; age = 0; ran = j.ran; held = j.held }

abbrev pub release : ℕ → Machine → Machine
release released m = for_tasks (λ k j. cond (has_task released k) (awaiting j) j) m

-- step 5: the waiting job of lowest number, or 0
abbrev pub first_waiting : Machine → ℕ
first_waiting m = lowest m.table.n (waits m)

-- what the start of a task asks of the idle cores and of the idle partitions: one core and A partitions
abbrev pub fits_in : Cores → Partitions → Task → Bool
fits_in cores partitions τ = leb 1 cores.0 && leb (A τ) partitions.0

abbrev pub fits : Machine → ℕ → Bool
fits m k = fits_in (idle_cores m) (idle_partitions m) (τ m.table k)

-- the task that step 5 starts next: the waiting job of lowest number, if it fits; if not, or where none waits, 0, and
-- the step ends, even where a later job would fit
abbrev pub pick : Machine → ℕ
pick m = cond (fits m (first_waiting m)) (first_waiting m) 0

-- a job starts, has run 0 ticks, and takes its partitions out of the idle ones
abbrev pub begun : ℕ → Job → Job
begun held j = record { stage = Running; age = j.age; ran = 0; held = held }

abbrev pub start : Machine → ℕ → Machine
start m i =
    record {
      table = m.table;
      jobs = set m.jobs i (begun (choice (idle_set m) (A (τ m.table (suc i)))) (job m (suc i)));
    }

-- the picked task starts and the step goes on; with 0 it ends
abbrev pub start_picked : (Machine → Machine) → Machine → ℕ → Machine
start_picked goOn m zero = m
start_picked goOn m (suc i) = goOn (start m i)

-- while `pick` names a task, it starts
unfoldable pub start_waiting : ℕ → Machine → Machine
start_waiting zero m = m
start_waiting (suc turns) m = start_picked (start_waiting turns) m (pick m)

-- each start leaves one job fewer waiting, so that the step has ended after as many turns as jobs wait
abbrev pub start_all : Machine → Machine
start_all m = start_waiting (waiting m) m
