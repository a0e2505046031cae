-- What the code of a tick does with one task, in its first pass, which judges, and in its second, which moves. No
-- statement of a public function rests on these definitions: they cut the proof that the passes come to `tick` into the
-- parts that the source has.
use Rattle.std.specs.Prelude.{ℕ, zero, suc, ◌+◌, ◌-◌, ◌<◌, ◌≤◌, min, Bool, true, false, cond, not, ◌&&◌, ◌||◌}
use Rattle.std.specs.Prelude.{ltb, leb, eqb, Option, Some, None, Result, Ok, Err}
use Rattle.std.specs.Int.Bits.{bit_or}
use Rattle.maths.specs.Tasks.{lowest, every}
use Rattle.table.specs.declared.Cores.{Cores}
use Rattle.table.specs.declared.Partitions.{Partitions}
use Rattle.table.specs.declared.Task.{Task}
use Rattle.table.specs.declared.Platform.{Platform}
use Rattle.table.specs.declared.Reason.{Reason}
use Rattle.table.specs.declared.Reason.TheVariants.{State}
use Rattle.table.specs.declared.Refusal.{Refusal}
use Rattle.table.specs.Limits.{most_tasks, most_partitions, longest_period}
use Rattle.table.specs.Tasks.{τ, D, T, C, A, no_task}
use Rattle.table.specs.Reasons.{answered}
use Rattle.table.specs.Refused.{row_refusal}
use Rattle.sets.specs.Sets.{partitions_in, below, without, disjoint}
use Rattle.sets.specs.TaskSets.{has_task, task_bit}
use Rattle.sets.specs.Choice.{choice}
use Rattle.machine.specs.declared.Job.{Job}
use Rattle.machine.specs.declared.Machine.{Machine}
use Rattle.machine.specs.declared.Report.{Report}
use Rattle.ticking.specs.declared.Turn.{Turn}
use Rattle.ticking.specs.declared.Busy.{Busy}
use Rattle.ticking.specs.declared.Look.{Look}
use Rattle.ticking.specs.declared.Past.{Past}
use Rattle.ticking.specs.declared.Walk.{Walk}
use Rattle.machine.specs.Jobs.{is_idle, is_waiting, is_running, no_job, job, running, busy}
use Rattle.machine.specs.Conditions.{is_no_task, is_no_job, good_job}
use Rattle.machine.specs.Steps.{older, fits_in, begun}
use Rattle.machine.specs.Code.Readied.{finished_job, readied_job}
use Rattle.machine.specs.Tick.{tick_refusal, readied}

-- the turn after i others
abbrev pub turn_of : Machine → ℕ → Turn
turn_of m i = record { k = suc i; task = τ m.table (suc i); job = job m (suc i) }

-- what a good row and its good job allow: ages and runs count on, and a deadline is within the period
abbrev pub InPeriod : Task → Job → Type 0
InPeriod τ j = (j.age ≤ longest_period) × (j.ran ≤ longest_period) × (D τ ≤ T τ)

-- a task that idles and is not in the set x
abbrev pub is_left : Job → ℕ → ℕ → Bool
is_left j x k = is_idle j.stage && not (has_task x k)

-- refusals 10 to 13 of one task
abbrev pub given10 : Job → Bool → Bool
given10 j finished = finished && not (is_running j.stage)

abbrev pub given11 : Task → Job → Bool → Bool
given11 τ j finished = is_running j.stage && eqb (older τ j).ran (C τ) && not finished

abbrev pub given12 : Task → Job → Bool → Bool
given12 τ j released = released && ltb (older τ j).age (T τ)

abbrev pub given13 : Task → Job → Bool → Bool → Bool
given13 τ j released finished = released && not (is_idle (finished_job τ finished j).stage)

-- the first of them that is given, or 0
abbrev pub given_number : Task → Job → Bool → Bool → ℕ
given_number τ j released finished =
    cond (given10 j finished) 10
    (cond (given11 τ j finished) 11
    (cond (given12 τ j released) 12
    (cond (given13 τ j released finished) 13 0)))

abbrev pub refuses : ℕ → ℕ → Refusal
refuses number row = record { number = number; row = row }

-- refusal `number` of task k, if it is not 0, after what was found of the tasks before: the lower number goes first
abbrev pub first_of : Result Unit Refusal → ℕ → ℕ → Result Unit Refusal
first_of (Ok _) number k = cond (eqb number 0) (Ok tt) (Err (refuses number k))
first_of (Err r) number k =
    cond (eqb number 0) (Err r) (cond (leb r.number number) (Err r) (Err (refuses number k)))

-- what running jobs have: that of none, and of one more, which has a core if it runs
abbrev pub busy_none : Busy
busy_none = record { cores = record { 0 = 0 }; held = 0 }

abbrev pub cores_and : Cores → Job → Cores
cores_and cores j = record { 0 = cores.0 + cond (is_running j.stage) 1 0 }

abbrev pub busy_and : Busy → Job → Busy
busy_and b j = record { cores = cores_and b.cores j; held = bit_or b.held j.held }

-- the first pass: what it starts from, and one task of the table more; a state that is not good is not looked at
-- further
abbrev pub look_start : Look
look_start = record { refused = Ok tt; running = busy_none; stays = busy_none }

-- found of fewer tasks than a table may have, so that one more can be counted
abbrev pub Fewer : Look → Type 0
Fewer l = (l.running.cores.0 < most_tasks) × (l.stays.cores.0 < most_tasks)

abbrev pub admits : ℕ → Task → Job → Look → Bool
admits p τ j l = eqb (row_refusal p τ) 0 && good_job p τ j && disjoint l.running.held j.held

abbrev pub look_more : Turn → Report → Look → Look
look_more t report l =
    let released = has_task report.released t.k in
    let finished = has_task report.finished t.k in
    record {
      refused = first_of l.refused (given_number t.task t.job released finished) t.k;
      running = busy_and l.running t.job;
      stays = cond finished l.stays (busy_and l.stays t.job);
    }

unfoldable pub look_with : ℕ → Turn → Report → Look → Result Look Reason
look_with p t report l = cond (admits p t.task t.job l) (Ok (look_more t report l)) (Err State)

-- the entries past n, put together: all of them are zero exactly where this is
abbrev pub past_start : Past
past_start = record { row = no_task; job = no_job }

abbrev pub or_task : Task → Task → Task
or_task a b =
    record {
      d = bit_or (D a) (D b);
      t = bit_or (T a) (T b);
      c = bit_or (C a) (C b);
      a = record { 0 = bit_or (A a) (A b) };
    }

abbrev pub or_job : Job → Job → Job
or_job a b =
    record {
      stage = record { 0 = bit_or a.stage.0 b.stage.0 };
      age = bit_or a.age b.age;
      ran = bit_or a.ran b.ran;
      held = bit_or a.held b.held;
    }

abbrev pub past_with : Task → Job → Past → Past
past_with τ j p = record { row = or_task p.row τ; job = or_job p.job j }

abbrev pub past_none : Past → Bool
past_none p = is_no_task p.row && is_no_job p.job

-- entry k is zero; and all entries past n up to k are
abbrev pub zero_entry : Machine → ℕ → Bool
zero_entry m k = is_no_task (τ m.table k) && is_no_job (job m k)

abbrev pub zero_to : Machine → ℕ → Bool
zero_to m k = every k (λ j. leb j m.table.n || zero_entry m j)

-- the lowest task above n in the set, or 0
abbrev pub first_above : ℕ → ℕ → ℕ
first_above x n = lowest most_tasks (λ k. ltb n k && has_task x k)

abbrev pub task_or_none : ℕ → Option ℕ
task_or_none zero = None
task_or_none (suc i) = Some (suc i)

-- what the running jobs of a machine have
abbrev pub busy_in : Machine → Busy
busy_in m = record { cores = record { 0 = running m }; held = busy m }

-- what the first pass comes to: the refusal of the tick, or what those jobs have that go on running after step 2, so
-- that they run before step 5
unfoldable pub judged : Machine → ℕ → ℕ → Result Busy Refusal
judged m released finished = answered (tick_refusal m released finished) (busy_in (readied m released finished))

-- the second pass: what it starts from, and one task more
abbrev pub cores_less : Cores → Cores → Cores
cores_less cores busy = record { 0 = cores.0 - busy.0 }

abbrev pub partitions_less : Partitions → ℕ → ℕ
partitions_less partitions busy = without (below (min partitions.0 most_partitions)) busy

abbrev pub walk_start : Platform → Busy → Walk
walk_start platform b =
    record {
      job = no_job;
      goes = true;
      cores = cores_less platform.cores b.cores;
      idle = partitions_less platform.partitions b.held;
      partitions = partitions_in (partitions_less platform.partitions b.held);
      late = 0;
      started = 0;
    }

abbrev pub is_late : Task → ℕ → Job → Bool
is_late τ before j = not (is_idle j.stage) && eqb (before + 1) (D τ) && eqb j.age (D τ)

-- step 5 goes on, and the task waits
abbrev pub tries : Job → Walk → Bool
tries j w = w.goes && is_waiting j.stage

abbrev pub has_room : Task → Walk → Bool
has_room τ w = fits_in w.cores w.partitions τ

-- the task of job j starts, or step 5 ends with it, or it is not its turn
abbrev pub walk_go : ℕ → Task → Job → ℕ → Walk → Walk
walk_go k τ j late w =
    record {
      job = begun (choice w.idle (A τ)) j;
      goes = w.goes;
      cores = record { 0 = w.cores.0 - 1 };
      idle = without w.idle (choice w.idle (A τ));
      partitions = record { 0 = w.partitions.0 - A τ };
      late = late;
      started = bit_or w.started (task_bit k);
    }

abbrev pub walk_by : Bool → Job → ℕ → Walk → Walk
walk_by goes j late w =
    record {
      job = j;
      goes = goes;
      cores = w.cores;
      idle = w.idle;
      partitions = w.partitions;
      late = late;
      started = w.started;
    }

abbrev pub walk_begin : ℕ → Task → Job → ℕ → Walk → Walk
walk_begin k τ j late w =
    cond (tries j w) (cond (has_room τ w) (walk_go k τ j late w) (walk_by false j late w)) (walk_by w.goes j late w)

-- the task alone if it is late, else the empty set
abbrev pub late_bit : ℕ → Task → ℕ → Job → ℕ
late_bit k τ before j = cond (is_late τ before j) (task_bit k) 0

abbrev pub late_with : ℕ → Task → ℕ → Job → ℕ → ℕ
late_with k τ before j late = bit_or late (late_bit k τ before j)

unfoldable pub walk_with : ℕ → Task → Job → ℕ → ℕ → Walk → Walk
walk_with k τ j released finished w =
    walk_begin k τ (readied_job τ (has_task released k) (has_task finished k) j)
    (late_with k τ j.age (finished_job τ (has_task finished k) j) w.late)
    w
