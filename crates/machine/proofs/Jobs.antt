-- The job of each task after the parts of a tick: of `for_tasks`, of steps 1, 2 and 4 by it, and of a start.
use Prim.Native.Nat.{ℕ, zero, suc, ◌<◌, ◌≤◌}
use mathlib.Core.Path.{◌≡◌, refl, sym, ◌∙◌, ap}
use mathlib.Core.Bool.{cond}
use mathlib.Core.List.{List}
use mathlib.Core.Logic.{◌≢◌}
use native.Mathlib.Omega.{arith}
use native.Mathlib.Decide.{dec_le}
use borrow.Author.Tests.{le-leb, lt-leb}
use lib.Dec.{leb}
use lib.ListN.{length}
use lib.Seq.{get_or-set_same, get_or-set_other, ext_get_or}
use Rattle.maths.proofs.Tasks.{length-tabulate, get_d_tabulate}
use Rattle.table.specs.declared.Table.{Table}
use Rattle.table.specs.Limits.{most_tasks}
use Rattle.table.specs.Tasks.{τ, A}
use Rattle.sets.specs.TaskSets.{has_task}
use Rattle.sets.specs.Choice.{choice}
use Rattle.machine.specs.declared.Job.{Job}
use Rattle.machine.specs.declared.Machine.{Machine}
use Rattle.machine.specs.Jobs.{no_job, job, idle_set}
use Rattle.machine.specs.Steps.{for_tasks, older, passed, ended, finish, awaiting, release, begun, start}
pub use Rattle.machine.specs.Code.Readied.{finished_job, readied_job}
use Rattle.machine.specs.Tick.{readied}

abbrev pub machine_of : Table → List Job → Machine
machine_of t js = record { table = t; jobs = js }

-- two machines with one table and the same jobs are one
pub same-machine : (a b : Machine) → a.table ≡ b.table → length a.jobs ≡ most_tasks → length b.jobs ≡ most_tasks
    → ((i : ℕ) → i < most_tasks → job a (suc i) ≡ job b (suc i)) → a ≡ b
same-machine a b t la lb h =
    let js : a.jobs ≡ b.jobs = ext_get_or no_job a.jobs b.jobs (la ∙ sym lb) (λ i l. h i (omega (arith, la))) in
    ap (λ (z : Table). machine_of z a.jobs) t ∙ ap (λ (z : List Job). machine_of b.table z) js

module _ (f : ℕ → Job → Job) (m : Machine) where
  pub for_table : (for_tasks f m).table ≡ m.table
  unfolding for_tasks
  for_table = refl

  pub for_length : length (for_tasks f m).jobs ≡ most_tasks
  unfolding for_tasks
  for_length = length-tabulate _ most_tasks

  for_job : (i : ℕ) → i < most_tasks
      → job (for_tasks f m) (suc i) ≡ cond (leb (suc i) m.table.n) (f (suc i) (job m (suc i))) (job m (suc i))
  unfolding for_tasks
  for_job i l = get_d_tabulate _ most_tasks i no_job l

  -- of a task of the table
  pub for_task : (k : ℕ) → 1 ≤ k → k ≤ m.table.n → k ≤ most_tasks → job (for_tasks f m) k ≡ f k (job m k)
  for_task zero l n h = absurd (omega arith)
  for_task (suc i) l n h = for_job i h ∙ rw (le-leb (suc i) m.table.n n)

  -- and past it
  pub for_past : (k : ℕ) → m.table.n < k → k ≤ most_tasks → job (for_tasks f m) k ≡ job m k
  for_past zero n h = absurd (omega arith)
  for_past (suc i) n h = for_job i h ∙ rw (lt-leb (suc i) m.table.n n)

-- one pass after another is one pass
pub for_for : (f g : ℕ → Job → Job) (m : Machine) → for_tasks f (for_tasks g m) ≡ for_tasks (λ k j. f k (g k j)) m
for_for f g m =
    same-machine (for_tasks f (for_tasks g m)) (for_tasks (λ k j. f k (g k j)) m)
    (for_table f (for_tasks g m) ∙ (for_table g m ∙ sym (for_table (λ k j. f k (g k j)) m)))
    (for_length f (for_tasks g m))
    (for_length (λ k j. f k (g k j)) m)
    (λ i l. by i l (dec_le (suc i) m.table.n))
  where
    by : (i : ℕ) → i < most_tasks → Dec (suc i ≤ m.table.n)
        → job (for_tasks f (for_tasks g m)) (suc i) ≡ job (for_tasks (λ k j. f k (g k j)) m) (suc i)
    by i l (yes n) =
        for_task f (for_tasks g m) (suc i) (omega arith) (rw (for_table g m) n) l
        ∙ (ap (f (suc i)) (for_task g m (suc i) (omega arith) n l)
        ∙ sym (for_task (λ k j. f k (g k j)) m (suc i) (omega arith) n l))
    by i l (no n) =
        for_past f (for_tasks g m) (suc i) (rw (for_table g m) (omega arith)) l
        ∙ (for_past g m (suc i) (omega arith) l ∙ sym (for_past (λ k j. f k (g k j)) m (suc i) (omega arith) l))

-- one pass for steps 1 and 2, and one for steps 1, 2 and 4
pub finished_pass : (m : Machine) (finished : ℕ)
    → finish finished (passed m) ≡ for_tasks (λ k. finished_job (τ m.table k) (has_task finished k)) m
finished_pass m finished = for_for (λ k j. cond (has_task finished k) (ended j) j) (λ k. older (τ m.table k)) m

pub readied_pass : (m : Machine) (released finished : ℕ)
    → readied m released finished
    ≡ for_tasks (λ k. readied_job (τ m.table k) (has_task released k) (has_task finished k)) m
readied_pass m released finished =
    ap (release released) (finished_pass m finished)
    ∙ for_for (λ k j. cond (has_task released k) (awaiting j) j)
    (λ k. finished_job (τ m.table k) (has_task finished k)) m

module _ (m : Machine) (k : ℕ) (one : 1 ≤ k) (in_n : k ≤ m.table.n) (few : k ≤ most_tasks) where
  pub passed-job : job (passed m) k ≡ older (τ m.table k) (job m k)
  passed-job = for_task (λ k. older (τ m.table k)) m k one in_n few

  pub finished-job : (finished : ℕ)
      → job (finish finished (passed m)) k ≡ finished_job (τ m.table k) (has_task finished k) (job m k)
  finished-job finished =
      ap (λ (z : Machine). job z k) (finished_pass m finished)
      ∙ for_task (λ k. finished_job (τ m.table k) (has_task finished k)) m k one in_n few

  pub readied-job : (released finished : ℕ)
      → job (readied m released finished) k
      ≡ readied_job (τ m.table k) (has_task released k) (has_task finished k) (job m k)
  readied-job released finished =
      ap (λ (z : Machine). job z k) (readied_pass m released finished)
      ∙ for_task (λ k. readied_job (τ m.table k) (has_task released k) (has_task finished k)) m k one in_n few

module _ (m : Machine) (released finished : ℕ) where
  pub passed-table : (passed m).table ≡ m.table
  passed-table = for_table (λ k. older (τ m.table k)) m

  pub finished-table : (finish finished (passed m)).table ≡ m.table
  finished-table = for_table (λ k j. cond (has_task finished k) (ended j) j) (passed m) ∙ passed-table

  pub readied-table : (readied m released finished).table ≡ m.table
  readied-table =
      for_table (λ k j. cond (has_task released k) (awaiting j) j) (finish finished (passed m)) ∙ finished-table

-- a start changes one job
module _ (m : Machine) (i : ℕ) where
  pub start-same : i < length m.jobs
      → job (start m i) (suc i) ≡ begun (choice (idle_set m) (A (τ m.table (suc i)))) (job m (suc i))
  start-same l = get_or-set_same m.jobs i _ no_job l

  pub start-other : (j : ℕ) → j ≢ i → job (start m i) (suc j) ≡ job m (suc j)
  start-other j h = get_or-set_other m.jobs i j _ no_job h
