-- The conditions of a state part by part, for what is proved of good states. StateTest goes from the test of refusal 14
-- to them and back.
use Prim.Native.Nat.{ℕ, suc, ◌-◌, ◌^◌, ◌<◌, ◌≤◌}
use mathlib.Core.Path.{◌≡◌, refl, sym, ◌∙◌, ap}
use mathlib.Core.Bool.{Bool, true, false, ◌&&◌, true≢false}
use borrow.Author.Tests.{eqb-true}
use lib.Pow.{pow_pos}
use Rattle.table.specs.declared.Task.{Task}
use Rattle.table.specs.Good.{Good}
use Rattle.table.specs.Limits.{most_tasks, most_partitions}
use Rattle.table.specs.Tasks.{M, P, τ, T, C, A, no_task}
use Rattle.table.specs.Refused.{refusal}
use Rattle.sets.specs.Sets.{size}
use Rattle.sets.specs.Families.{Apart}
use Rattle.sets.proofs.Unions.{union_lt}
use Rattle.machine.specs.declared.Stage.{Stage}
use Rattle.machine.specs.declared.Job.{Job}
use Rattle.machine.specs.declared.Machine.{Machine}
use Rattle.machine.specs.Jobs.{Idle, Waiting, Running, is_idle, is_waiting, is_running, no_job, job, running, busy}

-- a stage is the number that its test says, and no other
pub idle-is : (s : Stage) → is_idle s ≡ true → s ≡ Idle
idle-is s e = λ i. record { 0 = eqb-true s.0 0 e i }

pub waiting-is : (s : Stage) → is_waiting s ≡ true → s ≡ Waiting
waiting-is s e = λ i. record { 0 = eqb-true s.0 1 e i }

pub running-is : (s : Stage) → is_running s ≡ true → s ≡ Running
running-is s e = λ i. record { 0 = eqb-true s.0 2 e i }

pub idle-not-runs : (s : Stage) → is_idle s ≡ true → is_running s ≡ false
idle-not-runs s e = ap is_running (idle-is s e)

pub waits-not-runs : (s : Stage) → is_waiting s ≡ true → is_running s ≡ false
waits-not-runs s e = ap is_running (waiting-is s e)

pub not-both : (s : Stage) → is_waiting s && is_running s ≡ false
not-both s = by (is_waiting s) refl
  where
    by : (b : Bool) → is_waiting s ≡ b → b && is_running s ≡ false
    by true e = waits-not-runs s e
    by false e = refl

-- a stage that is one of the three
abbrev pub Staged : Stage → Type 0
Staged s = is_idle s ≡ false → is_waiting s ≡ false → is_running s ≡ true

-- a job that is not running
pub record Rests (j : Job) : Type 0 where
  pub none : j.held ≡ 0
  pub unrun : j.ran ≡ 0

pub record Idles (j : Job) : Type 0 where
  pub rests : Rests j
  pub old : 1 ≤ j.age

-- a job that runs, of task τ on a cache of p partitions
pub record Runs (p : ℕ) (τ : Task) (j : Job) : Type 0 where
  pub short : j.ran ≤ C τ - 1
  pub younger : j.ran ≤ j.age
  pub count : size most_partitions j.held ≡ A τ
  pub cache : j.held < 2 ^ p

pub data ByStage (p : ℕ) (τ : Task) (j : Job) (s : Stage) : Type 0 where
  is-idle : s ≡ Idle → Idles j → ByStage p τ j s
  is-waiting : s ≡ Waiting → Rests j → ByStage p τ j s
  is-running : s ≡ Running → Runs p τ j → ByStage p τ j s

pub record GoodJob (p : ℕ) (τ : Task) (j : Job) : Type 0 where
  pub age : j.age ≤ T τ
  pub stage : ByStage p τ j j.stage

pub record GoodState (m : Machine) : Type 0 where
  pub unrefused : (refusal m.table).number ≡ 0
  pub table : Good m.table
  pub no_tasks : (i : ℕ) → m.table.n ≤ i → i < most_tasks → τ m.table (suc i) ≡ no_task
  pub no_jobs : (i : ℕ) → m.table.n ≤ i → i < most_tasks → job m (suc i) ≡ no_job
  pub each : (i : ℕ) → i < m.table.n → GoodJob (P m.table) (τ m.table (suc i)) (job m (suc i))
  pub apart : Apart m.table.n (λ i. (job m (suc i)).held)
  pub cores : running m ≤ M m.table

-- what a good job's stage says of it
module _ {p : ℕ} {τ : Task} {j : Job} (g : GoodJob p τ j) where
  pub when_idle : is_idle j.stage ≡ true → Idles j
  when_idle e = by g.stage
    where
      by : ByStage p τ j j.stage → Idles j
      by (is-idle q b) = b
      by (is-waiting q b) = absurd (true≢false (sym e ∙ ap is_idle q))
      by (is-running q b) = absurd (true≢false (sym e ∙ ap is_idle q))

  pub when_running : is_running j.stage ≡ true → Runs p τ j
  when_running e = by g.stage
    where
      by : ByStage p τ j j.stage → Runs p τ j
      by (is-idle q b) = absurd (true≢false (sym e ∙ ap is_running q))
      by (is-waiting q b) = absurd (true≢false (sym e ∙ ap is_running q))
      by (is-running q b) = b

  pub when_not_running : is_running j.stage ≡ false → Rests j
  when_not_running e = by g.stage
    where
      by : ByStage p τ j j.stage → Rests j
      by (is-idle q b) = b.rests
      by (is-waiting q b) = b
      by (is-running q b) = absurd (true≢false (sym (ap is_running q) ∙ e))

  pub when_waiting : is_waiting j.stage ≡ true → Rests j
  when_waiting e = when_not_running (waits-not-runs j.stage e)

  pub when_good : Staged j.stage
  when_good = by g.stage
    where
      by : ByStage p τ j j.stage → Staged j.stage
      by (is-idle q b) i w = absurd (true≢false (sym (ap is_idle q) ∙ i))
      by (is-waiting q b) i w = absurd (true≢false (sym (ap is_waiting q) ∙ w))
      by (is-running q b) i w = ap is_running q

  pub held_lt : j.held < 2 ^ p
  held_lt = by g.stage
    where
      by : ByStage p τ j j.stage → j.held < 2 ^ p
      by (is-idle q b) = rw b.rests.none (pow_pos p)
      by (is-waiting q b) = rw b.none (pow_pos p)
      by (is-running q b) = b.cache

pub busy_lt : {m : Machine} → GoodState m → busy m < 2 ^ P m.table
unfolding busy
busy_lt {m} g = union_lt (λ i. (job m (suc i)).held) (P m.table) m.table.n (λ i l. held_lt (g.each i l))
