-- The second pass over the tasks, turn by turn: what each turn is, and the late set.
use Prim.Native.Nat.{ℕ, zero, suc, ◌+◌, ◌≤◌}
use mathlib.Core.Path.{◌≡◌, refl, sym, ◌∙◌, ap}
use mathlib.Core.Bool.{Bool, true, false, cond}
use native.Mathlib.Numerals.{add-one}
use native.Mathlib.Omega.{arith}
use lib.Bits.{bit_or, or_zero_r}
use Rattle.table.specs.declared.Task.{Task}
use Rattle.table.specs.Limits.{most_tasks}
use Rattle.table.specs.Tasks.{τ}
use Rattle.sets.specs.TaskSets.{has_task, task_bit, tasks_where}
use Rattle.sets.proofs.Wheres.{where_none, tasks_or, tasks-out}
use Rattle.machine.specs.declared.Job.{Job}
use Rattle.machine.specs.declared.Machine.{Machine}
use Rattle.ticking.specs.declared.Walk.{Walk}
use Rattle.machine.specs.Jobs.{job}
use Rattle.machine.specs.Code.Readied.{finished_job, readied_job}
use Rattle.ticking.specs.Code.Passes.{is_late, tries, has_room, walk_go, walk_by, walk_begin, walk_with}

-- whatever becomes of a task, the late set is the one handed on
begin_late : (k : ℕ) (task : Task) (j : Job) (late : ℕ) (w : Walk) → (walk_begin k task j late w).late ≡ late
begin_late k task j late w = by (tries j w) (has_room task w)
  where
    by : (a b : Bool)
        → (cond a (cond b (walk_go k task j late w) (walk_by false j late w)) (walk_by w.goes j late w)).late ≡ late
    by true true = refl
    by true false = refl
    by false b = refl

module _ (m : Machine) (released finished : ℕ) (first : Walk) where
  -- after i turns
  unfoldable pub walk_to : ℕ → Walk
  walk_to zero = first
  walk_to (suc i) = walk_with (suc i) (τ m.table (suc i)) (job m (suc i)) released finished (walk_to i)

  pub walk_none : first ≡ walk_to 0
  unfolding walk_to
  walk_none = refl

  pub walk_more : (i : ℕ)
      → walk_with (suc i) (τ m.table (suc i)) (job m (suc i)) released finished (walk_to i) ≡ walk_to (i + 1)
  unfolding walk_to
  walk_more i = rw add-one

  -- step 3
  abbrev pub is_late_task : ℕ → Bool
  is_late_task k = is_late (τ m.table k) (job m k).age (finished_job (τ m.table k) (has_task finished k) (job m k))

  abbrev pub late_after : ℕ → ℕ
  late_after i = bit_or (walk_to i).late (cond (is_late_task (suc i)) (task_bit (suc i)) 0)

  -- steps 1, 2 and 4
  abbrev pub ready_at : ℕ → Job
  ready_at i = readied_job (τ m.table (suc i)) (has_task released (suc i)) (has_task finished (suc i)) (job m (suc i))

  pub walk_turn : (i : ℕ)
      → walk_to (suc i) ≡ walk_begin (suc i) (τ m.table (suc i)) (ready_at i) (late_after i) (walk_to i)
  unfolding walk_to walk_with
  walk_turn i = refl

  pub walk-late : first.late ≡ 0 → (i : ℕ) → i ≤ most_tasks → (walk_to i).late ≡ tasks_where is_late_task i
  walk-late none zero l = rw (← walk_none) (none ∙ sym (where_none (λ j. is_late_task (suc j))))
  walk-late none (suc i) l =
      ap (λ (x : Walk). x.late) (walk_turn i)
      ∙ (begin_late (suc i) (τ m.table (suc i)) (ready_at i) (late_after i) (walk_to i)
      ∙ rw (walk-late none i (omega arith)) (by (is_late_task (suc i)) refl))
    where
      by : (b : Bool) → is_late_task (suc i) ≡ b
          → bit_or (tasks_where is_late_task i) (cond b (task_bit (suc i)) 0) ≡ tasks_where is_late_task (suc i)
      by true e = rw (← add-one i) (tasks_or is_late_task i l (rw add-one e))
      by false e = or_zero_r (tasks_where is_late_task i) ∙ (tasks-out is_late_task i (rw add-one e) ∙ rw add-one)
