-- A task that idles and is in neither set: the first pass goes on with what it found before, and the second changes the
-- task's age only.
use Prim.Native.Nat.{ℕ, ◌+◌}
use mathlib.Core.Path.{◌≡◌, refl, sym, ◌∙◌}
use mathlib.Core.Bool.{Bool, true, false, cond, and-false}
use native.Mathlib.Omega.{arith}
use borrow.Author.Tests.{not-true}
use lib.Bits.{bit_or, or_zero_r}
use Rattle.std.specs.Prelude.{Result, Ok, Err}
use Rattle.maths.proofs.Tests.{both}
use Rattle.table.specs.declared.Cores.{Cores}
use Rattle.table.specs.declared.Task.{Task}
use Rattle.table.specs.declared.Refusal.{Refusal}
use Rattle.sets.specs.TaskSets.{has_task}
use Rattle.sets.proofs.Wheres.{task_or}
use Rattle.machine.specs.declared.Job.{Job}
use Rattle.machine.specs.declared.Report.{Report}
use Rattle.ticking.specs.declared.Turn.{Turn}
use Rattle.ticking.specs.declared.Busy.{Busy}
use Rattle.ticking.specs.declared.Look.{Look}
use Rattle.ticking.specs.declared.Walk.{Walk}
use Rattle.machine.specs.Jobs.{Idle, is_idle, is_running}
use Rattle.machine.specs.Steps.{older}
use Rattle.ticking.specs.Code.Passes.{is_left, given_number, first_of, cores_and, busy_and, look_more, walk_by}
use Rattle.ticking.specs.Code.Passes.{walk_with}
use Rattle.machine.proofs.StateParts.{idle-is, idle-not-runs}
use Rattle.ticking.proofs.TickRules.{neither}

idle-more : (x : Cores) → x ≡ record { 0 = x.0 + 0 }
idle-more x = let e : x.0 ≡ x.0 + 0 = omega arith in λ i. record { 0 = e i }

-- a job that does not run and holds nothing counts for nothing
pub busy-still : (b : Busy) (j : Job) → is_running j.stage ≡ false → j.held ≡ 0 → b ≡ busy_and b j
busy-still b j still none =
    let held : b.held ≡ bit_or b.held j.held = rw none (sym (or_zero_r b.held)) in
    let cores : b.cores ≡ cores_and b.cores j = rw still (idle-more b.cores) in
    λ i. record { cores = cores i; held = held i }

same_either : {X : Type 0} (b : Bool) (x y : X) → x ≡ y → x ≡ cond b x y
same_either true x y e = refl
same_either false x y e = e

pub look-still : (t : Turn) (report : Report) (l : Look) → is_running t.job.stage ≡ false → t.job.held ≡ 0
    → (refused : Result Unit Refusal)
    → refused ≡ first_of l.refused (given_number t.task t.job (has_task report.released t.k)
    (has_task report.finished t.k)) t.k
    → record { refused = refused; running = l.running; stays = l.stays } ≡ look_more t report l
look-still t report l still none refused e =
    let running = busy-still l.running t.job still none in
    let stays = same_either (has_task report.finished t.k) l.stays _ (busy-still l.stays t.job still none) in
    λ i. record { refused = e i; running = running i; stays = stays i }

-- nothing is found of such a task
unrefused-more : (r : Result Unit Refusal) (k : ℕ) → r ≡ first_of r 0 k
unrefused-more (Ok tt) k = refl
unrefused-more (Err r) k = refl

module _ (τ : Task) (j : Job) (released finished k : ℕ) (left : is_left j (bit_or released finished) k ≡ true) where
  idle : j.stage ≡ Idle
  idle = idle-is j.stage (both (is_idle j.stage) _ left).0

  unnamed : (has_task released k ≡ false) × (has_task finished k ≡ false)
  unnamed =
      neither _ _ (sym (task_or released finished k) ∙ not-true _ (both (is_idle j.stage) _ left).1)

  none_given : given_number τ j (has_task released k) (has_task finished k) ≡ 0
  none_given = rw (unnamed.0, unnamed.1, idle)

  pub look-left : (l : Look) → j.held ≡ 0
      → l ≡ look_more (record { k = k; task = τ; job = j }) (record { released = released; finished = finished }) l
  look-left l none =
      look-still (record { k = k; task = τ; job = j }) (record { released = released; finished = finished }) l
      (idle-not-runs j.stage (both (is_idle j.stage) _ left).0) none l.refused
      (rw none_given (unrefused-more l.refused k))

  pub walk-left : (w : Walk) → walk_by w.goes (older τ j) w.late w ≡ walk_with k τ j released finished w
  unfolding walk_with
  walk-left w = rw (unnamed.0, unnamed.1, idle, and-false w.goes, or_zero_r w.late)
