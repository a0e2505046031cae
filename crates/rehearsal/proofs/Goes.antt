-- No tick of a rehearsal is refused while nobody is late: where a task is due again its job is finished, since D is at
-- most T.
use Prim.Native.Nat.{ℕ, ◌%◌, ◌≤◌}
use mathlib.Core.Path.{◌≡◌, sym, ◌∙◌}
use mathlib.Core.Bool.{true}
use mathlib.Core.List.{List}
use native.Mathlib.Omega.{arith}
use lib.Dec.{ltb, eqb}
use Rattle.maths.proofs.Tests.{both}
use Rattle.table.specs.Tasks.{τ, T}
use Rattle.sets.specs.TaskSets.{has_task}
use Rattle.machine.specs.declared.Machine.{Machine}
use Rattle.machine.specs.Jobs.{job, idles}
use Rattle.machine.specs.Steps.{passed, finish}
use Rattle.machine.specs.Tick.{accepted}
use Rattle.machine.proofs.Jobs.{passed-job}
use Rattle.lives.specs.Life as Alone
use Rattle.conduct.specs.Lives.{life}
use Rattle.conduct.proofs.Lives.{one-true, shows}
use Rattle.conduct.proofs.GoOn.{Releasable, goes_with}
use Rattle.rehearsal.specs.Rehearsal.{released_at, full, late_now}
use Rattle.rehearsal.proofs.Benched.{Benched}
use Rattle.rehearsal.proofs.OnBench.{due-age, rested}
use Rattle.rehearsal.proofs.Members.{in_released, released-task, in_most, sound-row, idles-now, not_late_lem}

module _ {i : ℕ} {m : Machine} {s : List ℕ} (b : Benched i m s) (k : ℕ) (some : 1 ≤ k) (in_n : k ≤ m.table.n) where
  abbrev Tk : ℕ
  Tk = T (τ m.table k)

  module _ (divides : eqb (i % Tk) 0 ≡ true) where
    old : Tk ≤ (job (passed m) k).age
    old =
        rw (passed-job m k some in_n (in_most m b.good k some in_n))
        (omega (arith, (shows (job m k)).age, due-age (sound-row m b.good k some in_n) (b.each k some in_n) divides))

    -- nobody is late, so that the job is finished
    pub free : late_now m ≡ 0 → Alone.idles (Alone.finish (has_task (full m) k) (Alone.rise Tk (life (job m k)))) ≡ 1
    free calm =
        rested (sound-row m b.good k some in_n) (b.each k some in_n) (has_task (full m) k)
        (not_late_lem m b.good k some in_n calm) divides

module _ (L : ℕ) {i : ℕ} {m : Machine} {s : List ℕ} (b : Benched i m s) (calm : late_now m ≡ 0) where
  abbrev R : ℕ
  R = released_at L m.table i

  module _ (k : ℕ) (some : 1 ≤ k) (e : has_task R k ≡ true) where
    in_n : k ≤ m.table.n
    in_n = released-task L i m.table k e

    divides : eqb (i % T (τ m.table k)) 0 ≡ true
    divides = (both (ltb i L) _ (sym (in_released L i m.table k some in_n) ∙ e)).1

    idle-now : idles (finish (full m) (passed m)) k ≡ true
    idle-now = one-true _ (sym (idles-now m b.good k some in_n (full m)) ∙ free b k some in_n divides calm)

  ready : Releasable m R
  ready = record {
    in_table = λ k l h e. in_n k l e;
    due = λ k l h e. old b k l (in_n k l e) (divides k l e);
    free = λ k l h e. idle-now k l e;
  }

  pub goes : accepted m R (full m) ≡ true
  goes = goes_with m b.good R ready
