-- What the pass of step 5 comes to, over all tasks: the machine and the set of the tasks that started.
use Prim.Native.Nat.{ℕ, zero, suc, ◌<◌, ◌≤◌}
use mathlib.Core.Path.{◌≡◌, refl, sym, ◌∙◌, ap}
use mathlib.Core.Bool.{Bool, true, false, cond}
use native.Mathlib.Omega.{arith}
use lib.ListN.{length}
use Rattle.maths.proofs.Tasks.{lowest_empty}
use Rattle.maths.proofs.Tests.{both}
use Rattle.table.specs.Limits.{most_tasks}
use Rattle.table.specs.Tasks.{τ}
use Rattle.sets.proofs.Wheres.{where_same}
use Rattle.machine.specs.declared.Machine.{Machine}
use Rattle.ticking.specs.declared.Walk.{Walk}
use Rattle.machine.specs.Jobs.{job, waits, idle_set, idle_cores, idle_partitions}
use Rattle.machine.specs.Steps.{start_picked, start_waiting, start_all}
use Rattle.ticking.specs.Code.Passes.{tries, has_room, walk_go, walk_by, walk_begin}
use Rattle.machine.specs.Tick.{started_set}
use Rattle.machine.proofs.Queue.{picks-none, start_none, start-turn}
use Rattle.ticking.proofs.TickFive.{walked, walked-done}
use Rattle.ticking.proofs.TickStarts.{At, at_none, at-by, at-stop, at-go}

-- nobody waits
calm-ends : (turns : ℕ) (m : Machine) → ((j : ℕ) → j < m.table.n → waits m (suc j) ≡ false) → start_waiting turns m ≡ m
calm-ends zero m h = start_none m
calm-ends (suc turns) m h = start-turn turns m
    ∙ ap (start_picked (start_waiting turns) m) (picks-none m (lowest_empty (waits m) m.table.n h))

-- a pass w over the tasks of r, which counts what is idle and in which waiting jobs hold nothing
pub record Pass (r : Machine) (w : ℕ → Walk) (late : ℕ → ℕ) : Type 0 where
  pub entries : length r.jobs ≡ most_tasks
  pub few : r.table.n ≤ most_tasks
  pub goes : (w 0).goes ≡ true
  pub cores : (w 0).cores ≡ idle_cores r
  pub idle : (w 0).idle ≡ idle_set r
  pub partitions : (w 0).partitions ≡ idle_partitions r
  pub none : (w 0).started ≡ 0
  pub free : (i : ℕ) → i < r.table.n → waits r (suc i) ≡ true → (job r (suc i)).held ≡ 0
  pub turn : (i : ℕ) → i < r.table.n
      → w (suc i) ≡ walk_begin (suc i) (τ r.table (suc i)) (job r (suc i)) (late i) (w i)

module _ (r : Machine) (w : ℕ → Walk) (late : ℕ → ℕ) (p : Pass r w late) where
  pub at : (i : ℕ) → i ≤ r.table.n → At r w late i
  at zero l = at_none r w late p.entries p.goes p.cores p.idle p.partitions p.none
  at (suc i) l = by (tries (job r (suc i)) (w i)) refl (has_room (τ r.table (suc i)) (w i)) refl
      (at i (omega arith)) (p.turn i l)
    where
      by : (a : Bool) → tries (job r (suc i)) (w i) ≡ a → (b : Bool)
          → has_room (τ r.table (suc i)) (w i) ≡ b → At r w late i
          → w (suc i) ≡ cond a (cond b (walk_go (suc i) (τ r.table (suc i)) (job r (suc i)) (late i) (w i))
          (walk_by false (job r (suc i)) (late i) (w i))) (walk_by (w i).goes (job r (suc i)) (late i) (w i))
          → At r w late (suc i)
      by false u b v a e = at-by r w late i p.few l a e u
      by true u false v a e = at-stop r w late i p.few l a u e v
      by true u true v a e = at-go r w late i p.few l a u e v (p.free i l (both (w i).goes _ u).1)

  pub five : start_all r ≡ walked r w r.table.n
  five = by (at r.table.n (omega arith)) (w r.table.n).goes refl
    where
      by : At r w late r.table.n → (b : Bool) → (w r.table.n).goes ≡ b → start_all r ≡ walked r w r.table.n
      by a true g = a.same ∙ rw g (calm-ends a.fuel (walked r w r.table.n) (a.calm g))
      by a false g = a.same ∙ rw g

  pub started-is : started_set r (walked r w r.table.n) ≡ (w r.table.n).started
  started-is =
      where_same _ _ r.table.n (λ i l. rw (walked-done r w r.table.n i l (omega (arith, p.few))))
      ∙ sym (at r.table.n (omega arith)).begun
