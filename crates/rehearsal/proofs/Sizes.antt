-- How large the numbers of an outcome are: its tick is L at the most, and a task starts at most one job a tick.
use Prim.Native.Nat.{ℕ, zero, suc, ◌+◌, ◌<◌, ◌≤◌}
use mathlib.Core.Bool.{Bool, true, false, cond}
use mathlib.Core.List.{List}
use native.Mathlib.Decide.{ℕ_discrete}
use native.Mathlib.Omega.{arith}
use borrow.Author.Tests.{ne_eqb}
use lib.ListN.{get_or}
use Rattle.maths.specs.Tasks.{entry}
use Rattle.maths.proofs.Tasks.{get_d_tabulate}
use Rattle.table.specs.declared.Table.{Table}
use Rattle.table.specs.Limits.{most_tasks}
use Rattle.sets.specs.TaskSets.{has_task}
use Rattle.machine.specs.declared.Machine.{Machine}
use Rattle.machine.specs.Fresh.{fresh}
use Rattle.rehearsal.specs.Multiple.{multiple}
use Rattle.rehearsal.specs.Rehearsal.{late_now, bench_tick, and_started, none_started, Outcome, from, rehearsal}
use Rattle.rehearsal.proofs.From.{from-none, from-late, from_on}

one_more : (started : List ℕ) (s k : ℕ) → k < most_tasks → get_or (and_started started s) k 0 ≤ get_or started k 0 + 1
one_more started s k l =
    rw (get_d_tabulate (λ j. entry started j 0 + cond (has_task s j) 1 0) most_tasks k 0 l) (by (has_task s (suc k)))
  where
    by : (b : Bool) → get_or started k 0 + cond b 1 0 ≤ get_or started k 0 + 1
    by true = omega arith
    by false = omega arith

-- of so many ticks to come
record Bounded (left i : ℕ) (started : List ℕ) (r : Outcome) : Type 0 where
  tick : r.tick ≤ i + left
  starts : (k : ℕ) → k < most_tasks → get_or r.started k 0 ≤ get_or started k 0 + left

bounded : (L left i : ℕ) (m : Machine) (started : List ℕ) → Bounded left i started (from L left i m started)
bounded L zero i m started =
    rw (from-none L i m started) record { tick = omega arith; starts = λ k l. omega arith }
bounded L (suc left) i m started =
    let s = (bench_tick L i m).answer.started in
    let rest = bounded L left (suc i) (bench_tick L i m).machine (and_started started s) in
    elim (ℕ_discrete (late_now m) 0) [
      | yes e ↦ rw (from_on L i m started left e) record {
        tick = omega (arith, rest.tick);
        starts = λ k l. omega (arith, rest.starts k l, one_more started s k l);
      }
      | no h ↦ rw (from-late L i m started left (ne_eqb (late_now m) 0 h))
          record { tick = omega arith; starts = λ k l. omega arith }
    ]

pub record BoundedBy (ticks : ℕ) (r : Outcome) : Type 0 where
  pub tick : r.tick ≤ ticks
  pub starts : (k : ℕ) → k < most_tasks → get_or r.started k 0 ≤ ticks

pub bounded-rehearsal : (t : Table) → BoundedBy (suc (multiple t)) (rehearsal t)
unfolding rehearsal
bounded-rehearsal t =
    let b = bounded (multiple t) (suc (multiple t)) 0 (fresh t) none_started in
    record {
      tick = omega (arith, b.tick);
      starts = λ k l. omega (arith, b.starts k l, get_d_tabulate {X = ℕ} (λ j. 0) most_tasks k 0 l);
    }
