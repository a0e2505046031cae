-- A rehearsal by the number of the tick: its machines have one table, and as long as nobody is late the rehearsal goes
-- on from tick i as it began.
use Prim.Native.Nat.{ℕ, zero, suc, ◌+◌}
use mathlib.Core.Path.{◌≡◌, refl, ◌∙◌, ap}
use mathlib.Core.Bool.{Bool, true, false}
use native.Mathlib.Omega.{arith}
use lib.ListN.{length}
use Rattle.table.specs.declared.Table.{Table}
use Rattle.table.specs.Limits.{most_tasks}
use Rattle.machine.specs.declared.Machine.{Machine}
use Rattle.machine.specs.Fresh.{fresh}
use Rattle.machine.specs.Tick.{accepted, readied, tick}
use Rattle.machine.proofs.Jobs.{readied-table}
use Rattle.machine.proofs.Queue.{step-table}
use Rattle.machine.proofs.StateFresh.{fresh-n, fresh-rows-length, fresh-state}
use Rattle.machine.proofs.StateParts.{GoodState}
use Rattle.machine.proofs.StateTest.{state-good}
use Rattle.conduct.proofs.Laws.{conduct, tick-moved, tick-refused}
use Rattle.rehearsal.specs.Multiple.{multiple}
use Rattle.rehearsal.specs.Rehearsal.{and_started, none_started, from, rehearsal}
use Rattle.rehearsal.specs.Bench.{bench_at, tick_at, started_before, CalmBefore, Unrefused}
use Rattle.rehearsal.proofs.From.{from_on}

tick-table : (m : Machine) (R F : ℕ) → (tick m R F).machine.table ≡ m.table
tick-table m R F = by (accepted m R F) refl
  where
    by : (b : Bool) → accepted m R F ≡ b → (tick m R F).machine.table ≡ m.table
    by true e =
        ap (λ (x : Machine). x.table) (tick-moved m R F e) ∙ (step-table (readied m R F) ∙ readied-table m R F)
    by false e = ap (λ (x : Machine). x.table) (tick-refused m R F e)

tick-good : (m : Machine) (R F : ℕ) → length m.table.rows ≡ most_tasks → GoodState m
    → GoodState (tick m R F).machine
tick-good m R F long good = by (accepted m R F) refl
  where
    by : (b : Bool) → accepted m R F ≡ b → GoodState (tick m R F).machine
    by true e = state-good _ (ap (λ (u : Table). length u.rows) (tick-table m R F) ∙ long)
        (conduct m R F long e).good
    by false e = rw (tick-refused m R F e) good

module _ (t : Table) where
  pub bench-fresh : bench_at t 0 ≡ fresh t
  unfolding bench_at
  bench-fresh = refl

  pub bench-next : (i : ℕ) → bench_at t (suc i) ≡ (tick_at t i).machine
  unfolding bench_at
  bench-next i = refl

  pub bench-table : (i : ℕ) → (bench_at t i).table ≡ (fresh t).table
  unfolding bench_at
  bench-table zero = refl
  bench-table (suc i) = tick-table (bench_at t i) _ _ ∙ bench-table i

  pub bench-n : (i : ℕ) → (bench_at t i).table.n ≡ t.n
  bench-n i = ap (λ (u : Table). u.n) (bench-table i) ∙ fresh-n t

  pub bench-good : Unrefused t → (i : ℕ) → GoodState (bench_at t i)
  unfolding bench_at
  bench-good s zero = fresh-state t s.unrefused s.whole
  bench-good s (suc i) =
      tick-good (bench_at t i) _ _ (ap (λ (u : Table). length u.rows) (bench-table i) ∙ fresh-rows-length t)
      (bench-good s i)

  pub started-fresh : started_before t 0 ≡ none_started
  unfolding started_before
  started-fresh = refl

  pub started-next : (i : ℕ) → started_before t (suc i) ≡ and_started (started_before t i) (tick_at t i).answer.started
  unfolding started_before
  started-next i = refl

  pub goes-on-from : (i left : ℕ) → i + left ≡ suc (multiple t) → CalmBefore t i
      → rehearsal t ≡ from (multiple t) left i (bench_at t i) (started_before t i)
  unfolding rehearsal bench_at started_before
  goes-on-from zero left e calm =
      let all : left ≡ suc (multiple t) = omega arith in
      rw all
  goes-on-from (suc i) left e calm =
      goes-on-from i (suc left) (omega arith) (λ j l. calm j (omega arith))
      ∙ from_on (multiple t) i (bench_at t i) (started_before t i) left (calm i (omega arith))
