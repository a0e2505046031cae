-- The laws of `from`, which stand for its text: no tick is left, some job is late, or the next tick follows.
use Prim.Native.Nat.{ℕ, suc}
use mathlib.Core.Path.{◌≡◌, refl, ap}
use mathlib.Core.Bool.{Bool, true, false}
use mathlib.Core.List.{List}
use borrow.Author.Tests.{eq-eqb}
use lib.Dec.{eqb}
use Rattle.machine.specs.declared.Machine.{Machine}
use Rattle.rehearsal.specs.Rehearsal.{late_now, bench_tick, and_started, Outcome, ended_at, from}

module _ (L i : ℕ) (m : Machine) (started : List ℕ) where
  pub from-none : from L 0 i m started ≡ record { tick = 0; task = 0; started = started }
  unfolding from
  from-none = refl

  module _ (left : ℕ) where
    -- after tick i
    abbrev on : Outcome
    on = from L left (suc i) (bench_tick L i m).machine (and_started started (bench_tick L i m).answer.started)

    -- it ends exactly where somebody is late, whatever the tick itself would answer
    abbrev goes_on_if : Bool → Outcome
    goes_on_if b = elim b [ true ↦ on | false ↦ ended_at i m started ]

    pub from-late : eqb (late_now m) 0 ≡ false → from L (suc left) i m started ≡ ended_at i m started
    unfolding from
    from-late e = ap goes_on_if e

    pub from_on : late_now m ≡ 0 → from L (suc left) i m started ≡ on
    unfolding from
    from_on e = ap goes_on_if (eq-eqb (late_now m) 0 e)
