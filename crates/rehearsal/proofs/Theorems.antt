-- What specs/Bench.antt states of every rehearsal of a table that is not refused, from what holds before each of its
-- ticks (Benched.antt) and at the last (AtEnd.antt).
use Prim.Native.Nat.{ℕ, zero, suc, ◌*◌, ◌/◌, ◌<◌, ◌≤◌}
use mathlib.Core.Path.{◌≡◌, sym, ◌∙◌, ap}
use mathlib.Core.Bool.{true}
use native.Mathlib.Nat.{mul-div_cancel}
use native.Mathlib.Omega.{arith}
use borrow.Author.Tests.{eqb-true}
use Rattle.maths.specs.Tasks.{Each, entry}
use Rattle.maths.proofs.Tasks.{each}
use Rattle.table.specs.declared.Refusal.{Refusal}
use Rattle.table.specs.declared.Table.{Table}
use Rattle.table.specs.Good.{Good}
use Rattle.table.specs.Tasks.{τ, T}
use Rattle.table.proofs.Good.{good_of}
use Rattle.machine.specs.Jobs.{idles}
use Rattle.machine.specs.Fresh.{fresh}
use Rattle.machine.proofs.StateFresh.{fresh-n, fresh-task}
use Rattle.conduct.proofs.Laws.{tick-refusal}
use Rattle.rehearsal.specs.Multiple.{Common, multiple}
use Rattle.rehearsal.specs.Rehearsal.{and_started, Outcome, rehearsal}
use Rattle.rehearsal.specs.Bench.{bench_at, started_before, CalmBefore, Unrefused, EachAccepted, WholePeriods}
use Rattle.rehearsal.specs.Bench.{EveryBench}
use Rattle.rehearsal.proofs.Benched.{Benched}
use Rattle.rehearsal.proofs.Multiple.{is-least}
use Rattle.rehearsal.proofs.Goes.{goes}
use Rattle.rehearsal.proofs.Kept.{benched-fresh, kept}
use Rattle.rehearsal.proofs.AtEnd.{AtEnd, at-end}
use Rattle.rehearsal.proofs.ByTick.{bench-fresh, bench-next, bench-table, bench-n, started-fresh}
use Rattle.rehearsal.proofs.ByTick.{started-next}
use Rattle.rehearsal.proofs.Ends.{ends_rightly, calm-outcome}

module _ (t : Table) (u : Unrefused t) where
  abbrev L : ℕ
  L = multiple t

  good : Good t
  good = good_of t u.whole u.unrefused

  some-period : Each t.n (λ k. 0 < T (τ t k))
  some-period = each t.n _ (λ i l. (good.row i l).period)

  fresh-period : Each t.n (λ k. T (τ (fresh t).table k) ≡ T (τ t k))
  fresh-period =
      each t.n _ (λ i l. rw (fresh-task t i (omega (arith, good.sizes.few)) l))

  -- the periods of the machine's table divide L
  pub common-fresh : Common (fresh t).table L
  common-fresh = rw (fresh-n t) (λ k l h. rw (fresh-period k l h) ((is-least good).common k l h))

  benched : (i : ℕ) → i ≤ L → CalmBefore t i → Benched i (bench_at t i) (started_before t i)
  benched zero l calm = rw (bench-fresh t, started-fresh t) (benched-fresh u)
  benched (suc i) l calm =
      rw (bench-next t i, started-next t i)
      (kept L (benched i (omega arith) (λ j h. calm j (omega arith))) (calm i (omega arith)) l)

  accepts : EachAccepted t
  accepts i l calm =
      let b = benched i l (λ j h. calm j (omega arith)) in
      ap (λ (r : Refusal). r.number) (tick-refusal (bench_at t i) _ _)
      ∙ eqb-true _ 0 (goes L b (calm i (omega arith)))

  -- nobody is late at ticks 0 to L
  module _ (calm : CalmBefore t (suc L)) where
    last : AtEnd L (bench_at t L) (started_before t L)
    last =
        at-end (benched L (omega arith) (λ j h. calm j (omega arith))) (rw (bench-table t L) common-fresh)
        (calm L (omega arith))

    started-is : (rehearsal t).started ≡ started_before t L
    started-is =
        ap (λ (o : Outcome). o.started) (calm-outcome t calm)
        ∙ (started-next t L ∙ (ap (and_started (started_before t L)) last.started ∙ last.same))

    module _ (k : ℕ) (some : 1 ≤ k) (in_n : k ≤ t.n) where
      in_table : k ≤ (bench_at t L).table.n
      in_table = rw (bench-n t L) in_n

      jobs : entry (started_before t L) k 0 * T (τ t k) ≡ L
      jobs =
          let same : T (τ (bench_at t L).table k) ≡ T (τ t k) = rw (bench-table t L) (fresh-period k some in_n) in
          rw same at (last.whole k some in_table)

      started-all : entry (rehearsal t).started k 0 ≡ L / T (τ t k)
      started-all =
          rw started-is (sym (mul-div_cancel _ (some-period k some in_n)) ∙ ap (λ (x : ℕ). x / T (τ t k)) jobs)

      finished-all : idles (bench_at t (suc L)) k ≡ true
      finished-all = rw (bench-next t L) (last.idle k some in_table)

  periods : WholePeriods t
  periods none k some in_n =
      let calm = ((ends_rightly t).none none).calm in
      (started-all calm k some in_n, finished-all calm k some in_n)

pub bench : EveryBench
bench t u =
    record {
      least = is-least (good t u);
      ends = ends_rightly t;
      accepted = accepts t u;
      periods = periods t u;
    }
