-- The states of a sequence: all good, with one table; and the laws of a tick for the ticks of the sequence.
use Prim.Native.Nat.{ℕ, zero, suc, ◌<◌, ◌≤◌}
use mathlib.Core.Path.{◌≡◌, refl, subst}
use mathlib.Core.List.{List}
use native.Mathlib.Omega.{arith}
use lib.ListN.{length}
use Rattle.maths.proofs.Tasks.{length-tabulate}
use Rattle.table.specs.declared.Table.{Table}
use Rattle.table.specs.Limits.{most_tasks}
use Rattle.machine.specs.declared.Machine.{Machine}
use Rattle.machine.specs.Fresh.{trimmed, fresh}
use Rattle.machine.proofs.StateFresh.{fresh-state}
use Rattle.machine.proofs.StateParts.{GoodState}
use Rattle.machine.proofs.StateTest.{state-good}
use Rattle.conduct.specs.Conduct.{Conduct}
use Rattle.conduct.proofs.Laws.{conduct}
use Rattle.promise.specs.Sequences.{Report, told, Step, Sequence, sequence, count, tick_at, state}
use Rattle.promise.proofs.Safe.{Safe}
use Rattle.promise.proofs.Following.{Follows, following}

-- A step from state m is an accepted tick: by the table of t with its entries past n zero, if m has that.
step-conduct : (t : Table) (m : Machine) (st : Step) → m.table ≡ trimmed t → Follows m st
    → Conduct (trimmed t) m st.after st.report.released st.report.finished st.answer.started
step-conduct t m st same f =
    let long : length m.table.rows ≡ most_tasks = rw same (length-tabulate _ most_tasks) in
    rw (f.after, f.answer)
    (subst (λ (u : Table). Conduct u m (told m st.report).machine st.report.released st.report.finished
    (told m st.report).answer.started) same
    (conduct m st.report.released st.report.finished long f.taken))

module _ (t : Table) (a : Safe t) (xs : List Report) where
  abbrev s : Sequence
  s = sequence t xs

  pub follows : (i : ℕ) → i < count s → Follows (state s i) (tick_at s i)
  follows = following (fresh t) xs

  same : (i : ℕ) → i ≤ count s → (state s i).table ≡ trimmed t
  unfolding fresh
  same zero l = refl
  same (suc i) l = (step-conduct t (state s i) (tick_at s i) (same i (omega arith)) (follows i l)).table

  -- tick i
  pub conducts : (i : ℕ) → i < count s
      → Conduct (trimmed t) (state s i) (state s (suc i)) (tick_at s i).report.released (tick_at s i).report.finished
      (tick_at s i).answer.started
  conducts i l = step-conduct t (state s i) (tick_at s i) (same i (omega arith)) (follows i l)

  -- state i
  pub record Sound (m : Machine) : Type 0 where
    pub same : m.table ≡ trimmed t
    pub good : GoodState m

  pub sound : (i : ℕ) → i ≤ count s → Sound (state s i)
  sound zero l = record { same = same zero l; good = fresh-state t a.unrefused a.whole }
  sound (suc i) l =
      let long : length (state s (suc i)).table.rows ≡ most_tasks =
      rw (same (suc i) l) (length-tabulate _ most_tasks) in
      record { same = same (suc i) l; good = state-good (state s (suc i)) long (conducts i l).good }
