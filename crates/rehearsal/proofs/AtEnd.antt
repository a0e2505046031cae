-- The last tick of a rehearsal, L, where nobody is late at it: every task would be due again, so that every job is
-- finished; nobody waits and nobody starts.
use Prim.Native.Nat.{ℕ, ◌*◌, ◌%◌, ◌≤◌}
use mathlib.Core.Path.{◌≡◌, sym, ◌∙◌, ap}
use mathlib.Core.Bool.{true, false}
use mathlib.Core.List.{List}
use native.Mathlib.Nat.{mod-eq-zero_of_dvd}
use native.Mathlib.Omega.{arith}
use borrow.Author.Tests.{eq-eqb}
use lib.Dec.{eqb}
use Rattle.maths.specs.Tasks.{Each, entry}
use Rattle.maths.proofs.Tests.{false_of}
use Rattle.table.specs.Tasks.{τ, T}
use Rattle.sets.specs.TaskSets.{has_task}
use Rattle.sets.proofs.Wheres.{tasks-none}
use Rattle.machine.specs.declared.Machine.{Machine}
use Rattle.machine.specs.Jobs.{job, idles}
use Rattle.machine.specs.Tick.{moved}
use Rattle.machine.proofs.StateParts.{GoodState, when_good}
use Rattle.machine.proofs.StateTest.{state-good}
use Rattle.lives.specs.Life as Alone
use Rattle.conduct.specs.Lives.{life}
use Rattle.conduct.specs.Conduct.{Conduct}
use Rattle.conduct.proofs.Lives.{one-true, shows}
use Rattle.conduct.proofs.Laws.{tick-started, tick-moved}
use Rattle.rehearsal.specs.Multiple.{Common}
use Rattle.rehearsal.specs.Rehearsal.{released_at, full, late_now, bench_tick, and_started}
use Rattle.rehearsal.proofs.Benched.{Benched}
use Rattle.rehearsal.proofs.OnBench.{idles-not-waits, all-started}
use Rattle.rehearsal.proofs.Members.{at-L, sound-row, good-job, not_late_lem}
use Rattle.rehearsal.proofs.Counts.{nobody-started}
use Rattle.rehearsal.proofs.Goes.{free, goes}
use Rattle.rehearsal.proofs.Kept.{conducted}

pub record AtEnd (L : ℕ) (m : Machine) (s : List ℕ) : Type 0 where
  pub whole : Each m.table.n (λ k. entry s k 0 * T (τ m.table k) ≡ L)
  pub idle : Each m.table.n (λ k. idles (bench_tick L L m).machine k ≡ true)
  pub started : (bench_tick L L m).answer.started ≡ 0
  pub same : and_started s 0 ≡ s

module _ {L : ℕ} {m : Machine} {s : List ℕ} (b : Benched L m s) (all : Common m.table L) (calm : late_now m ≡ 0) where
  abbrev R : ℕ
  R = released_at L m.table L

  abbrev F : ℕ
  F = full m

  abbrev x : Machine
  x = (bench_tick L L m).machine

  abbrev S : ℕ
  S = (bench_tick L L m).answer.started

  c : Conduct m.table m x R F S
  c = conducted L b calm

  x-good : GoodState x
  x-good = state-good x (rw c.table b.rows) c.good

  module _ (k : ℕ) (some : 1 ≤ k) (in_n : k ≤ m.table.n) where
    abbrev now : Alone.Life
    now = Alone.finish (has_task F k) (Alone.rise (T (τ m.table k)) (life (job m k)))

    divides : eqb (L % T (τ m.table k)) 0 ≡ true
    divides = eq-eqb _ 0 (mod-eq-zero_of_dvd (T (τ m.table k)) (all k some in_n))

    finished : Alone.idles now ≡ 1
    finished = free b k some in_n divides calm

    whole : entry s k 0 * T (τ m.table k) ≡ L
    whole =
        all-started (sound-row m b.good k some in_n) (b.each k some in_n) (has_task F k)
        (not_late_lem m b.good k some in_n calm) (c.allows k some in_n).was_running divides

    unreleased : has_task R k ≡ false
    unreleased = at-L L m.table k some in_n

    unstarted : has_task S k ≡ false
    unstarted = false_of (has_task S k)
        (λ e. let waited : Alone.waits now ≡ 1 = rw unreleased at ((c.allows k some in_n).queued e) in
        omega (arith, idles-not-waits now finished))

    is-now : now ≡ life (job x k)
    is-now = rw (unstarted, unreleased) at (c.moves k some in_n)

    idle : idles x k ≡ true
    idle =
        let g = good-job x x-good k some (rw c.table in_n) in
        one-true (idles x k) (sym ((shows (job x k)).idles (when_good g)) ∙ rw is-now at finished)

  nobody-starts : S ≡ 0
  nobody-starts =
      let ok = goes L b calm in
      let is = tick-started m R F ok in
      let same-n : (moved m R F).table ≡ m.table = rw (tick-moved m R F ok) at c.table in
      is ∙ tasks-none _ _
      (λ k l h. ap (λ (z : ℕ). has_task z k) (sym is) ∙ unstarted k l (rw same-n at h))

  pub at-end : AtEnd L m s
  at-end = record { whole = whole; idle = idle; started = nobody-starts; same = nobody-started s b.entries }
