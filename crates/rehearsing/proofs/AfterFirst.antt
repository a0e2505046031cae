-- How a rehearsal ends in the first pass of an event: where a task is late, or all tasks are through and the tick is L,
-- it has ended with what the code answers.
use Prim.Native.Nat.{ℕ, suc, ◌+◌, ◌-◌, ◌<◌, ◌≤◌}
use mathlib.Core.Path.{◌≡◌, refl, sym, subst, ◌∙◌, ap}
use mathlib.Core.Bool.{true}
use native.Mathlib.Omega.{arith}
use Rattle.maths.specs.Tasks.{lowest}
use Rattle.table.specs.declared.Table.{Table}
use Rattle.table.specs.Refused.{no_refusal}
use Rattle.sets.specs.TaskSets.{has_task}
use Rattle.machine.specs.declared.Machine.{Machine}
use Rattle.rehearsal.specs.Multiple.{multiple}
use Rattle.rehearsal.specs.Rehearsal.{late_now, bench_tick, and_started, Outcome, from, rehearsal, rehearsed}
use Rattle.rehearsal.proofs.Answers.{answer-went}
use Rattle.rehearsal.proofs.AtEnd.{at-end}
use Rattle.rehearsal.proofs.Benched.{Benched}
use Rattle.rehearsal.proofs.From.{from-none, from-late, from_on}
use Rattle.rehearsing.specs.declared.track.Track.{Track}
use Rattle.rehearsing.specs.Code.Lanes.{lane_is_late}
use Rattle.rehearsing.specs.Code.Tracks.{lane_at, starts_of, ended_at}
use Rattle.rehearsing.proofs.Judged.{late_is, nobody-late, somebody_late, starts-stay}
use Rattle.rehearsing.proofs.Settling.{settling_found}
use Rattle.rehearsing.proofs.Events.{soon, common, same-n, in_n}
use Rattle.rehearsing.specs.Code.Events.{Judging, Rehearsing, lanes_of}

module _ {t : Table} {i : ℕ} {x : Track} {k : ℕ} (j : Judging t i x k) where
  abbrev h : Rehearsing t i j.track₀
  h = j.before

  abbrev m : Machine
  m = h.machine

  abbrev L : ℕ
  L = multiple t

  abbrev b : Benched i m h.started
  b = h.benched

  -- the answer, where the rehearsal is y
  answered : (y : Outcome) → rehearsal t ≡ y → y.started ≡ h.started
      → ended_at (y.tick, y.task) x.lanes ≡ rehearsed t
  answered y e s =
      let started : starts_of x.lanes ≡ y.started = ap starts_of j.turn.stored ∙ starts-stay b k ∙ sym s in
      (λ c. record { refused = no_refusal; tick = y.tick; task = y.task; started = started c })
      ∙ sym (answer-went t h.unrefused.unrefused h.small ∙ rw e)

  -- task k + 1 is late
  pub ends-late : k < t.n → lane_is_late i (lane_at x k) ≡ true → ended_at (i, k + 1) x.lanes ≡ rehearsed t
  ends-late l e =
      let found = settling_found _ _ _ _ _ b.good.table.sizes.few x k j.turn (in_n h k l) e in
      let named : k + 1 ≡ lowest m.table.n (has_task (late_now m)) = sym found ∙ late_is b (soon h) in
      let left : suc L - i ≡ suc (L - i) = omega (arith, h.within) in
      ap (λ (task : ℕ). ended_at (i, task) x.lanes) named
      ∙ answered _ (h.rest ∙ rw left (from-late L i m h.started (L - i)
      (somebody_late b (soon h) (λ z. omega (arith, found, z))))) refl

  -- after the last task
  module _ (over : t.n ≤ k) where
    pub all : k ≡ m.table.n
    all = omega (arith, j.turn.low, same-n h)

    pub nobody : late_now m ≡ 0
    nobody =
        nobody-late b (soon h)
        (ap (λ (n : ℕ). lowest n (λ k. lane_is_late i (lanes_of i m h.started k))) (sym all) ∙ j.turn.nobody)

    pub ends-calm : i ≡ L → ended_at (0, 0) x.lanes ≡ rehearsed t
    ends-calm e =
        let last = at-end (subst (λ (y : ℕ). Benched y m h.started) e b) (common h) nobody in
        let one : suc L - L ≡ 1 = omega arith in
        let rest : rehearsal t
        ≡ record { tick = 0; task = 0; started = and_started h.started (bench_tick L L m).answer.started } =
        h.rest
        ∙ (ap (λ (y : ℕ). from L (suc L - y) y m h.started) e
        ∙ (ap (λ (y : ℕ). from L y L m h.started) one
        ∙ (from_on L L m h.started 0 nobody ∙ from-none L (suc L) (bench_tick L L m).machine _))) in
        answered _ rest (rw last.started last.same)
