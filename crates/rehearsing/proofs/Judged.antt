-- What the first pass at tick i comes to: it names the lowest late task, and where there is none, its lanes are those
-- of the machine before step 5.
use Prim.Native.Nat.{ℕ, suc, ◌<◌, ◌≤◌}
use mathlib.Core.Path.{◌≡◌, refl, sym, ◌∙◌, ap}
use mathlib.Core.Bool.{Bool, true, false, cond}
use mathlib.Core.List.{List}
use mathlib.Core.Logic.{◌≢◌}
use native.Mathlib.Decide.{dec_le}
use native.Mathlib.Omega.{arith}
use borrow.Author.Tests.{le-leb, lt-leb, ne_eqb}
use lib.Dec.{leb, eqb}
use lib.ListN.{get_or}
use Rattle.maths.specs.Tasks.{lowest, tabulate, entry}
use Rattle.maths.proofs.Arrays.{up_to, tabulate-ext, tabulate-entry}
use Rattle.maths.proofs.Tasks.{lowest-ext, lowest_empty, get_d_tabulate}
use Rattle.table.specs.Limits.{most_tasks}
use Rattle.table.specs.Tasks.{τ}
use Rattle.admission.specs.Test.{row}
use Rattle.sets.specs.TaskSets.{has_task}
use Rattle.sets.proofs.Wheres.{task-none}
use Rattle.machine.specs.declared.Machine.{Machine}
use Rattle.machine.specs.Jobs.{job}
use Rattle.conduct.specs.Lives.{life}
use Rattle.rehearsal.specs.Rehearsal.{full, late_now}
use Rattle.rehearsal.proofs.Benched.{Benched}
use Rattle.rehearsal.proofs.Times.{never}
use Rattle.rehearsal.proofs.Members.{in_due, sound-row, not_late_lem}
use Rattle.rehearsal.proofs.Readings.{within-c, full-has}
use Rattle.rehearsal.proofs.Happens.{finishes, is-late}
use Rattle.rehearsal.proofs.Ends.{late-none}
use Rattle.rehearsing.specs.declared.lanes.Lane.{Lane}
use Rattle.rehearsing.specs.Code.Lanes.{no_lane, lane_is_late, settled_lane}
use Rattle.rehearsing.specs.Code.Tracks.{starts_of}
use Rattle.rehearsing.proofs.LaneLaws.{lane_settled}
use Rattle.rehearsing.proofs.LanesOf.{lane_in, lane-started}
use Rattle.rehearsing.proofs.Readied.{before5, table5, life5}
use Rattle.rehearsing.specs.Code.Events.{lane_of, lanes_of, settled_at}

abbrev settled_lanes : ℕ → Machine → List ℕ → ℕ → Lane
settled_lanes i m s = settled_at m.table i (lanes_of i m s)

module _ {i : ℕ} {m : Machine} {s : List ℕ} (b : Benched i m s) where
  abbrev n : ℕ
  n = m.table.n

  -- the started jobs are counted by the second pass alone, so that they stay as they are from turn to turn
  module _ (turns : ℕ) where
    settled_started : (k : ℕ)
        → (cond (leb k turns) (settled_lanes i m s k) (lanes_of i m s k)).started ≡ entry s k 0
    settled_started k = by (leb k turns) (leb k n) ∙ lane-started i m s k
      where
        by : (b c : Bool) → (cond b (cond c (settled_lane i (τ m.table k) (lanes_of i m s k)) (lanes_of i m s k))
            (lanes_of i m s k)).started ≡ (lanes_of i m s k).started
        by true true = refl
        by true false = refl
        by false c = refl

    pub starts-stay : starts_of (up_to most_tasks (settled_lanes i m s) (lanes_of i m s) turns) ≡ s
    starts-stay =
        tabulate-ext
        (λ k. (entry (up_to most_tasks (settled_lanes i m s) (lanes_of i m s) turns) k no_lane).started)
        (λ k. entry s k 0) most_tasks
        (λ k l. ap (λ (x : Lane). x.started) (get_d_tabulate _ most_tasks k no_lane l) ∙ settled_started (suc k))
        ∙ tabulate-entry s most_tasks 0 b.entries

  module _ (soon : i < never) where
    pub over-is : (k : ℕ) → k < n → eqb (lanes_of i m s (suc k)).ends i ≡ has_task (full m) (suc k)
    over-is k l = rw (lane_in i m s k l) (sym (finishes b (suc k) (omega arith) l soon))

    pub late_is : lowest n (λ k. lane_is_late i (lanes_of i m s k)) ≡ lowest n (has_task (late_now m))
    late_is = lowest-ext _ _ n (λ k l. rw (lane_in i m s k l) (sym (is-late b (suc k) (omega arith) l soon)))

    -- by the lowest late lane
    pub nobody-late : lowest n (λ k. lane_is_late i (lanes_of i m s k)) ≡ 0 → late_now m ≡ 0
    nobody-late e = late-none m n refl (sym late_is ∙ e)

    pub somebody_late : lowest n (λ k. lane_is_late i (lanes_of i m s k)) ≢ 0 → eqb (late_now m) 0 ≡ false
    somebody_late e =
        ne_eqb (late_now m) 0 λ z. e (late_is ∙ lowest_empty (has_task (late_now m)) n (λ k l.
        ap (λ (x : ℕ). has_task x (suc k)) z ∙ task-none (suc k)))

module _ (L : ℕ) {i : ℕ} {m : Machine} {s : List ℕ} (b : Benched i m s) (soon : i < never) (calm : late_now m ≡ 0)
    (within : i < L) where
  settled_is : (k : ℕ) → k < m.table.n
      → settled_lane i (τ m.table (suc k)) (lane_of i (row (τ m.table (suc k))) (life (job m (suc k))) (get_or s k 0))
      ≡ lane_of (suc i) (row (τ m.table (suc k))) (life (job (before5 L i m) (suc k))) (get_or s k 0)
  settled_is k l =
      let g = b.good in
      rw (life5 L b k l)
      (lane_settled (sound-row m g (suc k) (omega arith) l) soon (life (job m (suc k)))
      (within-c g (suc k) (omega arith) l) (b.each (suc k) (omega arith) l) _ _ (full-has g (suc k) (omega arith) l)
      (in_due L i m.table within (suc k) (omega arith) l) (not_late_lem m g (suc k) (omega arith) l calm))

  pub settled_lanes_lem : up_to most_tasks (settled_lanes i m s) (lanes_of i m s) m.table.n
      ≡ tabulate most_tasks (lanes_of (suc i) (before5 L i m) s)
  settled_lanes_lem =
      tabulate-ext (λ k. cond (leb k m.table.n) (settled_lanes i m s k) (lanes_of i m s k))
      (lanes_of (suc i) (before5 L i m) s) most_tasks (λ k l. by k (dec_le (suc k) m.table.n))
    where
      by : (k : ℕ) → Dec (suc k ≤ m.table.n)
          → cond (leb (suc k) m.table.n) (settled_lanes i m s (suc k)) (lanes_of i m s (suc k))
          ≡ lanes_of (suc i) (before5 L i m) s (suc k)
      by k (yes h) = rw (table5 L i m, le-leb (suc k) m.table.n h) (settled_is k h)
      by k (no h) = rw (table5 L i m, lt-leb (suc k) m.table.n (omega arith))
