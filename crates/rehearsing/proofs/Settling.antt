-- The first pass at tick i, over the lanes of a machine on the bench: it finishes, judges and releases task by task.
use Prim.Native.Nat.{ℕ, suc, ◌+◌, ◌<◌, ◌≤◌}
use mathlib.Core.Path.{◌≡◌, sym, ◌∙◌, ap}
use mathlib.Core.Bool.{Bool, true, false, cond}
use native.Mathlib.Numerals.{add-one}
use native.Mathlib.Omega.{arith}
use borrow.Author.Tests.{le-leb}
use Rattle.maths.specs.Tasks.{lowest, tabulate}
use Rattle.maths.proofs.Arrays.{up_none, up_more, up-past}
use Rattle.maths.proofs.Sums.{Σ-zero, Σ-suc, Σ_mono, Σ_const}
use Rattle.maths.proofs.Tasks.{lowest-zero, lowest-found, lowest-past, lowest-stays}
use Rattle.table.specs.declared.Table.{Table}
use Rattle.table.specs.Limits.{most_tasks, most_partitions}
use Rattle.table.specs.Tasks.{τ, A}
use Rattle.rehearsing.specs.declared.lanes.Lane.{Lane}
use Rattle.rehearsing.specs.declared.track.Track.{Track}
use Rattle.rehearsing.specs.Code.Lanes.{no_lane, lane_is_late, settled_lane}
use Rattle.rehearsing.specs.Code.Tracks.{lane_at, track_settled}
use Rattle.rehearsing.specs.Code.Events.{Settling, over, settled_at}
use Rattle.rehearsing.specs.Code.Events.{Settling, over, settled_at}

-- lanes `before` of the tasks of table t
module _ (t : Table) (i : ℕ) (before : ℕ → Lane) where
  -- where so many cores and partitions are idle
  module _ (cores partitions : ℕ) where
    abbrev Turn : Track → ℕ → Type 0
    Turn = Settling t i before cores partitions

    pub settling_none : (x : Track) → x.lanes ≡ tabulate most_tasks before → x.idle.cores.0 ≡ cores
        → x.idle.partitions.0 ≡ partitions → Turn x 0
    settling_none x e c q =
        record {
          low = omega arith;
          stored = e ∙ up_none most_tasks (settled_at t i before) before;
          cores = omega (arith, c, Σ-zero (λ j. cond (over t i before j) 1 0));
          partitions = omega (arith, q, Σ-zero (λ j. cond (over t i before j) (A (τ t j)) 0));
          nobody = lowest-zero (λ j. lane_is_late i (before j));
        }

    module _ (few : t.n ≤ most_tasks) (x : Track) (k : ℕ) (s : Turn x k) (l : k < t.n) where
      here : lane_at x k ≡ before (suc k)
      here = rw s.stored (up-past most_tasks (settled_at t i before) before k k no_lane (omega arith) (omega arith))

      -- the first task that is late is the lowest
      pub settling_found : lane_is_late i (lane_at x k) ≡ true → lowest t.n (λ j. lane_is_late i (before j)) ≡ k + 1
      settling_found e =
          let late : lane_is_late i (before (suc k)) ≡ true = ap (lane_is_late i) (sym here) ∙ e in
          rw add-one
          (lowest-stays (λ j. lane_is_late i (before j)) (k + 1) t.n k (omega arith)
          (lowest-found (λ j. lane_is_late i (before j)) k s.nobody late ∙ add-one k))

      pub settling_more : (next : Track) → lane_is_late i (lane_at x k) ≡ false
          → next ≡ track_settled k i (τ t (suc k)) x → Turn next (k + 1)
      settling_more next calm e =
          let lane : settled_lane i (τ t (suc k)) (lane_at x k) ≡ settled_at t i before (suc k) =
          rw (le-leb (suc k) t.n l, here) in
          record {
            low = omega arith;
            stored =
                ap (λ (y : Track). y.lanes) e
                ∙ rw (lane, s.stored) (up_more most_tasks (settled_at t i before) before k (omega arith));
            cores =
                let now : next.idle.cores.0 ≡ x.idle.cores.0 + cond (over t i before (suc k)) 1 0 =
                ap (λ (y : Track). y.idle.cores.0) e ∙ rw here in
                rw (add-one k) (omega (arith, now, s.cores, Σ-suc k (λ j. cond (over t i before j) 1 0)));
            partitions =
                let now : next.idle.partitions.0
                ≡ x.idle.partitions.0 + cond (over t i before (suc k)) (A (τ t (suc k))) 0 =
                ap (λ (y : Track). y.idle.partitions.0) e ∙ rw here in
                rw (add-one k)
                (omega (arith, now, s.partitions, Σ-suc k (λ j. cond (over t i before j) (A (τ t j)) 0)));
            nobody = lowest-past (λ j. lane_is_late i (before j)) k s.nobody (ap (lane_is_late i) (sym here) ∙ calm);
          }

      -- what the code asks before a turn
      module _ (small : (j : ℕ) → 1 ≤ j → j ≤ t.n → A (τ t j) ≤ most_partitions)
          (few-cores : cores ≤ most_partitions) (few-partitions : partitions ≤ most_partitions) where
        pub cores-small : x.idle.cores.0 ≤ 65535
        cores-small =
            omega (
              arith,
              s.cores,
              Σ_mono k (λ j. cond (over t i before j) 1 0) (λ j. 1) (λ j a b. one (over t i before j)),
              Σ_const k 1,
            )
          where
            one : (b : Bool) → cond b 1 0 ≤ 1
            one true = omega arith
            one false = omega arith

        pub partitions-small : x.idle.partitions.0 ≤ 65535
        partitions-small =
            omega (
              arith,
              s.partitions,
              Σ_mono k (λ j. cond (over t i before j) (A (τ t j)) 0) (λ j. most_partitions)
                  (λ j a b. most (over t i before j) (A (τ t j)) (small j a (omega arith))),
              Σ_const k most_partitions,
            )
          where
            most : (b : Bool) (x : ℕ) → x ≤ most_partitions → cond b x 0 ≤ most_partitions
            most true x h = h
            most false x h = omega arith
