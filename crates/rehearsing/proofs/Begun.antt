-- What the second pass at tick i comes to: its lanes and counts are those of the machine after the tick, and what it
-- counts as started is what the tick answers.
use Prim.Native.Nat.{ℕ, suc, ◌<◌, ◌≤◌}
use mathlib.Core.Path.{◌≡◌, refl, sym, ◌∙◌, ap}
use mathlib.Core.Bool.{Bool, false, cond}
use mathlib.Core.List.{List}
use native.Mathlib.Decide.{dec_le}
use native.Mathlib.Nat.{add-zero}
use native.Mathlib.Omega.{arith}
use borrow.Author.Tests.{le-leb, lt-leb}
use lib.Dec.{leb}
use lib.ListN.{get_or}
use Rattle.maths.specs.Tasks.{tabulate}
use Rattle.maths.proofs.Arrays.{up_to, tabulate-ext}
use Rattle.table.specs.Limits.{most_tasks}
use Rattle.table.specs.Tasks.{τ}
use Rattle.admission.specs.Test.{row}
use Rattle.sets.specs.TaskSets.{has_task, tasks_where}
use Rattle.sets.proofs.Wheres.{tasks-has, tasks-above}
use Rattle.machine.specs.declared.Machine.{Machine}
use Rattle.machine.specs.Jobs.{idle_cores, idle_partitions}
use Rattle.machine.specs.Steps.{awaiting, finish, passed}
use Rattle.machine.specs.Tick.{started_set}
use Rattle.machine.proofs.Jobs.{for_length}
use Rattle.machine.proofs.StateParts.{when_waiting}
use Rattle.ticking.proofs.TickFive.{walked, walked-done}
use Rattle.ticking.proofs.TickMoved.{Pass as WalksAll, at, five, started-is}
use Rattle.conduct.specs.Lives.{life}
use Rattle.conduct.proofs.Laws.{tick-moved, tick-started}
use Rattle.rehearsal.specs.Rehearsal.{released_at, full, late_now, bench_tick, and_started}
use Rattle.rehearsal.proofs.Benched.{Benched}
use Rattle.rehearsal.proofs.Counts.{entry-started}
use Rattle.rehearsal.proofs.Goes.{goes}
use Rattle.rehearsing.specs.declared.lanes.Lane.{Lane}
use Rattle.rehearsing.proofs.Readied.{before5, good5, few5}
use Rattle.rehearsing.proofs.Walk.{walk, starts_now}
use Rattle.rehearsing.proofs.Beginning.{moved_lane}
use Rattle.rehearsing.specs.Code.Events.{lane_of, lanes_of, past_lane}

-- the machine after step 5 of tick i, as the walk leaves it
abbrev pub after5 : (L i : ℕ) → Machine → Machine
after5 L i m = walked (before5 L i m) (walk (before5 L i m)) (before5 L i m).table.n

module _ (L : ℕ) {i : ℕ} {m : Machine} {s : List ℕ} (b : Benched i m s) (calm : late_now m ≡ 0) where
  abbrev r : Machine
  r = before5 L i m

  abbrev n : ℕ
  n = r.table.n

  abbrev R : ℕ
  R = released_at L m.table i

  abbrev S : ℕ
  S = (bench_tick L i m).answer.started

  few : n ≤ most_tasks
  few = few5 L b calm

  turns : WalksAll r (walk r) (λ k. 0)
  unfolding walk
  turns =
      record {
        entries = for_length (λ k j. cond (has_task R k) (awaiting j) j) (finish (full m) (passed m));
        few = few;
        goes = refl;
        cores = refl;
        idle = refl;
        partitions = refl;
        none = refl;
        free = λ k l w. (when_waiting ((good5 L b calm).each k l) w).none;
        turn = λ k l. refl;
      }

  pub after_is : (bench_tick L i m).machine ≡ after5 L i m
  after_is = tick-moved m R (full m) (goes L b calm) ∙ five r (walk r) (λ k. 0) turns

  started-set : S ≡ tasks_where (starts_now r) n
  started-set =
      tick-started m R (full m) (goes L b calm)
      ∙ (ap (started_set r) (five r (walk r) (λ k. 0) turns)
      ∙ (started-is r (walk r) (λ k. 0) turns ∙ (at r (walk r) (λ k. 0) turns n (omega arith)).begun))

  started-has : (k : ℕ) → k < n → has_task S (suc k) ≡ starts_now r (suc k)
  started-has k l =
      ap (λ (x : ℕ). has_task x (suc k)) started-set ∙ tasks-has (starts_now r) n (suc k) (omega arith) l

  started-past : (k : ℕ) → n ≤ k → has_task S (suc k) ≡ false
  started-past k l =
      ap (λ (x : ℕ). has_task x (suc k)) started-set ∙ tasks-above (starts_now r) n (suc k) (omega arith)

  pub cores-after : (walk r n).cores ≡ idle_cores (after5 L i m)
  cores-after = (at r (walk r) (λ k. 0) turns n (omega arith)).cores

  pub partitions-after : (walk r n).partitions ≡ idle_partitions (after5 L i m)
  partitions-after = (at r (walk r) (λ k. 0) turns n (omega arith)).partitions

  abbrev lane_after : ℕ → Lane
  lane_after = lanes_of (suc i) (after5 L i m) (and_started s S)

  pub begun-lane : (k : ℕ) → k < n → moved_lane r i s (suc k) ≡ lane_after (suc k)
  begun-lane k l =
      rw (le-leb (suc k) n l, walked-done r (walk r) n k l (omega (arith, few)))
      (ap (lane_of (suc i) (row (τ r.table (suc k))) (life (walk r (suc k)).job))
      (sym (entry-started s S (suc k) (omega arith) (omega (arith, few)) ∙ rw (started-has k l))))

  past-lane : (k : ℕ) → n ≤ k → k < most_tasks → lanes_of (suc i) r s (suc k) ≡ lane_after (suc k)
  past-lane k l h =
      rw (lt-leb (suc k) n (omega arith))
      (ap past_lane (sym (entry-started s S (suc k) (omega arith) h ∙ rw (started-past k l) (add-zero (get_or s k 0)))))

  pub begun_lanes : up_to most_tasks (moved_lane r i s) (lanes_of (suc i) r s) n ≡ tabulate most_tasks lane_after
  begun_lanes =
      tabulate-ext (λ k. cond (leb k n) (moved_lane r i s k) (lanes_of (suc i) r s k)) lane_after most_tasks
      (λ k l. by k l (dec_le (suc k) n))
    where
      here : (k : ℕ) {c : Bool} → leb (suc k) n ≡ c → cond (leb (suc k) n) (moved_lane r i s (suc k))
          (lanes_of (suc i) r s (suc k)) ≡ cond c (moved_lane r i s (suc k)) (lanes_of (suc i) r s (suc k))
      here k e = ap (λ (c : Bool). cond c (moved_lane r i s (suc k)) (lanes_of (suc i) r s (suc k))) e

      by : (k : ℕ) → k < most_tasks → Dec (suc k ≤ n)
          → cond (leb (suc k) n) (moved_lane r i s (suc k)) (lanes_of (suc i) r s (suc k)) ≡ lane_after (suc k)
      by k l (yes h) = here k (le-leb (suc k) n h) ∙ begun-lane k h
      by k l (no h) = here k (lt-leb (suc k) n (omega arith)) ∙ past-lane k (omega arith) l
