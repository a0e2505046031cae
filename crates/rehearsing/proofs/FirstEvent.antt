-- The event of tick 0: the lanes are those of a fresh machine, of which all is idle.
use Prim.Native.Nat.{ℕ, suc, ◌-◌, ◌*◌, ◌<◌, ◌≤◌}
use mathlib.Core.Path.{◌≡◌, refl, sym, ◌∙◌, ap}
use native.Mathlib.Decide.{dec_le}
use native.Mathlib.Omega.{arith}
use borrow.Author.Tests.{le-leb, lt-leb}
use lib.ListN.{replicate}
use Rattle.maths.specs.Sums.{Σ}
use Rattle.maths.specs.Tasks.{tabulate}
use Rattle.maths.proofs.Arrays.{tabulate-ext}
use Rattle.maths.proofs.Sums.{Σ-ext, Σ_const}
use Rattle.maths.proofs.Tasks.{each}
use Rattle.table.specs.declared.Platform.{Platform}
use Rattle.table.specs.declared.Table.{Table}
use Rattle.table.specs.Limits.{most_tasks}
use Rattle.table.specs.Tasks.{M, P, τ, T, A}
use Rattle.admission.specs.Test.{row}
use Rattle.machine.specs.declared.Machine.{Machine}
use Rattle.machine.specs.Jobs.{job, idle_cores, idle_partitions}
use Rattle.machine.specs.Fresh.{fresh}
use Rattle.machine.proofs.StateFresh.{fresh-n, fresh-task, fresh-job}
use Rattle.lives.specs.Life.{idle, runs}
use Rattle.conduct.specs.Lives.{life}
use Rattle.conduct.proofs.Idle.{idle-partitions, running-jobs}
use Rattle.rehearsal.specs.Multiple.{multiple, most_multiple}
use Rattle.rehearsal.specs.Rehearsal.{none_started, rehearsal}
use Rattle.rehearsal.specs.Bench.{Unrefused}
use Rattle.rehearsal.proofs.Counts.{entry-none}
use Rattle.rehearsal.proofs.Kept.{benched-fresh}
use Rattle.rehearsing.specs.declared.track.Track.{Track}
use Rattle.rehearsing.specs.Code.Lanes.{first_lane}
use Rattle.rehearsing.specs.Code.Tracks.{first_track}
use Rattle.rehearsing.proofs.LaneLaws.{lane_first}
use Rattle.rehearsing.specs.Code.Events.{Rehearsing, lanes_of}

module _ (t : Table) (u : Unrefused t) where
  abbrev f : Machine
  f = fresh t

  platform-fresh : f.table.platform ≡ t.platform
  unfolding fresh
  platform-fresh = refl

  few-fresh : f.table.n ≤ most_tasks
  few-fresh = (benched-fresh u).good.table.sizes.few

  module _ (k : ℕ) (l : k < f.table.n) where
    is-fresh : life (job f (suc k)) ≡ idle (T (τ f.table (suc k)))
    is-fresh =
        rw (
          fresh-job t k (omega (arith, few-fresh)) (rw (fresh-n t) at l),
          fresh-task t k (omega (arith, few-fresh)) (rw (fresh-n t) at l),
        )

  idle-fresh : (a : ℕ → ℕ) → Σ f.table.n (λ k. a k * runs (life (job f k))) ≡ 0
  idle-fresh a =
      Σ-ext f.table.n (λ k. a k * runs (life (job f k))) (λ k. 0)
      (each f.table.n _ (λ k l. rw (is-fresh k l) (omega arith)))
      ∙ (Σ_const f.table.n 0 ∙ omega arith)

  cores-fresh : (idle_cores f).0 ≡ M f.table
  cores-fresh =
      omega (
        arith,
        running-jobs f,
        Σ-ext f.table.n (λ k. runs (life (job f k))) (λ k. 1 * runs (life (job f k))) (λ k l h. omega arith),
        idle-fresh (λ k. 1),
      )

  partitions-fresh : (idle_partitions f).0 ≡ P f.table
  partitions-fresh =
      omega (arith, idle-partitions (benched-fresh u).good, idle-fresh (λ k. A (τ f.table k)))

  alike : replicate most_tasks first_lane ≡ tabulate most_tasks (λ k. first_lane)
  unfolding tabulate
  alike = refl

  lanes_fresh : replicate most_tasks first_lane
      ≡ tabulate most_tasks (lanes_of 0 f none_started)
  lanes_fresh = alike ∙ tabulate-ext (λ k. first_lane) _ most_tasks (λ k l. by k l (dec_le (suc k) f.table.n))
    where
      by : (k : ℕ) → k < most_tasks → Dec (suc k ≤ f.table.n)
          → first_lane ≡ lanes_of 0 f none_started (suc k)
      by k l (yes h) = rw (le-leb (suc k) f.table.n h, is-fresh k h, entry-none (suc k) (omega arith) l)
          (lane_first (row (τ f.table (suc k))))
      by k l (no h) = rw (lt-leb (suc k) f.table.n (omega arith), entry-none (suc k) (omega arith) l)

  pub rehearsing_none : (x : Track) → multiple t ≤ most_multiple → x ≡ first_track t.platform → Rehearsing t 0 x
  unfolding rehearsal
  rehearsing_none x l e =
      record {
        unrefused = u;
        small = l;
        within = omega arith;
        machine = f;
        started = none_started;
        benched = benched-fresh u;
        table = refl;
        stored = ap (λ (y : Track). y.lanes) e ∙ lanes_fresh;
        cores =
            ap (λ (y : Track). y.idle.cores.0) e
            ∙ (ap (λ (y : Platform). y.cores.0) (sym platform-fresh) ∙ sym cores-fresh);
        partitions =
            ap (λ (y : Track). y.idle.partitions.0) e
            ∙ (ap (λ (y : Platform). y.partitions.0) (sym platform-fresh) ∙ sym partitions-fresh);
        rest =
            let all : suc (multiple t) - 0 ≡ suc (multiple t) = omega arith in
            rw all;
      }
