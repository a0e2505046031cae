-- The first pass of an event as a loop: what the code asks before a turn, and that a turn of the code is a turn of the
-- pass.
use Prim.Native.Nat.{ℕ, suc, ◌+◌, ◌<◌, ◌≤◌}
use mathlib.Core.Path.{◌≡◌, ◌∙◌}
use mathlib.Core.Bool.{false}
use native.Mathlib.Omega.{arith}
use Rattle.maths.proofs.Tasks.{each}
use Rattle.table.specs.declared.Table.{Table}
use Rattle.table.specs.Limits.{most_partitions}
use Rattle.table.specs.Tasks.{τ, A}
use Rattle.machine.specs.Jobs.{idle_cores, idle_partitions}
use Rattle.conduct.proofs.Idle.{idle-partitions}
use Rattle.rehearsal.proofs.Benched.{Benched}
use Rattle.rehearsing.specs.declared.track.Track.{Track}
use Rattle.rehearsing.specs.Code.Lanes.{Small, lane_is_late}
use Rattle.rehearsing.specs.Code.Tracks.{lane_at, track_settled}
use Rattle.rehearsing.proofs.Settling.{settling_none, settling_more}
use Rattle.rehearsing.proofs.Settling.{cores-small, partitions-small}
use Rattle.rehearsing.proofs.Events.{in_n, same_row, small-row}
use Rattle.rehearsing.specs.Code.Events.{Judging, Rehearsing}
use Rattle.rehearsing.specs.Code.Events.{Judging, Rehearsing}

pub judging_none : {t : Table} {i : ℕ} {x : Track} → Rehearsing t i x → Judging t i x 0
judging_none {x = x} h =
    record { track₀ = x; before = h; turn = settling_none _ _ _ _ _ x h.stored h.cores h.partitions }

module _ {t : Table} {i : ℕ} {x : Track} {k : ℕ} (j : Judging t i x k) (l : k < t.n) where
  abbrev h : Rehearsing t i j.track₀
  h = j.before

  abbrev b : Benched i h.machine h.started
  b = h.benched

  pub judging_more : (next : Track) → lane_is_late i (lane_at x k) ≡ false → next ≡ track_settled k i (τ t (suc k)) x
      → Judging t i next (k + 1)
  judging_more next calm e =
      record {
        track₀ = j.track₀;
        before = h;
        turn =
            settling_more _ _ _ _ _ b.good.table.sizes.few x k j.turn (in_n h k l) next calm
            (e ∙ rw (same_row h k l));
      }

  pub judging-small : Small i (τ t (suc k))
  judging-small = small-row h k l

  pub judging-idle : (x.idle.cores.0 ≤ 65535) × (x.idle.partitions.0 ≤ 65535)
  judging-idle =
      let sizes = b.good.table.sizes in
      let few-cores : (idle_cores h.machine).0 ≤ most_partitions = omega (arith, sizes.cores) in
      let few-partitions : (idle_partitions h.machine).0 ≤ most_partitions =
      omega (arith, idle-partitions b.good, sizes.partitions) in
      let small = each h.machine.table.n (λ j. A (τ h.machine.table j) ≤ most_partitions)
      (λ j m. omega (arith, (b.good.table.row j m).room, sizes.partitions)) in (
        cores-small _ _ _ _ _ sizes.few x k j.turn (in_n h k l) small few-cores few-partitions,
        partitions-small _ _ _ _ _ sizes.few x k j.turn (in_n h k l) small few-cores few-partitions,
      )
