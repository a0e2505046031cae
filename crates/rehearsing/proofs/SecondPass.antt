-- The second pass of an event as a loop: that it begins where the first pass ended with nobody late, what the code asks
-- before a turn, and that a turn of the code is a turn of the pass.
use Prim.Native.Nat.{ℕ, suc, ◌+◌, ◌<◌, ◌≤◌, min}
use mathlib.Core.Path.{◌≡◌, sym, ◌∙◌, ap}
use mathlib.Core.Bool.{Bool, true, false, cond}
use mathlib.Core.List.{List}
use mathlib.Core.Logic.{◌≢◌}
use native.Mathlib.Omega.{arith}
use lib.ListN.{get_or}
use Rattle.maths.proofs.Arrays.{up_to, up-past}
use Rattle.table.specs.declared.Table.{Table}
use Rattle.table.specs.declared.Task.{Task}
use Rattle.table.specs.Good.{GoodRow}
use Rattle.table.specs.Limits.{most_tasks}
use Rattle.table.specs.Tasks.{P, τ}
use Rattle.admission.specs.Test.{row}
use Rattle.machine.specs.declared.Machine.{Machine}
use Rattle.machine.specs.Jobs.{job, waits, idle_cores, idle_partitions}
use Rattle.machine.specs.Steps.{begun}
use Rattle.conduct.specs.Lives.{life}
use Rattle.rehearsal.specs.Multiple.{multiple, most_multiple}
use Rattle.rehearsal.specs.Rehearsal.{late_now}
use Rattle.rehearsal.proofs.Members.{sound-row}
use Rattle.rehearsal.proofs.OnBench.{started-most}
use Rattle.rehearsing.specs.declared.lanes.Lane.{Lane}
use Rattle.rehearsing.specs.declared.track.Track.{Track}
use Rattle.rehearsing.specs.Code.Lanes.{no_lane, Small, lane_waits, begun_lane, next_of}
use Rattle.rehearsing.specs.Code.Tracks.{lane_at, track_begun, goes_on}
use Rattle.rehearsing.proofs.LaneJobs.{job-waits, job-begun}
use Rattle.rehearsing.proofs.LanesOf.{lane_in, lane-started}
use Rattle.rehearsing.proofs.Readied.{before5, table5, good5, few5}
use Rattle.rehearsing.proofs.Judged.{settled_lanes_lem}
use Rattle.rehearsing.proofs.GivenBack.{cores-readied, partitions-readied}
use Rattle.rehearsing.proofs.Beginning.{moved_lane, Beginning, beginning_none, beginning_more}
use Rattle.rehearsal.proofs.Times.{never}
use Rattle.rehearsing.proofs.Events.{soon, in_n, same_row, small-row}
use Rattle.rehearsing.proofs.AfterFirst.{all, nobody}
use Rattle.rehearsing.specs.Code.Events.{Judging, Rehearsing, lane_of, lanes_of}

-- at task j + 1
pub record Starting (t : Table) (i : ℕ) (x : Track) (goes : Bool) (next : ℕ) (j : ℕ) : Type 0 where
  pub track₀ : Track
  pub before : Rehearsing t i track₀
  pub within : i < multiple t
  pub calm : late_now before.machine ≡ 0
  pub turn : Beginning (before5 (multiple t) i before.machine) i before.started x goes next j

pub starting_none : {t : Table} {i : ℕ} {x : Track} {k : ℕ} → Judging t i x k → t.n ≤ k → i ≢ multiple t
    → Starting t i x true never 0
starting_none {t = t} {i = i} {x = x} j over other =
    let h = j.before in
    let L = multiple t in
    let r = before5 L i h.machine in
    let within : i < L = omega (arith, h.within, other) in
    let calm = nobody j over in
    let cores : x.idle.cores.0 ≡ (idle_cores r).0 =
    j.turn.cores ∙ rw (all j over) (sym (cores-readied L h.benched (soon h) calm within)) in
    let partitions : x.idle.partitions.0 ≡ (idle_partitions r).0 =
    j.turn.partitions ∙ rw (all j over) (sym (partitions-readied L h.benched (soon h) calm within)) in
    record {
      track₀ = j.track₀;
      before = h;
      within = within;
      calm = calm;
      turn =
          beginning_none r i h.started x
          (j.turn.stored ∙ (ap (up_to most_tasks _ (lanes_of i h.machine h.started)) (all j over)
          ∙ settled_lanes_lem L h.benched (soon h) calm within))
          (λ c. record { 0 = cores c })
          (λ c. record { 0 = partitions c });
    }

module _ {t : Table} {i : ℕ} {x : Track} {goes : Bool} {next : ℕ} {j : ℕ} (s : Starting t i x goes next j)
    (l : j < t.n) where
  abbrev h : Rehearsing t i s.track₀
  h = s.before

  abbrev L : ℕ
  L = multiple t

  abbrev r : Machine
  r = before5 L i h.machine

  few : r.table.n ≤ most_tasks
  few = few5 L h.benched s.calm

  in_5 : j < r.table.n
  in_5 = omega (arith, in_n h j l, ap (λ (u : Table). u.n) (table5 L i h.machine))

  module _ (k : ℕ) (m : k < r.table.n) where
    abbrev τk : Task
    τk = τ r.table (suc k)

    lane_here : lanes_of (suc i) r h.started (suc k)
        ≡ lane_of (suc i) (row τk) (life (job r (suc k))) (get_or h.started k 0)
    lane_here = lane_in (suc i) r h.started k m

    good-row : GoodRow (P r.table) τk
    good-row = (good5 L h.benched s.calm).table.row k m

    waits-is : lane_waits (lanes_of (suc i) r h.started (suc k)) ≡ waits r (suc k)
    waits-is =
        rw lane_here
        (job-waits (suc i) (get_or h.started k 0) τk (job r (suc k))
        (omega (arith, s.within, h.small, good-row.deadline, good-row.short)) good-row.slack)

    begun-is : (held : ℕ) → waits r (suc k) ≡ true
        → begun_lane i τk (lanes_of (suc i) r h.started (suc k))
        ≡ lane_of (suc i) (row τk) (life (begun held (job r (suc k)))) (get_or h.started k 0 + 1)
    begun-is held w = rw lane_here (job-begun i (get_or h.started k 0) τk (job r (suc k)) held w)

  pub starting_more : (y : Track) (on : Bool) (at : ℕ) → y ≡ cond goes (track_begun j i (τ t (suc j)) x) x
      → on ≡ cond goes (goes_on j (τ t (suc j)) x) false → at ≡ min next (next_of (lane_at y j))
      → Starting t i y on at (j + 1)
  starting_more y on at e f m =
      let row-is : τ t (suc j) ≡ τ r.table (suc j) = sym (rw (table5 L i h.machine) (same_row h j l)) in
      record {
        track₀ = s.track₀;
        before = h;
        within = s.within;
        calm = s.calm;
        turn =
            beginning_more r i h.started few waits-is begun-is x goes next j s.turn in_5 y on at
            (e ∙ ap (λ (u : Task). cond goes (track_begun j i u x) x) row-is)
            (f ∙ ap (λ (u : Task). cond goes (goes_on j u x) false) row-is) m;
      }

  pub starting-small : Small i (τ t (suc j))
  starting-small = small-row h j l

  pub starting-count : (lane_at x j).started ≤ most_multiple
  starting-count =
      let here : lane_at x j ≡ lanes_of (suc i) r h.started (suc j) =
      ap (λ (x : List Lane). get_or x j no_lane) s.turn.stored
      ∙ up-past most_tasks (moved_lane r i h.started) (lanes_of (suc i) r h.started) j j no_lane
      (omega arith) (omega (arith, in_5, few)) in
      let count : (lane_at x j).started ≡ get_or h.started j 0 =
      ap (λ (x : Lane). x.started) here ∙ lane-started (suc i) r h.started (suc j) in
      let most : get_or h.started j 0 ≤ i =
      started-most (sound-row h.machine h.benched.good (suc j) (omega arith) (in_n h j l))
      (h.benched.each (suc j) (omega arith) (in_n h j l)) in
      omega (arith, count, most, h.within, h.small)
