-- After the second pass of an event: nothing happens before the tick that it found, so that the ticks up to it are
-- leapt over, and the next event is there.
use Prim.Native.Nat.{ℕ, suc, ◌-◌, ◌<◌, ◌≤◌}
use mathlib.Core.Path.{◌≡◌, sym, subst, ◌∙◌, ap}
use mathlib.Core.Bool.{Bool}
use mathlib.Core.List.{List}
use native.Mathlib.Omega.{arith}
use lib.ListN.{get_or}
use Rattle.maths.specs.Tasks.{Each, tabulate}
use Rattle.maths.proofs.Arrays.{up_to}
use Rattle.maths.proofs.Tasks.{each}
use Rattle.table.specs.declared.Cores.{Cores}
use Rattle.table.specs.declared.Partitions.{Partitions}
use Rattle.table.specs.declared.Table.{Table}
use Rattle.table.specs.Limits.{most_tasks}
use Rattle.table.specs.Tasks.{τ}
use Rattle.admission.specs.Test.{row}
use Rattle.machine.specs.declared.Machine.{Machine}
use Rattle.machine.specs.Jobs.{job, idle_cores, idle_partitions}
use Rattle.conduct.specs.Lives.{life}
use Rattle.rehearsal.specs.Multiple.{multiple, Common}
use Rattle.rehearsal.specs.Rehearsal.{bench_tick, and_started, from, rehearsal}
use Rattle.rehearsal.proofs.Benched.{Benched}
use Rattle.rehearsal.proofs.Times.{never, NothingBefore}
use Rattle.rehearsal.proofs.From.{from_on}
use Rattle.rehearsal.proofs.Happens.{times, due-by, none-past}
use Rattle.rehearsal.proofs.Kept.{kept}
use Rattle.rehearsal.proofs.Leap.{Leapt, leap}
use Rattle.rehearsing.specs.declared.lanes.Lane.{Lane}
use Rattle.rehearsing.specs.declared.track.Track.{Track}
use Rattle.rehearsing.specs.Code.Lanes.{next_of}
use Rattle.rehearsing.proofs.LaneLaws.{next-nothing, nothing-next}
use Rattle.rehearsing.proofs.LanesOf.{lane_in, lanes_same}
use Rattle.rehearsing.proofs.Readied.{before5, table5}
use Rattle.rehearsing.proofs.Walk.{walk}
use Rattle.rehearsing.proofs.Beginning.{moved_lane}
use Rattle.rehearsing.proofs.Begun.{after5, after_is, cores-after, partitions-after, begun-lane, begun_lanes}
use Rattle.rehearsing.proofs.Events.{common, same-n}
use Rattle.rehearsing.proofs.SecondPass.{Starting}
use Rattle.rehearsing.specs.Code.Events.{Rehearsing, lane_of, lanes_of}

module _ {t : Table} {i : ℕ} {y : Track} {goes : Bool} {next : ℕ} {j : ℕ} (s : Starting t i y goes next j)
    (over : t.n ≤ j) where
  abbrev h : Rehearsing t i s.track₀
  h = s.before

  abbrev L : ℕ
  L = multiple t

  abbrev b : Benched i h.machine h.started
  b = h.benched

  abbrev r : Machine
  r = before5 L i h.machine

  abbrev x : Machine
  x = after5 L i h.machine

  abbrev n : ℕ
  n = x.table.n

  abbrev started : List ℕ
  started = and_started h.started (bench_tick L i h.machine).answer.started

  is : (bench_tick L i h.machine).machine ≡ x
  is = after_is L b s.calm

  x-table : x.table ≡ h.machine.table
  x-table = table5 L i h.machine

  all-tasks : j ≡ n
  all-tasks = omega (arith, s.turn.low, same-n h, ap (λ (u : Table). u.n) x-table)

  benched : Benched (suc i) x started
  benched = subst (λ (z : Machine). Benched (suc i) z started) is (kept L b s.calm s.within)

  stored : y.lanes ≡ tabulate most_tasks (lanes_of (suc i) x started)
  stored =
      s.turn.stored ∙ (ap (up_to most_tasks _ _) all-tasks ∙ begun_lanes L b s.calm)

  rest : rehearsal t ≡ from L (suc L - suc i) (suc i) x started
  rest =
      let left : suc L - i ≡ suc (suc L - suc i) = omega (arith, s.within) in
      h.rest
      ∙ (ap (λ (z : ℕ). from L z i h.machine h.started) left
      ∙ (from_on L i h.machine h.started (suc L - suc i) s.calm
      ∙ ap (λ (z : Machine). from L (suc L - suc i) (suc i) z started) is))

  lane-is : (k : ℕ) → k < n → moved_lane r i h.started (suc k)
      ≡ lane_of (suc i) (row (τ x.table (suc k))) (life (job x (suc k))) (get_or started k 0)
  lane-is k l =
      begun-lane L b s.calm k l ∙ lane_in (suc i) x started k l

  nothing : Each n (λ k. NothingBefore next (times (suc i) x k))
  nothing =
      each n _ λ k l. next-nothing (suc i) (row (τ x.table (suc k))) (get_or started k 0) (life (job x (suc k)))
      (subst (λ (z : Lane). next ≤ next_of z) (lane-is k l) (s.turn.below k (omega (arith, all-tasks))))

  soon-after : suc i < never
  soon-after = omega (arith, s.within, h.small)

  pub next-later : suc i ≤ next
  next-later =
      s.turn.above (suc i) (omega (arith, soon-after)) λ k l.
      let in_n : k < n = omega (arith, all-tasks) in
      subst (λ (z : Lane). suc i ≤ next_of z) (sym (lane-is k in_n))
      (nothing-next (suc i) (row (τ x.table (suc k))) (get_or started k 0) (life (job x (suc k)))
      (none-past benched (suc k) (omega arith) in_n soon-after))

  next-within : next ≤ L
  next-within =
      let some : 1 ≤ n = benched.good.table.sizes.some in
      let divides : Common x.table L = rw x-table (common h) in
      omega (arith, (nothing 1 (omega arith) some).due, due-by benched 1 (omega arith) some L divides s.within)

  leapt : Leapt L (suc i) next x started
  leapt = leap benched next-later next-within nothing

  pub next_event : Rehearsing t next y
  next_event =
      record {
        unrefused = h.unrefused;
        small = h.small;
        within = next-within;
        machine = leapt.machine;
        started = started;
        benched = leapt.benched;
        table = leapt.table ∙ (x-table ∙ h.table);
        stored =
            stored
            ∙ sym (lanes_same next (suc i) leapt.machine x started same-tasks
            (λ k l o. leapt.same_times k l (omega (arith, same-tasks))));
        cores = ap (λ (z : Cores). z.0) (cores ∙ sym leapt.cores);
        partitions = ap (λ (z : Partitions). z.0) (partitions ∙ sym leapt.partitions);
        rest = rest ∙ leapt.goes_on;
      }
    where
      same-tasks : leapt.machine.table.n ≡ n
      same-tasks = ap (λ (u : Table). u.n) leapt.table

      cores : y.idle.cores ≡ idle_cores x
      cores =
          s.turn.cores
          ∙ (ap (λ (k : ℕ). (walk r k).cores) all-tasks ∙ cores-after L b s.calm)

      partitions : y.idle.partitions ≡ idle_partitions x
      partitions =
          s.turn.partitions
          ∙ (ap (λ (k : ℕ). (walk r k).partitions) all-tasks ∙ partitions-after L b s.calm)
