-- What holds of the lanes and counts at each event of a rehearsal, before its first pass, in it and after it: they are
-- those of a machine on the bench. No statement rests on these definitions either: they are the invariants of the code.
use Rattle.std.specs.Prelude.{ℕ, suc, ◌+◌, ◌-◌, ◌≤◌, ◌≡◌, Bool, cond, List, leb, eqb}
use Rattle.maths.specs.Sums.{Σ}
use Rattle.maths.specs.Tasks.{lowest, entry, tabulate}
use Rattle.maths.proofs.Arrays.{up_to}
use Rattle.table.specs.declared.Table.{Table}
use Rattle.table.specs.Limits.{most_tasks}
use Rattle.table.specs.Tasks.{τ, A}
use Rattle.admission.specs.Test.{row}
use Rattle.machine.specs.declared.Machine.{Machine}
use Rattle.machine.specs.Jobs.{job, idle_cores, idle_partitions}
use Rattle.machine.specs.Fresh.{fresh}
use Rattle.lives.specs.Report.{Row}
use Rattle.lives.specs.Life.{Life}
use Rattle.conduct.specs.Lives.{life}
use Rattle.rehearsal.specs.Multiple.{multiple, most_multiple}
use Rattle.rehearsal.specs.Rehearsal.{from, rehearsal}
use Rattle.rehearsal.specs.Bench.{Unrefused}
use Rattle.rehearsal.proofs.Benched.{Benched}
use Rattle.rehearsal.proofs.Times.{never, times_of}
use Rattle.rehearsing.specs.declared.lanes.Lane.{Lane}
use Rattle.rehearsing.specs.declared.track.Track.{Track}
use Rattle.rehearsing.specs.Code.Lanes.{lane_is_late, settled_lane}

-- the times of a task's life x before tick i, and how many jobs it started
abbrev pub lane_of : ℕ → Row → Life → ℕ → Lane
lane_of i row x s =
    record {
      due = (times_of i row x).due;
      late = (times_of i row x).late;
      ends = (times_of i row x).ends;
      started = s;
    }

abbrev pub past_lane : ℕ → Lane
past_lane s = record { due = 0; late = never; ends = never; started = s }

-- of a machine before tick i, where s jobs were started: each task's from its life, and past n none but their count
abbrev pub lanes_of : ℕ → Machine → List ℕ → ℕ → Lane
lanes_of i m s k =
    cond (leb k m.table.n)
    (lane_of i (row (τ m.table k)) (life (job m k)) (entry s k 0))
    (past_lane (entry s k 0))

-- before tick i: what is left of the rehearsal is that of the machine from this tick on
pub record Rehearsing (t : Table) (i : ℕ) (x : Track) : Type 0 where
  pub unrefused : Unrefused t
  pub small : multiple t ≤ most_multiple
  pub within : i ≤ multiple t
  pub machine : Machine
  pub started : List ℕ
  pub benched : Benched i machine started
  pub table : machine.table ≡ (fresh t).table
  pub stored : x.lanes ≡ tabulate most_tasks (lanes_of i machine started)
  pub cores : x.idle.cores.0 ≡ (idle_cores machine).0
  pub partitions : x.idle.partitions.0 ≡ (idle_partitions machine).0
  pub rest : rehearsal t ≡ from (multiple t) (suc (multiple t) - i) i machine started

-- lanes `before` of the tasks of table t
module _ (t : Table) (i : ℕ) (before : ℕ → Lane) where
  abbrev pub over : ℕ → Bool
  over k = eqb (before k).ends i

  -- past n a lane stays as it is
  abbrev pub settled_at : ℕ → Lane
  settled_at k = cond (leb k t.n) (settled_lane i (τ t k) (before k)) (before k)

  -- how many of tasks 1 to k finish, and how many partitions they give up
  abbrev pub cores_back : ℕ → ℕ
  cores_back k = Σ k (λ j. cond (over j) 1 0)

  abbrev pub partitions_back : ℕ → ℕ
  partitions_back k = Σ k (λ j. cond (over j) (A (τ t j)) 0)

  -- the first pass at task k + 1, nobody being late before, where so many cores and partitions were idle
  module _ (cores_before partitions_before : ℕ) where
    pub record Settling (x : Track) (k : ℕ) : Type 0 where
      pub low : k ≤ t.n
      pub stored : x.lanes ≡ up_to most_tasks settled_at before k
      pub cores : x.idle.cores.0 ≡ cores_before + cores_back k
      pub partitions : x.idle.partitions.0 ≡ partitions_before + partitions_back k
      pub nobody : lowest k (λ j. lane_is_late i (before j)) ≡ 0

pub record Judging (t : Table) (i : ℕ) (x : Track) (k : ℕ) : Type 0 where
  pub track₀ : Track
  pub before : Rehearsing t i track₀
  pub turn : Settling before.machine.table i (lanes_of i before.machine before.started)
      (idle_cores before.machine).0 (idle_partitions before.machine).0 x k
