-- What the code of a rehearsal does with the lanes of all tasks, a task at a time. No statement rests on these
-- definitions either.
use Rattle.std.specs.Prelude.{ℕ, ◌+◌, ◌-◌, Bool, true, cond, List, Option, eqb, get_or, replicate}
use Rattle.std.specs.Prelude.{slice_set}
use Rattle.std.specs.Option.{unwrap_or}
use Rattle.maths.specs.Tasks.{tabulate, entry}
use Rattle.table.specs.declared.Platform.{Platform}
use Rattle.table.specs.declared.Task.{Task}
use Rattle.table.specs.Limits.{most_tasks}
use Rattle.table.specs.Refused.{no_refusal}
use Rattle.table.specs.Tasks.{A}
use Rattle.machine.specs.Steps.{fits_in}
use Rattle.rehearsal.specs.declared.Rehearsal.{Rehearsal}
use Rattle.rehearsing.specs.declared.lanes.Lane.{Lane}
use Rattle.rehearsing.specs.declared.track.Track.{Track}
use Rattle.rehearsing.specs.Code.Lanes.{no_lane, first_lane, lane_waits, settled_lane, begun_lane}

abbrev pub first_track : Platform → Track
first_track platform = record { lanes = replicate most_tasks first_lane; idle = platform }

-- of task k + 1
abbrev pub lane_at : Track → ℕ → Lane
lane_at x k = get_or x.lanes k no_lane

-- what a job that ends gives back
abbrev pub given_back : Bool → Task → Platform → Platform
given_back over τ idle =
    record {
      cores = record { 0 = idle.cores.0 + cond over 1 0 };
      partitions = record { 0 = idle.partitions.0 + cond over (A τ) 0 };
    }

-- what a job that starts takes
abbrev pub taken : Task → Platform → Platform
taken τ idle =
    record {
      cores = record { 0 = idle.cores.0 - 1 };
      partitions = record { 0 = idle.partitions.0 - A τ };
    }

-- steps 1 to 4 of tick i, of task k + 1
abbrev pub track_settled : ℕ → ℕ → Task → Track → Track
track_settled k i τ x =
    record {
      lanes = slice_set x.lanes k (settled_lane i τ (lane_at x k));
      idle = given_back (eqb (lane_at x k).ends i) τ x.idle;
    }

abbrev pub has_room : Task → Track → Bool
has_room τ x = fits_in x.idle.cores x.idle.partitions τ

-- step 5 of tick i, of task k + 1: it starts, or does not wait, or the step ends with it
abbrev pub track_begun : ℕ → ℕ → Task → Track → Track
track_begun k i τ x =
    cond (lane_waits (lane_at x k))
    (cond (has_room τ x)
    (record { lanes = slice_set x.lanes k (begun_lane i τ (lane_at x k)); idle = taken τ x.idle }) x) x

abbrev pub goes_on : ℕ → Task → Track → Bool
goes_on k τ x = cond (lane_waits (lane_at x k)) (has_room τ x) true

-- how many jobs the task of each lane started
abbrev pub starts_of : List Lane → List ℕ
starts_of lanes = tabulate most_tasks (λ k. (entry lanes k no_lane).started)

-- with a tick and its lowest late task, 0 and 0 where none is
abbrev pub ended_at : ℕ × ℕ → List Lane → Rehearsal
ended_at late lanes = record { refused = no_refusal; tick = late.0; task = late.1; started = starts_of lanes }

abbrev pub ended : Option (ℕ × ℕ) → List Lane → Rehearsal
ended late lanes = ended_at (unwrap_or late (0, 0)) lanes
