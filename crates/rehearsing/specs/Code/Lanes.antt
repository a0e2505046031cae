-- What the code of a rehearsal does with the lane of one task. No statement rests on these definitions: they cut the
-- proof that `rehearse` comes to `rehearsed` into the parts that the source has.
use Rattle.std.specs.Prelude.{ℕ, ◌+◌, ◌≤◌, min, Bool, cond, not, ◌&&◌, eqb}
use Rattle.table.specs.declared.Task.{Task}
use Rattle.table.specs.Limits.{most_partitions, longest_period}
use Rattle.table.specs.Tasks.{D, T, C, A}
use Rattle.rehearsal.specs.Multiple.{most_multiple}
use Rattle.rehearsal.proofs.Times.{never}
use Rattle.rehearsing.specs.declared.lanes.Lane.{Lane}

-- what the code asks of a tick and a row: they are those of a table that is rehearsed, so that no sum wraps
pub record Small (i : ℕ) (τ : Task) : Type 0 where
  pub tick : i ≤ most_multiple
  pub period : T τ ≤ longest_period
  pub deadline : D τ ≤ longest_period
  pub run : C τ ≤ longest_period
  pub need : A τ ≤ most_partitions

-- what an array of lanes has past its end
abbrev pub no_lane : Lane
no_lane = record { due = 0; late = 0; ends = 0; started = 0 }

abbrev pub first_lane : Lane
first_lane = record { due = 0; late = never; ends = never; started = 0 }

abbrev pub lane_is_late : ℕ → Lane → Bool
lane_is_late i x = not (eqb x.ends i) && eqb x.late i

abbrev pub lane_waits : Lane → Bool
lane_waits x = not (eqb x.late never) && eqb x.ends never

-- nothing becomes of it at tick i, before step 5
abbrev pub lane_rests : ℕ → Lane → Bool
lane_rests i x = not (eqb x.due i) && (not (eqb x.late i) && not (eqb x.ends i))

-- steps 2 and 4 of tick i
abbrev pub settled_lane : ℕ → Task → Lane → Lane
settled_lane i τ x =
    record {
      due = cond (eqb x.due i) (i + T τ) x.due;
      late = cond (eqb x.due i) (i + D τ) (cond (eqb x.ends i) never x.late);
      ends = cond (eqb x.ends i) never x.ends;
      started = x.started;
    }

-- step 5 of tick i, of a job that starts
abbrev pub begun_lane : ℕ → Task → Lane → Lane
begun_lane i τ x = record { due = x.due; late = x.late; ends = i + C τ; started = x.started + 1 }

abbrev pub next_of : Lane → ℕ
next_of x = min x.due (min x.late x.ends)
