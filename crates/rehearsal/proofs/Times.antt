-- A task's life on the bench by the ticks to come: its next release, the tick at which its unfinished job is late, and
-- the tick at which its running job has run C. They stay the same while nothing happens.
use Prim.Native.Nat.{ℕ, suc, ◌+◌, ◌-◌, ◌≤◌}
use Rattle.lives.specs.Report.{Row}
use Rattle.lives.specs.Life.{Life, idle, waiting, running, up}

-- later than any tick of a rehearsal
abbrev pub never : ℕ
never = 4294967295

pub record Times : Type 0 where
  pub due : ℕ
  pub late : ℕ
  pub ends : ℕ

-- of life x before tick i
abbrev pub times_of : ℕ → Row → Life → Times
times_of i row (idle a) = record { due = i + row.T - up row.T a; late = never; ends = never }
times_of i row (waiting a) = record { due = i + row.T - up row.T a; late = i + row.D - suc a; ends = never }
times_of i row (running a r) =
    record { due = i + row.T - up row.T a; late = i + row.D - suc a; ends = i + row.C - suc r }

-- nothing happens before tick x
pub record NothingBefore (x : ℕ) (t : Times) : Type 0 where
  pub due : x ≤ t.due
  pub late : x ≤ t.late
  pub ends : x ≤ t.ends
