-- What holds before tick i of a rehearsal, up to L, where nobody was late before: the state is good, nobody who waits
-- fits, and each task was released at each multiple of its period and started all its jobs but one that waits.
use Prim.Native.Nat.{ℕ, ◌+◌, ◌*◌, ◌<◌}
use mathlib.Core.Path.{◌≡◌}
use mathlib.Core.List.{List}
use lib.ListN.{length}
use Rattle.maths.specs.Tasks.{Each, entry}
use Rattle.table.specs.Limits.{most_tasks}
use Rattle.table.specs.Tasks.{τ}
use Rattle.admission.specs.Test.{row}
use Rattle.machine.specs.declared.Machine.{Machine}
use Rattle.machine.specs.Jobs.{job}
use Rattle.machine.specs.Steps.{pick}
use Rattle.machine.proofs.StateParts.{GoodState}
use Rattle.lives.specs.Report.{Row}
use Rattle.lives.specs.Life.{Life, age, idles, waits, up}
use Rattle.conduct.specs.Lives.{life}

-- Of one task, of life x, which started s jobs.
pub record OnBench (i : ℕ) (row : Row) (x : Life) (s : ℕ) : Type 0 where
  -- it was released s times, and once more if its job waits, and its next release is as many periods after tick 0
  pub counts : (s + waits x) * row.T + up row.T (age x) ≡ i + row.T
  -- an unfinished job is younger than its deadline
  pub young : idles x ≡ 0 → age x < row.D

pub record Benched (i : ℕ) (m : Machine) (started : List ℕ) : Type 0 where
  pub rows : length m.table.rows ≡ most_tasks
  pub jobs : length m.jobs ≡ most_tasks
  pub entries : length started ≡ most_tasks
  pub good : GoodState m
  pub each : Each m.table.n (λ k. OnBench i (row (τ m.table k)) (life (job m k)) (entry started k 0))
  -- nobody who waits fits
  pub stopped : pick m ≡ 0
