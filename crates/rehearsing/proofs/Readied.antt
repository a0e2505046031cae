-- The machine before step 5 of tick i of a rehearsal: its table is the same, its state is good, and each life in it is
-- the one that steps 1, 2 and 4 make.
use Prim.Native.Nat.{ℕ, suc, ◌<◌, ◌≤◌}
use mathlib.Core.Path.{◌≡◌, ◌∙◌, ap}
use mathlib.Core.Bool.{Bool}
use mathlib.Core.List.{List}
use native.Mathlib.Omega.{arith}
use Rattle.table.specs.declared.Task.{Task}
use Rattle.table.specs.Limits.{most_tasks}
use Rattle.table.specs.Tasks.{τ, T}
use Rattle.sets.specs.TaskSets.{has_task}
use Rattle.machine.specs.declared.Machine.{Machine}
use Rattle.machine.specs.Jobs.{job}
use Rattle.machine.specs.Tick.{readied}
use Rattle.machine.proofs.Accepted.{accepted-is}
use Rattle.machine.proofs.Jobs.{readied-job, readied-table}
use Rattle.machine.proofs.StateParts.{GoodState}
use Rattle.lives.specs.Life.{rise, finish, release}
use Rattle.conduct.specs.Lives.{life}
use Rattle.conduct.proofs.Lives.{life-readied}
use Rattle.conduct.proofs.Ready.{readied-good}
use Rattle.rehearsal.specs.Rehearsal.{released_at, full, late_now}
use Rattle.rehearsal.proofs.Benched.{Benched}
use Rattle.rehearsal.proofs.Goes.{goes}
use Rattle.rehearsal.proofs.Members.{in_most}

abbrev pub before5 : (L i : ℕ) → Machine → Machine
before5 L i m = readied m (released_at L m.table i) (full m)

pub table5 : (L i : ℕ) (m : Machine) → (before5 L i m).table ≡ m.table
table5 L i m = readied-table m (released_at L m.table i) (full m)

module _ (L : ℕ) {i : ℕ} {m : Machine} {s : List ℕ} (b : Benched i m s) where
  module _ (k : ℕ) (l : k < m.table.n) where
    abbrev f : Bool
    f = has_task (full m) (suc k)

    abbrev d : Bool
    d = has_task (released_at L m.table i) (suc k)

    abbrev τk : Task
    τk = τ m.table (suc k)

    pub life5 : life (job (before5 L i m) (suc k)) ≡ release d (finish f (rise (T τk) (life (job m (suc k)))))
    life5 =
        ap life (readied-job m (suc k) (omega arith) l (in_most m b.good (suc k) (omega arith) l) _ _)
        ∙ life-readied τk d f (job m (suc k))

  module _ (calm : late_now m ≡ 0) where
    pub good5 : GoodState (before5 L i m)
    good5 = readied-good m (released_at L m.table i) (full m) b.good (accepted-is m _ _ (goes L b calm))

    pub few5 : (before5 L i m).table.n ≤ most_tasks
    few5 = good5.table.sizes.few
