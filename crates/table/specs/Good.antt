-- What it is for a table to earn none of refusals 1 to 8, part by part: the form in which the crates above use it.
use Rattle.std.specs.Prelude.{ℕ, suc, ◌≤◌, ◌<◌}
use Rattle.table.specs.declared.Task.{Task}
use Rattle.table.specs.declared.Table.{Table}
use Rattle.table.specs.Limits.{most_tasks, most_cores, most_partitions, longest_period}
use Rattle.table.specs.Tasks.{M, P, τ, D, T, C, A}

-- refusals 4 to 8, of a row on a cache of p partitions
pub record GoodRow (p : ℕ) (τ : Task) : Type 0 where
  pub period : 1 ≤ T τ
  pub short : T τ ≤ longest_period
  pub runs : 1 ≤ C τ
  pub slack : C τ ≤ D τ
  pub deadline : D τ ≤ T τ
  pub room : A τ ≤ p

-- refusals 1 to 3
pub record GoodSizes (t : Table) : Type 0 where
  pub some : 1 ≤ t.n
  pub few : t.n ≤ most_tasks
  pub core : 1 ≤ M t
  pub cores : M t ≤ most_cores
  pub partition : 1 ≤ P t
  pub partitions : P t ≤ most_partitions

pub record Good (t : Table) : Type 0 where
  pub sizes : GoodSizes t
  pub row : (i : ℕ) → i < t.n → GoodRow (P t) (τ t (suc i))
