-- What an accepted tick does, as the theory of lives needs it: S-good, S-next, S-full and S-start. Nothing else of a
-- tick is used above this crate.
-- Another style of step 5 has another S-full and S-start; the rest stays.
use Rattle.std.specs.Prelude.{◌≡◌, true, ℕ, ◌<◌}
use Rattle.maths.specs.Tasks.{Each}
use Rattle.table.specs.declared.Table.{Table}
use Rattle.table.specs.Tasks.{M, τ, A}
use Rattle.admission.specs.Test.{row, B}
use Rattle.sets.specs.TaskSets.{has_task}
use Rattle.machine.specs.declared.Machine.{Machine}
use Rattle.machine.specs.Jobs.{job, top}
use Rattle.machine.specs.Conditions.{good_state}
use Rattle.lives.specs.Life.{waits, runs, rise, finish, release, start, Allowed}
use Rattle.lives.specs.Test.{Full}
use Rattle.conduct.specs.Lives.{life}

-- Lemma 1 of the report, where r i is 1 for each task i that runs: M jobs run, or hold so many partitions that task k
-- of table t may be blocked.
abbrev pub FullWith : Table → ℕ → (ℕ → ℕ) → Type 0
FullWith t k r = Full t.n (M t) (B t k) (λ i. A (τ t i)) r

-- state x is full for task k
abbrev pub FullFor : Table → Machine → ℕ → Type 0
FullFor t x k = FullWith t k (λ i. runs (life (job x i)))

-- From state m, by a tick that releases R, finishes F and starts S, to state x, both with the table t.
pub record Conduct (t : Table) (m x : Machine) (R F S : ℕ) : Type 0 where
  -- S-good
  pub table : x.table ≡ t
  pub good : good_state x ≡ true
  -- S-next: that task k is finished, released and started as the three sets say is allowed, and it is what becomes of
  -- the life of k
  pub allows : Each t.n
      (λ k. Allowed (row (τ t k)) (rise (top (τ t k)) (life (job m k))) (has_task F k) (has_task R k) (has_task S k))
  pub moves : Each t.n (λ k.
      start (has_task S k) (release (has_task R k) (finish (has_task F k) (rise (top (τ t k)) (life (job m k)))))
      ≡ life (job x k))
  -- S-full: the state is full for each task that it leaves waiting
  pub full : Each t.n (λ k. waits (life (job x k)) ≡ 1 → FullFor t x k)
  -- S-start: and none behind such a task has started
  pub order : Each t.n (λ k. waits (life (job x k)) ≡ 1 → Each t.n (λ i. has_task S i ≡ true → i < k))
