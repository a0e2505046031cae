-- What lemma 1 of the report says of a state in which a task waits, what such a state weighs, and a test by weights:
-- the proof of the second test without time.
use Rattle.std.specs.Prelude.{ℕ, ◌*◌, ◌≤◌, ◌<◌}
use Rattle.maths.specs.Sums.{Σ}
use Rattle.maths.specs.Tasks.{Each}
use Rattle.lives.specs.Report.{Row, slack, interference_of}

-- Of n tasks, of which i asks for A i partitions and runs r i times (1 or 0), all M cores are busy, or B partitions
-- are.
pub data Full (n M B : ℕ) (A r : ℕ → ℕ) : Type 0 where
  busy_cores : M ≤ Σ n r → Full n M B A r
  busy_cache : B ≤ Σ n (λ i. A i * r i) → Full n M B A r

-- Where task i weighs w i, the tasks that run in a full state weigh `scale` together, or more.
abbrev pub Heavy : (n scale : ℕ) (w : ℕ → ℕ) → ((ℕ → ℕ) → Type 0) → Type 0
Heavy n scale w IsFull = (r : ℕ → ℕ) → Each n (λ i. r i ≤ 1) → IsFull r → scale ≤ Σ n (λ i. w i * r i)

-- Where task i is charged I i, all charges together weigh less than S full states.
abbrev pub Light : (n scale : ℕ) (w I : ℕ → ℕ) (S : ℕ) → Type 0
Light n scale w I S = Σ n (λ i. w i * I i) < scale * S

-- A test by weights that each of n tasks passes: for task k, task i weighs `weight k i`.
pub record Weighed (n : ℕ) (rows : ℕ → Row) (IsFull : ℕ → (ℕ → ℕ) → Type 0) : Type 0 where
  pub scale : ℕ → ℕ
  pub weight : ℕ → ℕ → ℕ
  pub heavy : Each n (λ k. Heavy n (scale k) (weight k) (IsFull k))
  pub light : Each n (λ k. Light n (scale k) (weight k) (interference_of rows k) (slack (rows k)))
