-- What a style of scheduling supplies, and the course of a machine under it. A state gives each task its life; state t
-- is the one after t accepted ticks.
-- Nothing here says how a style chooses whom to start: the report's proofs of its tests, for whichever style, need no
-- more.
use Rattle.std.specs.Prelude.{◌≡◌, ℕ, suc, ◌+◌, ◌≤◌, ◌<◌}
use Rattle.maths.specs.Sums.{sum}
use Rattle.maths.specs.Tasks.{Each}
use Rattle.lives.specs.Report.{Row, slack}
use Rattle.lives.specs.Life.{Sound, Life, idle, waiting, age, idles, waits, runs, count, Next, InRow, WithinC}
use Rattle.lives.specs.Life.{InTime}

-- The report's problem window of task k: S states y 0, y 1, .. from the one that k's job is released in, in all of
-- which that job waits.
pub record Problem (n : ℕ) (rows : ℕ → Row) (top : ℕ → ℕ) (Starts : ℕ → (ℕ → Life) → Type 0) (k : ℕ)
    (y : ℕ → ℕ → Life) : Type 0 where
  pub waited : (e : ℕ) → e < slack (rows k) → y e k ≡ waiting e
  pub starts : (e : ℕ) → e < slack (rows k) → Starts k (y e)
  pub next : Each n (λ i. InRow (rows i) (top i) (λ e. y e i) (slack (rows k)))
  pub within : Each n (λ i. WithinC (rows i) (y 0 i))
  pub in_time : Each n (λ i. InTime (rows i) (y 0 i))

-- A style, on a sound table that passes the style's test.
pub record Style (n : ℕ) (rows : ℕ → Row) (top : ℕ → ℕ) : Type 1 where
  pub sound : Each n (λ i. Sound (rows i))
  -- ages are held at T or above
  pub held : Each n (λ i. (rows i).T ≤ top i)
  -- of the tasks that run (1 or 0 each) in a state in which k waits: the report's lemma 1
  pub Full : ℕ → (ℕ → ℕ) → Type 0
  -- of the tasks that start in a tick after which k waits: in the state after it they run and have run 0
  pub Starts : ℕ → (ℕ → Life) → Type 0
  -- I of the report: how many states of k's problem window task i can run in
  pub charge : ℕ → ℕ → ℕ
  pub charged : Each n (λ k. (y : ℕ → ℕ → Life) → Problem n rows top Starts k y
      → Each n (λ i. count (λ e. y e i) (slack (rows k)) ≤ charge k i))
  -- the test: tasks that run (1 or 0 each) in no more states than they are charged for leave one of S states that is
  -- not full
  pub passed : Each n (λ k. (r : ℕ → ℕ → ℕ) → ((e : ℕ) → Each n (λ i. r e i ≤ 1))
      → Each n (λ i. sum (λ e. r e i) (slack (rows k)) ≤ charge k i)
      → ((e : ℕ) → e < slack (rows k) → Full k (r e)) → ⊥)

-- States x 0 to x N, the first one fresh, each other one after a tick of the style.
pub record Course {n : ℕ} {rows : ℕ → Row} {top : ℕ → ℕ} (style : Style n rows top)
    (x : ℕ → ℕ → Life) (N : ℕ) : Type 0 where
  pub fresh : Each n (λ i. x 0 i ≡ idle (rows i).T)
  pub next : (t : ℕ) → t < N → Each n (λ i. Next (rows i) (top i) (x t i) (x (suc t) i))
  pub full : (t : ℕ) → t < N → Each n (λ k. waits (x (suc t) k) ≡ 1 → style.Full k (λ i. runs (x (suc t) i)))
  pub starts : (t : ℕ) → t < N → Each n (λ k. waits (x (suc t) k) ≡ 1 → style.Starts k (x (suc t)))

-- Task k has a job in each of the states t to t + d, released by the tick that leads to state t.
pub record Unfinished (x : ℕ → ℕ → Life) (k t d : ℕ) : Type 0 where
  pub released : age (x t k) ≡ 0
  pub since : (e : ℕ) → e ≤ d → idles (x (t + e) k) ≡ 0
