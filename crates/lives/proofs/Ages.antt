-- What the theorem says in ticks: an age is the number of ticks since the release, so that a job starts less than its
-- slack after it, and ends before its deadline.
use mathlib.Core.Path.{◌≡◌}
use Prim.Native.Nat.{ℕ, zero, suc, ◌+◌, ◌≤◌, ◌<◌}
use native.Mathlib.Omega.{arith}
use native.Mathlib.Nat.{add-zero, add-suc}
use Rattle.lives.specs.Report.{Row, slack}
use Rattle.lives.specs.Life.{Life, age, ran, idles, waits, runs}
use Rattle.lives.specs.Style.{Style, Course, Unfinished}
use Rattle.lives.proofs.Steps.{step}
use Rattle.lives.proofs.OnTime.{waiting-age, running-age, young, counts}
use Rattle.lives.proofs.InTime.{all-within, all_on_time}

module _ {n : ℕ} {rows : ℕ → Row} {top : ℕ → ℕ} {style : Style n rows top} {x : ℕ → ℕ → Life}
    {N : ℕ} (c : Course style x N)
    (k : ℕ) (p : 1 ≤ k) (q : k ≤ n) (t : ℕ) where
  pub age-counts : (d : ℕ) → t + d ≤ N → Unfinished x k t d → age (x (t + d) k) ≡ d
  age-counts zero l job = rw add-zero job.released
  age-counts (suc d) l job =
      let before : age (x (t + d) k) ≡ d =
      age-counts d (omega arith) (record { released = job.released; since = λ e h. job.since e (omega arith) }) in
      let last : idles (x (suc (t + d)) k) ≡ 0 = rw add-suc at (job.since (suc d) (omega arith)) in
      let more : age (x (suc (t + d)) k) ≡ suc (age (x (t + d) k)) =
      counts (rows k) (top k) (style.sound k p q) (style.held k p q)
      (step (all-within c (t + d) (omega arith) k p q) (c.next (t + d) (omega arith) k p q))
      (all-within c (t + d) (omega arith) k p q) (all_on_time c (t + d) (omega arith) k p q)
      (job.since d (omega arith)) last in
      rw add-suc (omega arith)

  module _ (d : ℕ) (l : t + d ≤ N) (job : Unfinished x k t d) where
    -- A job that waits d ticks after its release can wait another, and be started before its slack is used up.
    pub waits-below-slack : waits (x (t + d) k) ≡ 1 → suc d < slack (rows k)
    waits-below-slack w =
        omega (arith, age-counts d l job, waiting-age (rows k) (x (t + d) k) (all_on_time c (t + d) l k p q) w)

    -- One that has run r ticks, d ticks after its release, was started before its slack was used up.
    pub runs-below-slack : runs (x (t + d) k) ≡ 1 → d < ran (x (t + d) k) + slack (rows k)
    runs-below-slack w =
        omega (arith, age-counts d l job, running-age (rows k) (x (t + d) k) (all_on_time c (t + d) l k p q) w)

    -- An unfinished job has a tick left to its deadline.
    pub ends-below-deadline : suc d < (rows k).D
    ends-below-deadline =
        omega (
          arith,
          age-counts d l job,
          young (rows k) (x (t + d) k) (style.sound k p q) (all-within c (t + d) l k p q)
              (all_on_time c (t + d) l k p q) (job.since d (omega arith)),
        )
