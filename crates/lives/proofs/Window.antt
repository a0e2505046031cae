-- How many of w states in a row of one life run.
use Prim.Native.Nat.{ℕ, zero, suc, ◌+◌, ◌*◌, ◌/◌, ◌≤◌, ◌<◌}
use native.Mathlib.Omega.{arith}
use native.Mathlib.Nat.{mul-le-mul_right, le-div_iff_mul-le}
use Rattle.maths.proofs.Sums.{sum-zero, sum-suc}
use Rattle.lives.specs.Report.{Row, equation3}
use Rattle.lives.specs.Life.{Sound, Life, idle, waiting, running, runs, count, InRow, WithinC}
use Rattle.lives.proofs.Steps.{step, Facts, same, new, facts, rest, aged, stays_within}

-- What n + 1 states, of which `run` run and the last is y, have shown. `A` bounds the carry-in, the work of the job
-- that the first state has, and `Z` how long after its release that work can end.
pub record Seen (row : Row) (A Z n run : ℕ) (y : Life) : Type 0 where
  pub releases : ℕ
  pub work : run + rest row y ≤ A + releases * row.C
  pub spread : run + row.C + releases * row.T ≤ Z + releases * row.C + suc n
  pub apart : A + releases * row.T + aged row y ≤ Z + n

pub runs-le : (y : Life) → runs y ≤ 1
runs-le (idle a) = omega arith
runs-le (waiting a) = omega arith
runs-le (running a r) = omega arith

-- one tick more
advance : {row : Row} {A Z n run : ℕ} {x y : Life} → Facts row x y → Seen row A Z n run x
    → Seen row A Z (suc n) (run + runs y) y
advance {y = y} (same w a) s =
    record { releases = s.releases; work = omega arith; spread = omega (arith, runs-le y); apart = omega arith }
advance {y = y} (new w a t) s =
    record { releases = suc s.releases; work = omega arith; spread = omega (arith, runs-le y); apart = omega arith }

-- The states of a life, each a tick after the one before it.
module _ (row : Row) (top : ℕ) (v : Sound row) (x : ℕ → Life) (g : WithinC row (x 0)) where
  all-within : (n : ℕ) → InRow row top x (suc n) → WithinC row (x n)
  all-within zero steps = g
  all-within (suc n) steps = stays_within v (all-within n (λ e l. steps e (omega arith))) (steps n (omega arith))

  -- The one induction over a window, for any bounds `A` and `Z` that the first state meets.
  pub seen : (A Z : ℕ) → runs (x 0) + rest row (x 0) ≤ A → A + aged row (x 0) ≤ Z → row.C ≤ Z
      → (n : ℕ) → InRow row top x (suc n) → Seen row A Z n (count x (suc n)) (x n)
  seen A Z hA hZ hC zero steps =
      record {
        releases = 0;
        work = omega (arith, sum-suc (λ e. runs (x e)) 0, sum-zero (λ e. runs (x e)));
        spread = omega (arith, sum-suc (λ e. runs (x e)) 0, sum-zero (λ e. runs (x e)), runs-le (x 0));
        apart = omega arith;
      }
  seen A Z hA hZ hC (suc n) steps =
      let before : InRow row top x (suc n) = λ e l. steps e (omega arith) in
      rw (sum-suc (λ e. runs (x e)) (suc n))
      (advance (facts v (step (all-within n before) (steps n (omega arith)))) (seen A Z hA hZ hC n before))

pub work-le : (row : Row) (y : Life) → Sound row → WithinC row y → runs y + rest row y ≤ row.C
work-le row (idle a) v g = omega arith
work-le row (waiting a) v g = omega arith
work-le row (running a r) v g = omega arith

-- j releases lie T apart, so that T + n ticks hold one more than the quotient at the most.
releases-le : (T n j : ℕ) → 0 < T → j * T ≤ T + n → j ≤ suc n / T + 1
releases-le T n zero h l = omega arith
releases-le T n (suc i) h l = omega (arith, (le-div_iff_mul-le {k = T} {x = i} {y = suc n} h).1 (omega arith))

-- Equation 3, from any state in which the job has run less than C ticks.
pub equation_3 : (row : Row) (top : ℕ) → Sound row → (x : ℕ → Life) (w : ℕ) → WithinC row (x 0)
    → InRow row top x w → count x w ≤ equation3 w row
equation_3 row top v x zero g steps = omega (arith, sum-zero (λ e. runs (x e)))
equation_3 row top v x (suc n) g steps =
    let s : Seen row row.C (row.T + row.C) n (count x (suc n)) (x n) =
    seen row top v x g row.C (row.T + row.C) (work-le row (x 0) v g) (omega arith) (omega arith) n steps in
    omega (arith, mul-le-mul_right row.C (releases-le row.T n s.releases (omega arith) (omega arith)))
