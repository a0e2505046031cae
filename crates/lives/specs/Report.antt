-- The second test of the report (theorem 2, equation 9) with the interference of its equation 3, of numbers alone,
-- multiplied by M × B so that no fraction is left. The answers of crate `admission` are defined by it, and the theory
-- of this crate proves it sound: another test is a change of this file.
use Rattle.std.specs.Prelude.{ℕ, ◌+◌, ◌-◌, ◌*◌, ◌/◌, max}
use Rattle.maths.specs.Sums.{Σ}

-- what the report says of a task (section 3.2): deadline, period, longest run, partitions
pub record Row : Type 0 where
  pub D : ℕ
  pub T : ℕ
  pub C : ℕ
  pub A : ℕ

-- slack S = D − C (section 3.2)
abbrev pub slack : Row → ℕ
slack row = row.D - row.C

-- the most that a task runs in a window of s ticks, (⌊s / T⌋ + 2) · C (equation 3)
abbrev pub equation3 : ℕ → Row → ℕ
equation3 s row = (s / row.T + 2) * row.C

-- interference of task i on task k, I_k^i, in k's slack
abbrev pub interference_of : (ℕ → Row) → ℕ → ℕ → ℕ
interference_of rows k i = equation3 (slack (rows k)) (rows i)

-- max(1 / M, A_i / B) of theorem 2, times M × B, of a task that asks for a partitions
abbrev pub weight_of : (m b a : ℕ) → ℕ
weight_of m b a = max b (m * a)

-- χ* of theorem 2, times M × B, of n tasks where task i asks for a i partitions and has interference x i
abbrev pub load_of : (n m b : ℕ) → (a x : ℕ → ℕ) → ℕ
load_of n m b a x = Σ n (λ i. weight_of m b (a i) * x i)

-- S of equation 9, times M × B
abbrev pub limit_of : (m b s : ℕ) → ℕ
limit_of m b s = m * b * s
