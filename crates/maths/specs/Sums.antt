-- Finite sums: Σ of the report, over tasks 1 to n, and over the first n of anything counted from 0.
use Rattle.std.specs.Prelude.{ℕ, zero, suc, ◌+◌}

-- f 0 + f 1 + .. + f (n - 1)
unfoldable pub sum : (ℕ → ℕ) → ℕ → ℕ
sum f zero = 0
sum f (suc n) = sum f n + f n

-- f 1 + f 2 + .. + f n
abbrev pub Σ : ℕ → (ℕ → ℕ) → ℕ
Σ n f = sum (λ i. f (suc i)) n
