-- The least common multiple L of the periods of a table, and how far a rehearsal goes (wish 1, refusal 17).
use Rattle.std.specs.Prelude.{ℕ, zero, suc, ◌<◌, ◌≤◌}
use Rattle.std.specs.Int.{◌∣◌}
use Rattle.maths.specs.Tasks.{Each}
use Rattle.table.specs.declared.Table.{Table}
use Rattle.table.specs.Tasks.{τ, T}
use Rattle.multiples.specs.Gcd.{lcm}

-- of the periods of tasks 1 to k
unfoldable pub multiple_to : Table → ℕ → ℕ
multiple_to t zero = 1
multiple_to t (suc k) = lcm (multiple_to t k) (T (τ t (suc k)))

abbrev pub multiple : Table → ℕ
multiple t = multiple_to t t.n

-- refusal 17: L is above this
abbrev pub most_multiple : ℕ
most_multiple = 1000000

-- every period divides L
abbrev pub Common : Table → ℕ → Type 0
Common t L = Each t.n (λ k. T (τ t k) ∣ L)

-- L is the least number above 0 that every period divides.
pub record IsLeast (t : Table) (L : ℕ) : Type 0 where
  pub some : 0 < L
  pub common : Common t L
  pub least : (other : ℕ) → 0 < other → Common t other → L ≤ other
