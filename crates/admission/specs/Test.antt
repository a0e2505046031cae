-- The second test of the report, of a table: the formulas are those of `crates/lives/specs/Report.antt`, and Amax and B
-- are section 4.2.2's.
-- Tasks k and i are numbered from 1; the report's A, the partitions of the platform, is document 01's P.
use Rattle.std.specs.Prelude.{ℕ, zero, suc, ◌+◌, ◌-◌, ◌*◌, max, Bool, not, ℤ, pos, ◌-ℤ◌}
use Rattle.std.specs.Int.Signed.{lt_z}
use Rattle.maths.specs.Tasks.{every, lowest}
use Rattle.table.specs.declared.Task.{Task}
use Rattle.table.specs.declared.Table.{Table}
use Rattle.table.specs.Tasks.{M, P, τ, D, T, C, A}
use Rattle.lives.specs.Report.{Row, slack, interference_of, weight_of, limit_of}
pub use Rattle.lives.specs.Report.{load_of}

-- what the report says of a task, and of the tasks of a table
abbrev pub row : Task → Row
row τ = record { D = D τ; T = T τ; C = C τ; A = A τ }

abbrev pub rows : Table → ℕ → Row
rows t k = row (τ t k)

-- slack S_k
abbrev pub S : Table → ℕ → ℕ
S t k = slack (rows t k)

-- A_k^max, the largest A_i with i ≤ k (section 4.2.2)
unfoldable pub Amax : Table → ℕ → ℕ
Amax t zero = 0
Amax t (suc k) = max (Amax t k) (A (τ t (suc k)))

-- A − A_k^max + 1: so many busy partitions may block task k (section 4.2.2, lemma 1)
abbrev pub B : Table → ℕ → ℕ
B t k = P t - Amax t k + 1

-- I_k^i
unfoldable pub interference : Table → ℕ → ℕ → ℕ
interference t k i = interference_of (rows t) k i

abbrev pub weight : Table → ℕ → ℕ → ℕ
weight t k i = weight_of (M t) (B t k) (A (τ t i))

-- what task i takes of the limit of task k: its term of χ*_k, the sum of theorem 2, times M × B
abbrev pub share : Table → ℕ → ℕ → ℕ
share t k i = weight t k i * interference t k i

-- χ*_k of theorem 2, times M × B
unfoldable pub load : Table → ℕ → ℕ
load t k = load_of t.n (M t) (B t k) (λ i. A (τ t i)) (interference t k)

-- S_k of equation 9, times M × B
unfoldable pub limit : Table → ℕ → ℕ
limit t k = limit_of (M t) (B t k) (S t k)

-- a less b, a signed number
unfoldable pub less : ℕ → ℕ → ℤ
less a b = pos a -ℤ pos b

abbrev pub margin : Table → ℕ → ℤ
margin t k = less (limit t k) (load t k)

abbrev pub above0 : ℤ → Bool
above0 z = lt_z (pos 0) z

-- equation 9 for task k
abbrev pub passes : Table → ℕ → Bool
passes t k = above0 (margin t k)

-- theorem 2: every task passes
abbrev pub admitted : Table → Bool
admitted t = every t.n (passes t)

-- the first task that does not pass, or 0
abbrev pub first_failing : Table → ℕ
first_failing t = lowest t.n (λ k. not (passes t k))
