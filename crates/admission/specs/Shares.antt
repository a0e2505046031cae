-- What each task takes of a task's limit: the terms of the load, one by one. So a listing of them says who takes the
-- slack of a task, and it follows every change of the test by definition.
use Rattle.std.specs.Prelude.{ℕ, ◌≡◌, Bool, cond, ◌&&◌, leb}
use Rattle.maths.specs.Sums.{Σ}
use Rattle.table.specs.declared.Table.{Table}
use Rattle.table.specs.Refused.{unrefused}
use Rattle.admission.specs.declared.Share.{Share}
use Rattle.admission.specs.Test.{interference, weight, share, load, limit, less, margin}

-- k is one of the tasks 1 to n
abbrev pub is_task : Table → ℕ → Bool
is_task t k = leb 1 k && leb k t.n

abbrev pub no_share : Share
no_share = record { interference = 0; weight = 0; share = 0 }

-- of task i in the load of task k
abbrev pub share_in : Table → ℕ → ℕ → Share
share_in t k i = record { interference = interference t k i; weight = weight t k i; share = share t k i }

-- the same of every table and all numbers: all 0 where the table is refused or one of the two is not a task
unfoldable pub share_answer : Table → ℕ → ℕ → Share
share_answer t k i = cond (unrefused t && (is_task t k && is_task t i)) (share_in t k i) no_share

-- The shares of a task add up to its load, and its limit less that sum is its margin.
abbrev pub SharesAddUp : Type 0
SharesAddUp = (t : Table) (k : ℕ)
    → (Σ t.n (share t k) ≡ load t k) × (margin t k ≡ less (limit t k) (Σ t.n (share t k)))
