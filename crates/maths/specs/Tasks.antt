-- Tasks are numbered from 1: a fact or a test asked of tasks 1 to n, the lowest of them that meets it, a list with an
-- entry for each.
use Rattle.std.specs.Prelude.{ℕ, zero, suc, ◌≤◌, Bool, true, cond, ◌&&◌, List, [], ◌∷◌, ◌++◌, get_or}

-- P holds of each of 1 to n
abbrev pub Each : ℕ → (ℕ → Type 0) → Type 0
Each n P = (k : ℕ) → 1 ≤ k → k ≤ n → P k

-- the test f holds of each of 1 to n
unfoldable pub every : ℕ → (ℕ → Bool) → Bool
every zero f = true
every (suc n) f = every n f && f (suc n)

-- x, or y where x is 0
abbrev pub or_else : ℕ → ℕ → ℕ
or_else zero y = y
or_else (suc x) y = suc x

-- the lowest of 1 to n of which f holds, or 0
unfoldable pub lowest : ℕ → (ℕ → Bool) → ℕ
lowest zero f = 0
lowest (suc n) f = or_else (lowest n f) (cond (f (suc n)) (suc n) 0)

-- f 1, f 2, .. , f n
unfoldable pub tabulate : {A : Type 0} → ℕ → (ℕ → A) → List A
tabulate zero f = []
tabulate (suc n) f = tabulate n f ++ (f (suc n) ∷ [])

-- entry k of a list whose entries are numbered from 1; d where there is none
abbrev pub entry : {A : Type 0} → List A → ℕ → A → A
entry l zero d = d
entry l (suc i) d = get_or l i d
