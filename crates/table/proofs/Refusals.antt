-- What a table's refusal can carry: a number up to 8, and one of its rows or 0.
use Prim.Native.Nat.{ℕ, suc, ◌+◌, ◌≤◌}
use mathlib.Core.Path.{◌≡◌}
use mathlib.Core.Bool.{Bool, true, false, cond}
use mathlib.Core.List.{List, [], ◌∷◌}
use native.Mathlib.Omega.{arith}
use lib.Dec.{eqb}
use lib.ListN.{length, take, length-take}
use Rattle.maths.specs.Rules.{Rule, first}
use Rattle.table.specs.declared.Task.{Task}
use Rattle.table.specs.declared.Table.{Table}
use Rattle.table.specs.declared.Refusal.{Refusal}
use Rattle.table.specs.Limits.{most_tasks}
use Rattle.table.specs.Tasks.{P}
use Rattle.table.specs.Refused.{table_rules, sizes_refusal, row_rules, row_refusal, rows_from, refusal}

-- no rule has a number above m
abbrev pub Most : {A : Type 0} → ℕ → List (Rule A) → Type 0
Most m [] = 0 ≤ m
Most m (r ∷ rs) = (r.number ≤ m) × Most m rs

pub first-most : {A : Type 0} (m : ℕ) (rs : List (Rule A)) (x : A) → Most m rs → first rs x ≤ m
first-most m [] x h = h
first-most m (r ∷ rs) x h = by (r.given x) (first-most m rs x h.1)
  where
    by : (b : Bool) → first rs x ≤ m → cond b r.number (first rs x) ≤ m
    by true g = h.0
    by false g = g

sizes-most : (t : Table) → sizes_refusal t ≤ 8
unfolding table_rules
sizes-most t = first-most 8 table_rules t (omega arith)

row-most : (p : ℕ) (τ : Task) → row_refusal p τ ≤ 8
unfolding row_rules
row-most p τ = first-most 8 (row_rules p) τ (omega arith)

pub record Carries (most : ℕ) (r : Refusal) : Type 0 where
  pub number : r.number ≤ 8
  pub row : r.row ≤ most

rows_carry : (p k : ℕ) (τs : List Task) → Carries (k + length τs) (rows_from p (suc k) τs)
unfolding rows_from
rows_carry p k [] = record { number = omega arith; row = omega arith }
rows_carry p k (τ ∷ τs) = by (eqb (row_refusal p τ) 0) (rows_carry p (suc k) τs)
  where
    by : (b : Bool) → Carries (suc k + length τs) (rows_from p (suc (suc k)) τs)
        → Carries (k + suc (length τs))
        (cond b (rows_from p (suc (suc k)) τs) (record { number = row_refusal p τ; row = suc k }))
    by true h = record { number = h.number; row = omega (arith, h.row) }
    by false h = record { number = row-most p τ; row = omega arith }

pub refusal_carries : (t : Table) → length t.rows ≡ most_tasks → Carries most_tasks (refusal t)
unfolding refusal
refusal_carries t len = by (eqb (sizes_refusal t) 0) (rows_carry (P t) 0 (take t.n t.rows))
  where
    by : (b : Bool) → Carries (0 + length (take t.n t.rows)) (rows_from (P t) 1 (take t.n t.rows))
        → Carries most_tasks
        (cond b (rows_from (P t) 1 (take t.n t.rows)) (record { number = sizes_refusal t; row = 0 }))
    by true h = record { number = h.number; row = omega (arith, h.row, length-take t.n t.rows) }
    by false h = record { number = sizes-most t; row = omega arith }
