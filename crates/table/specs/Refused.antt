-- Refusals 1 to 8 of a table, in the order and the words of document 01: 1, 2, 3, then row by row 4 to 8, with the
-- lowest row.
use Rattle.std.specs.Prelude.{ℕ, suc, Bool, cond, List, [], ◌∷◌, ltb, eqb, take}
use Rattle.maths.specs.Rules.{Rule, rule, first, outside}
use Rattle.table.specs.declared.Task.{Task}
use Rattle.table.specs.declared.Table.{Table}
use Rattle.table.specs.declared.Refusal.{Refusal}
use Rattle.table.specs.Limits.{most_tasks, most_cores, most_partitions, longest_period}
use Rattle.table.specs.Tasks.{M, P, D, T, C, A}

abbrev pub no_refusal : Refusal
no_refusal = record { number = 0; row = 0 }

unfoldable pub table_rules : List (Rule Table)
table_rules =
    rule 1 (λ t. outside 1 most_tasks t.n)
    ∷ rule 2 (λ t. outside 1 most_cores (M t))
    ∷ rule 3 (λ t. outside 1 most_partitions (P t))
    ∷ []

abbrev pub sizes_refusal : Table → ℕ
sizes_refusal t = first table_rules t

-- of one row, on a cache of p partitions
unfoldable pub row_rules : ℕ → List (Rule Task)
row_rules p =
    rule 4 (λ τ. outside 1 longest_period (T τ))
    ∷ rule 5 (λ τ. eqb (C τ) 0)
    ∷ rule 6 (λ τ. ltb (D τ) (C τ))
    ∷ rule 7 (λ τ. ltb (T τ) (D τ))
    ∷ rule 8 (λ τ. ltb p (A τ))
    ∷ []

abbrev pub row_refusal : ℕ → Task → ℕ
row_refusal p τ = first (row_rules p) τ

-- the first refusal of rows k, k + 1, ..
unfoldable pub rows_from : ℕ → ℕ → List Task → Refusal
rows_from p k [] = no_refusal
rows_from p k (τ ∷ τs) =
    cond (eqb (row_refusal p τ) 0)
    (rows_from p (suc k) τs)
    (record { number = row_refusal p τ; row = k })

abbrev pub rows_refusal : Table → Refusal
rows_refusal t = rows_from (P t) 1 (take t.n t.rows)

unfoldable pub refusal : Table → Refusal
refusal t =
    cond (eqb (sizes_refusal t) 0)
    (rows_refusal t)
    (record { number = sizes_refusal t; row = 0 })

abbrev pub unrefused : Table → Bool
unrefused t = eqb (refusal t).number 0
