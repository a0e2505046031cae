-- What the program "explain" writes, from its two texts, each there or missing: for each task, and each task that takes
-- of its limit, a row with interference, weight and share, or the refusal that "admit" writes.
use Rattle.std.specs.Prelude.{ℕ, ◌+◌, ◌*◌, ◌≤◌, ◌≡◌, Option, true, cond, eqb, length, get_or}
use mathlib.Core.List.{List, [], ◌∷◌, flatten}
use Rattle.maths.specs.Tasks.{Each, tabulate}
use Rattle.table.specs.declared.Table.{Table}
use Rattle.table.specs.declared.Refusal.{Refusal}
use Rattle.table.specs.Limits.{most_tasks}
use Rattle.table.specs.Refused.{refusal, unrefused}
use Rattle.admission.specs.Test.{interference, weight, share, load, limit, less, margin}
use Rattle.admission.specs.Answers.{margins}
use Rattle.writers.specs.Outputs.{listing, refused_text, margins_text}
use Rattle.texts.specs.Given.{listed}
use Rattle.texts.specs.Admit.{admit_text}

-- what task i takes of the limit of task k
abbrev pub pair_row : Table → ℕ → ℕ → List ℕ
pair_row t k i = k ∷ i ∷ interference t k i ∷ weight t k i ∷ share t k i ∷ []

-- for k = 1, 2, .. , n the rows of i = 1, 2, .. , n, k among them
abbrev pub pair_rows : Table → List (List ℕ)
pair_rows t = flatten (tabulate t.n (λ k. tabulate t.n (pair_row t k)))

abbrev pub pairs_text : Table → List ℕ
pairs_text t = listing "task,other,interference,weight,share" (pair_rows t)

abbrev pub explained : Table → List ℕ
explained t = cond (unrefused t) (pairs_text t) (refused_text (refusal t))

unfoldable pub explain_text : Option (List ℕ) → Option (List ℕ) → List ℕ
explain_text = listed explained

-- the shares of task k in the rows of a listing, added up: the fifth column where the first is k
unfoldable pub shares_in : ℕ → List (List ℕ) → ℕ
shares_in k [] = 0
shares_in k (row ∷ rows) = cond (eqb (get_or row 0 0) k) (get_or row 4 0) 0 + shares_in k rows

-- In the listing the shares of a task add up to its load, and its limit less that sum is its margin.
pub record AddsUp (t : Table) (k : ℕ) : Type 0 where
  pub to_load : shares_in k (pair_rows t) ≡ load t k
  pub to_margin : less (limit t k) (shares_in k (pair_rows t)) ≡ margin t k

abbrev pub ListingAddsUp : Type 0
ListingAddsUp = (t : Table) → Each t.n (AddsUp t)

-- What "admit" and "explain" write for the same texts: one refusal, or two listings of one table that is not refused.
pub data SideBySide (admits explains : List ℕ) : Type 0 where
  refusals : (r : Refusal) → admits ≡ refused_text r → explains ≡ refused_text r → SideBySide admits explains
  listings : (t : Table) → unrefused t ≡ true → admits ≡ margins_text t.n (margins t) → explains ≡ pairs_text t
      → SideBySide admits explains

abbrev pub ExplainsAdmit : Type 0
ExplainsAdmit = (platform tasks : Option (List ℕ))
    → SideBySide (admit_text platform tasks) (explain_text platform tasks)

-- The program's buffer, `EXPLAIN_MOST`: a header of 38 bytes, and five numbers of at most 20 digits, four commas and
-- CR LF for each pair.
abbrev pub explain_most : ℕ
explain_most = 38 + 106 * (most_tasks * most_tasks)

-- Refusal 16 cannot come up in the program: whatever its texts, there or missing, however long.
abbrev pub ExplainFits : Type 0
ExplainFits = (platform tasks : Option (List ℕ)) → length (explain_text platform tasks) ≤ explain_most
