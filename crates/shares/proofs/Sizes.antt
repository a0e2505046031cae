-- What the program "explain" writes has room in its buffer.
use Prim.Native.Nat.{ℕ, zero, suc, ◌*◌, ◌<◌, ◌≤◌}
use mathlib.Core.Path.{◌≡◌, refl, ap, ◌∙◌}
use mathlib.Core.Bool.{Bool, true, false, cond}
use mathlib.Core.List.{List}
use native.Mathlib.Nat.{mul-le-mul, lt_of_le_of_lt}
use native.Mathlib.Omega.{arith}
use borrow.Author.Tests.{eqb-true}
use lib.Dec.{lit<}
use lib.ListN.{length, length-append}
use Rattle.maths.specs.Tasks.{tabulate}
use Rattle.forms.specs.Forms.{line, lines}
use Rattle.table.specs.declared.Table.{Table}
use Rattle.table.specs.Limits.{most_tasks}
use Rattle.table.specs.Refused.{refusal, unrefused}
use Rattle.table.specs.Good.{Good}
use Rattle.table.proofs.Good.{good_of}
use Rattle.admission.specs.Test.{interference}
use Rattle.admission.proofs.Bounds.{row-good, interference-le, weight-le, term_le, B-le, S-le}
use Rattle.writers.specs.Outputs.{refused_text}
use Rattle.writers.proofs.Listings.{row-most}
use Rattle.texts.proofs.Listings.{lines_none, lines-most}
use Rattle.texts.proofs.Sizes.{table-most, listed-most}
use Rattle.shares.specs.Explain.{pair_row, pairs_text, explained, explain_text, explain_most, ExplainFits}
use Rattle.shares.proofs.Grids.{grid, grid-none, grid-more}
use Rattle.shares.proofs.Rows.{header, pairs_from, lines-both, pairs_split}

module _ {t : Table} (g : Good t) where
  pair-most : (k : ℕ) → k < t.n → (i : ℕ) → i < t.n → length (line (pair_row t (suc k) (suc i))) ≤ 106
  unfolding interference
  pair-most k l i h =
      let few = g.sizes.few in
      let row = row-good g i h in
      let b = B-le g k l in
      let s = S-le g k l in
      row-most _ _ _ _ _
      (omega arith)
      (omega arith)
      (lt_of_le_of_lt (interference-le row s) (lit< tt))
      (lt_of_le_of_lt (weight-le row g.sizes.cores b) (lit< tt))
      (lt_of_le_of_lt (term_le row g.sizes.cores b s) (lit< tt))

  rows-most : (m : ℕ) → m ≤ t.n → length (lines (grid (pair_row t) t.n m)) ≤ 106 * (m * t.n)
  rows-most zero h =
      let none = ap (λ (x : List (List ℕ)). length (lines x)) (grid-none (pair_row t) t.n) in
      omega (arith, lines_none)
  rows-most (suc m) h =
      let before = grid (pair_row t) t.n m in
      let rows = tabulate t.n (pair_row t (suc m)) in
      let size =
      ap (λ (x : List (List ℕ)). length (lines x)) (grid-more (pair_row t) t.n m)
      ∙ ap length (lines-both before rows)
      ∙ length-append (lines before) (lines rows) in
      omega (arith, rows-most m (omega arith), lines-most (pair_row t (suc m)) 106 t.n (pair-most m h))

  pub pairs-most : length (pairs_text t) ≤ explain_most
  pairs-most =
      let few = g.sizes.few in
      let pairs : t.n * t.n ≤ most_tasks * most_tasks = mul-le-mul few few in
      let size = ap length (pairs_split t) ∙ length-append header (pairs_from t 1) in
      omega (arith, rows-most t.n (omega arith))

explained-most : (t : Table) → length t.rows ≡ most_tasks → length (explained t) ≤ explain_most
explained-most t len = go (unrefused t) refl
  where
    go : (b : Bool) → unrefused t ≡ b → length (cond b (pairs_text t) (refused_text (refusal t))) ≤ explain_most
    go true e = pairs-most (good_of t len (eqb-true _ _ e))
    go false e = omega (arith, table-most t len)

pub explain-fits : ExplainFits
unfolding explain_text
explain-fits = listed-most explained explain_most (omega arith) explained-most
