-- Laws of the listing's rows, for the loops over them: those of one task, and those of all.
use Prim.Native.Nat.{ℕ, suc, ◌+◌, ◌-◌, ◌*◌, ◌/◌, ◌%◌, ◌<◌, ◌≤◌}
use mathlib.Core.Path.{◌≡◌, refl, sym, ap, ◌∙◌}
use mathlib.Core.Bool.{true}
use mathlib.Core.List.{List, [], ◌∷◌, ◌++◌, append_assoc, flatten}
use native.Mathlib.Nat.{div-add-mod', div-lt_iff_lt-mul, mod-lt}
use native.Mathlib.Omega.{arith}
use borrow.Author.Tests.{le-leb}
use lib.ListN.{length, drop, get_or, drop_of_length-le}
use lib.Seq.{drop-cons}
use Rattle.maths.specs.Tasks.{tabulate}
use Rattle.maths.proofs.Tasks.{length-tabulate, get_d_tabulate}
use Rattle.forms.specs.Forms.{line, lines}
use Rattle.table.specs.declared.Table.{Table}
use Rattle.table.specs.Refused.{unrefused}
use Rattle.admission.specs.declared.Share.{Share}
use Rattle.admission.specs.Shares.{share_answer}
use Rattle.texts.proofs.Listings.{header_of, listing-split}
use Rattle.shares.specs.Explain.{pair_row, pair_rows, pairs_text}
use Rattle.shares.specs.Code.Pairs.{task_text}
use Rattle.shares.proofs.Grids.{length-grid, get_d_grid}

abbrev pub header : List ℕ
header = header_of "task,other,interference,weight,share"

pub lines-both : (xs ys : List (List ℕ)) → lines (xs ++ ys) ≡ lines xs ++ lines ys
unfolding lines
lines-both [] ys = refl
lines-both (x ∷ xs) ys =
    ap (λ (l : List ℕ). line x ++ l) (lines-both xs ys) ∙ sym (append_assoc (line x) (lines xs) (lines ys))

-- of what f gives for 1 to n, from k on
module _ {X : Type 0} (f : ℕ → X) (n k : ℕ) where
  from_more : (d : X) → 1 ≤ k → k ≤ n → drop (k - 1) (tabulate n f) ≡ f k ∷ drop (k + 1 - 1) (tabulate n f)
  from_more d one h =
      let all = length-tabulate f n in
      let here : suc (k - 1) ≡ k = omega arith in
      let next : k + 1 - 1 ≡ suc (k - 1) = omega arith in
      rw (next, drop-cons (tabulate n f) (k - 1) d (omega arith), get_d_tabulate f n (k - 1) d (omega arith), here) refl

  from_end : n < k → drop (k - 1) (tabulate n f) ≡ []
  from_end h = drop_of_length-le (tabulate n f) (omega (arith, length-tabulate f n))

module _ (t : Table) where
  abbrev task_rows : ℕ → List (List ℕ)
  task_rows k = tabulate t.n (pair_row t k)

  -- the rows of task k, from that of task i on
  abbrev pub task_from : ℕ → ℕ → List ℕ
  task_from k i = lines (drop (i - 1) (task_rows k))

  -- the rows of task k and on
  abbrev pub pairs_from : ℕ → List ℕ
  pairs_from k = lines (flatten (drop (k - 1) (tabulate t.n task_rows)))

  pub task_more : (k i : ℕ) → 1 ≤ i → i ≤ t.n → task_from k i ≡ line (pair_row t k i) ++ task_from k (i + 1)
  unfolding lines
  task_more k i one h = ap lines (from_more (pair_row t k) t.n i [] one h)

  pub task_end : (k i : ℕ) → t.n < i → task_from k i ≡ []
  unfolding lines
  task_end k i h = ap lines (from_end (pair_row t k) t.n i h)

  pub pairs_more : (k : ℕ) → 1 ≤ k → k ≤ t.n → pairs_from k ≡ task_text t k ++ pairs_from (k + 1)
  unfolding flatten
  pairs_more k one h =
      ap (λ (x : List (List (List ℕ))). lines (flatten x)) (from_more task_rows t.n k [] one h)
      ∙ lines-both (task_rows k) (flatten (drop (k + 1 - 1) (tabulate t.n task_rows)))

  pub pairs_end : (k : ℕ) → t.n < k → pairs_from k ≡ []
  unfolding flatten lines
  pairs_end k h = ap (λ (x : List (List (List ℕ))). lines (flatten x)) (from_end task_rows t.n k h)

  pub pairs_split : pairs_text t ≡ header ++ pairs_from 1
  pairs_split = listing-split (pair_rows t) "task,other,interference,weight,share"

  -- how many rows there are, and which pair has which
  pub pairs-length : length (pair_rows t) ≡ t.n * t.n
  pairs-length = length-grid (pair_row t) t.n t.n

  module _ (some : 0 < t.n) (at : ℕ) (l : at < t.n * t.n) where
    pub task-at : at / t.n < t.n
    task-at = (div-lt_iff_lt-mul some).1 l

    pub other_at : at % t.n < t.n
    other_at = mod-lt at some

    pub row_at : get_or (pair_rows t) at [] ≡ pair_row t (suc (at / t.n)) (suc (at % t.n))
    row_at =
        ap (λ (j : ℕ). get_or (pair_rows t) j []) (sym (div-add-mod' at t.n))
        ∙ get_d_grid (pair_row t) t.n t.n (at / t.n) (at % t.n) [] task-at other_at

  -- from the answer for tasks k and i
  pub row_is : unrefused t ≡ true → (k i : ℕ) → 1 ≤ k → k ≤ t.n → 1 ≤ i → i ≤ t.n → (x : Share) → x ≡ share_answer t k i
      → k ∷ i ∷ x.interference ∷ x.weight ∷ x.share ∷ [] ≡ pair_row t k i
  unfolding share_answer
  row_is e k i hk lk hi li x h = rw (h, e, le-leb 1 k hk, le-leb k t.n lk, le-leb 1 i hi, le-leb i t.n li)
