-- A table that is not refused is good.
use Prim.Native.Nat.{ℕ, zero, suc, ◌<◌, ◌≤◌, suc-le-suc}
use mathlib.Core.Path.{◌≡◌, refl}
use mathlib.Core.Bool.{Bool, true, false, cond}
use mathlib.Core.List.{List, [], ◌∷◌}
use native.Mathlib.Nat.{not-suc-le-zero, le_of_suc-le-suc}
use native.Mathlib.Omega.{arith}
use borrow.Author.Tests.{ltb-false, eqb-false, eqb-true, eq-eqb}
use lib.Dec.{eqb}
use lib.ListN.{length, get_or, take, length-take}
use lib.Seq.{get_or-take}
use Rattle.maths.proofs.Tests.{not-given, not-outside, positive}
use Rattle.table.specs.declared.Task.{Task}
use Rattle.table.specs.declared.Table.{Table}
use Rattle.table.specs.Limits.{most_tasks}
use Rattle.table.specs.Tasks.{no_task, P, τ, D, T, C, A}
use Rattle.table.specs.Refused.{table_rules, sizes_refusal, row_rules, row_refusal, rows_from, refusal}
use Rattle.table.specs.Good.{Good, GoodSizes, GoodRow}

pub good-row : (p : ℕ) (τ : Task) → row_refusal p τ ≡ 0 → GoodRow p τ
unfolding row_rules
good-row p τ e =
    let r4 = not-given _ 3 _ e in
    let r5 = not-given _ 4 _ r4.1 in
    let r6 = not-given _ 5 _ r5.1 in
    let r7 = not-given _ 6 _ r6.1 in
    let r8 = not-given _ 7 _ r7.1 in
    let period = not-outside _ _ _ r4.0 in
    record {
      period = period.0;
      short = period.1;
      runs = positive (C τ) r5.0;
      slack = ltb-false (D τ) (C τ) r6.0;
      deadline = ltb-false (T τ) (D τ) r7.0;
      room = ltb-false p (A τ) r8.0;
    }

rows-good : (p k : ℕ) (τs : List Task) → (rows_from p k τs).number ≡ 0 → (i : ℕ) → i < length τs
    → row_refusal p (get_or τs i no_task) ≡ 0
unfolding rows_from
rows-good p k [] e i l = absurd (not-suc-le-zero l)
rows-good p k (τ ∷ τs) e i l = by (eqb (row_refusal p τ) 0) refl i l (λ q j m. rows-good p (suc k) τs q j m) e
  where
    by : (b : Bool) → eqb (row_refusal p τ) 0 ≡ b → (i : ℕ) → i < suc (length τs)
        → ((rows_from p (suc k) τs).number ≡ 0 → (j : ℕ) → j < length τs → row_refusal p (get_or τs j no_task) ≡ 0)
        → (cond b (rows_from p (suc k) τs) (record { number = row_refusal p τ; row = k })).number ≡ 0
        → row_refusal p (get_or (τ ∷ τs) i no_task) ≡ 0
    by true w zero l rec e = eqb-true (row_refusal p τ) 0 w
    by true w (suc i) l rec e = rec e i (le_of_suc-le-suc l)
    by false w i l rec e = absurd (eqb-false (row_refusal p τ) 0 w e)

rows_none : (p k : ℕ) (τs : List Task) → ((i : ℕ) → i < length τs → row_refusal p (get_or τs i no_task) ≡ 0)
    → (rows_from p k τs).number ≡ 0
unfolding rows_from
rows_none p k [] h = refl
rows_none p k (τ ∷ τs) h =
    rw (eq-eqb (row_refusal p τ) 0 (h 0 (omega arith))) (rows_none p (suc k) τs (λ i l. h (suc i) (suc-le-suc l)))

-- no rule of the table itself is given, and none of a row
passed : (t : Table) → (refusal t).number ≡ 0
    → (sizes_refusal t ≡ 0) × ((rows_from (P t) 1 (take t.n t.rows)).number ≡ 0)
unfolding refusal
passed t e = by (eqb (sizes_refusal t) 0) refl e
  where
    by : (b : Bool) → eqb (sizes_refusal t) 0 ≡ b
        → (cond b (rows_from (P t) 1 (take t.n t.rows)) (record { number = sizes_refusal t; row = 0 })).number ≡ 0
        → (sizes_refusal t ≡ 0) × ((rows_from (P t) 1 (take t.n t.rows)).number ≡ 0)
    by true w e = (eqb-true (sizes_refusal t) 0 w, e)
    by false w e = absurd (eqb-false (sizes_refusal t) 0 w e)

-- what the sizes are where refusals 1 to 3 are not given
pub good-sizes : (t : Table) → sizes_refusal t ≡ 0 → GoodSizes t
unfolding table_rules
good-sizes t e =
    let r1 = not-given _ 0 _ e in
    let r2 = not-given _ 1 _ r1.1 in
    let r3 = not-given _ 2 _ r2.1 in
    let n = not-outside _ _ _ r1.0 in
    let m = not-outside _ _ _ r2.0 in
    let p = not-outside _ _ _ r3.0 in
    record { some = n.0; few = n.1; core = m.0; cores = m.1; partition = p.0; partitions = p.1 }

-- that a table is not refused is that its sizes are not and that no row is
module _ (t : Table) (len : length t.rows ≡ most_tasks) where
  pub sizes-unrefused : (refusal t).number ≡ 0 → sizes_refusal t ≡ 0
  sizes-unrefused e = (passed t e).0

  pub row-unrefused : (refusal t).number ≡ 0 → (i : ℕ) → i < t.n → row_refusal (P t) (τ t (suc i)) ≡ 0
  row-unrefused e i l =
      let few : t.n ≤ most_tasks = (good-sizes t (passed t e).0).few in
      rw (get_or-take t.n t.rows i no_task l) at
      (rows-good (P t) 1 (take t.n t.rows) (passed t e).1 i (simp length-take (omega arith)))

  pub not_refused_of : sizes_refusal t ≡ 0
      → ((i : ℕ) → i < t.n → row_refusal (P t) (τ t (suc i)) ≡ 0) → (refusal t).number ≡ 0
  unfolding refusal
  not_refused_of e h =
      rw (eq-eqb (sizes_refusal t) 0 e) (rows_none (P t) 1 (take t.n t.rows)
      (λ i l. rw (get_or-take t.n t.rows i no_task (in_n i l)) (h i (in_n i l))))
    where
      in_n : (i : ℕ) → i < length (take t.n t.rows) → i < t.n
      in_n i l = omega (arith, simp length-take at l)

  pub good_of : (refusal t).number ≡ 0 → Good t
  good_of e =
      record {
        sizes = good-sizes t (sizes-unrefused e);
        row = λ i l. good-row (P t) (τ t (suc i)) (row-unrefused e i l);
      }
