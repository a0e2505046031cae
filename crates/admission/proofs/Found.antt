-- From what the code finds to the two answers: a table that is refused or not, and the first task that does not pass.
use Prim.Native.Nat.{ℕ, zero, suc, ◌+◌, ◌<◌, ◌≤◌}
use mathlib.Core.Path.{◌≡◌, refl, sym, ap, ◌∙◌}
use mathlib.Core.Bool.{Bool, true, false, cond, not, true≢false}
use mathlib.Core.List.{List, [], ◌∷◌}
use native.Mathlib.Numerals.{add-one}
use native.Mathlib.Omega.{arith}
use borrow.Author.Tests.{ne_eqb, eqb-true, eqb-false, le-leb, lt-ltb, le-ltb}
use lib.Dec.{eqb, leb, eqb-suc-zero}
use lib.IntN.{ℤ, pos}
use lib.ListN.{length, take, get_or, replicate, length-take}
use lib.Seq.{get_or-take}
use Rattle.std.specs.Prelude.{Result, Ok, Err, Some, option_map}
use Rattle.std.specs.Result.{is_ok, result_ok, result_err}
use Rattle.std.proofs.lemmas.Option.{same_Some}
use Rattle.std.specs.List.{position, position_or_len}
use Rattle.std.proofs.lemmas.List.Sums.{position_or_len_is}
use Rattle.maths.specs.Tasks.{tabulate}
use Rattle.maths.proofs.Tasks.{length-tabulate, get_d_tabulate, lowest-none, lowest-holds, lowest-first}
use Rattle.table.specs.declared.Task.{Task}
use Rattle.table.specs.declared.Table.{Table}
use Rattle.table.specs.Limits.{most_tasks}
use Rattle.table.specs.declared.Refusal.{Refusal}
use Rattle.table.specs.Tasks.{P}
use Rattle.table.specs.Refused.{no_refusal, sizes_refusal, row_refusal, rows_from, rows_refusal, refusal}
use Rattle.table.specs.Reasons.{answered}
use Rattle.admission.specs.Test.{above0, margin, passes, first_failing}
use Rattle.admission.specs.Answers.{task_found, margins}
use Rattle.admission.specs.Answers.{quick_refused, full_answer, quick_answer}
use Rattle.admission.specs.Code.Judged.{Refused, judged, with_margins}
use Rattle.admission.proofs.Laws.{admitted-is}

-- a refusal with number 0 names no row
rows_none-at : (p k : ℕ) (τs : List Task) → (rows_from p k τs).number ≡ 0 → rows_from p k τs ≡ no_refusal
unfolding rows_from
rows_none-at p k [] e = refl
rows_none-at p k (τ ∷ τs) e = by (eqb (row_refusal p τ) 0) refl e (rows_none-at p (suc k) τs)
  where
    by : (b : Bool) → eqb (row_refusal p τ) 0 ≡ b
        → (cond b (rows_from p (suc k) τs) (record { number = row_refusal p τ; row = k })).number ≡ 0
        → ((rows_from p (suc k) τs).number ≡ 0 → rows_from p (suc k) τs ≡ no_refusal)
        → cond b (rows_from p (suc k) τs) (record { number = row_refusal p τ; row = k }) ≡ no_refusal
    by true w e rest = rest e
    by false w e rest = absurd (eqb-false (row_refusal p τ) 0 w e)

pub none_at : (t : Table) → (refusal t).number ≡ 0 → refusal t ≡ no_refusal
unfolding refusal
none_at t e = by (eqb (sizes_refusal t) 0) refl e
  where
    by : (b : Bool) → eqb (sizes_refusal t) 0 ≡ b
        → (cond b (rows_refusal t) (record { number = sizes_refusal t; row = 0 })).number ≡ 0
        → cond b (rows_refusal t) (record { number = sizes_refusal t; row = 0 }) ≡ no_refusal
    by true w e = rows_none-at (P t) 1 (take t.n t.rows) e
    by false w e = absurd (eqb-false (sizes_refusal t) 0 w e)

-- a value comes where nothing is refused, and else the refusal
module _ {A : Type 0} (r : Refusal) (x : A) where
  pub value-answered : (y : A) → Ok y ≡ answered r x → (y ≡ x) × (r.number ≡ 0)
  value-answered y e = by (eqb r.number 0) refl e
    where
      by : (b : Bool) → eqb r.number 0 ≡ b → ◌≡◌ {A = Result A Refusal} (Ok y) (cond b (Ok x) (Err r))
          → (y ≡ x) × (r.number ≡ 0)
      by true w f = (same_Some _ _ (ap result_ok f), eqb-true r.number 0 w)
      by false w f = absurd (true≢false (ap is_ok f))

  pub refusal-answered : (s : Refusal) → Err s ≡ answered r x → (r ≡ s) × (r.number ≡ 0 → ⊥)
  refusal-answered s e = by (eqb r.number 0) refl e
    where
      by : (b : Bool) → eqb r.number 0 ≡ b → ◌≡◌ {A = Result A Refusal} (Err s) (cond b (Ok x) (Err r))
          → (r ≡ s) × (r.number ≡ 0 → ⊥)
      by true w f = absurd (true≢false (sym (ap is_ok f)))
      by false w f = (sym (same_Some _ _ (ap result_err f)), eqb-false r.number 0 w)

pub refused_of : (t : Table) (r : Refusal) {A : Type 0} (x : A) → Err r ≡ answered (refusal t) x → Refused t r
refused_of t r x e =
    let given = refusal-answered (refusal t) x r e in
    record { is = given.0; some = rw (← given.0) given.1 }

judged-is : (first : ℕ)
    → judged (task_found first) ≡ record { refused = no_refusal; admitted = eqb first 0; first = first }
judged-is zero = refl
judged-is (suc k) = rw (eqb-suc-zero k) refl

module _ {t : Table} {r : Refusal} (f : Refused t r) where
  pub quick_refused_is : quick_refused r ≡ quick_answer t
  unfolding quick_answer
  quick_refused_is = rw f.is (simp (ne_eqb r.number 0 f.some))

  pub full-refused-is : with_margins (quick_refused r) (replicate most_tasks (pos 0)) ≡ full_answer t
  unfolding full_answer tabulate
  full-refused-is = rw f.is (simp (ne_eqb r.number 0 f.some))

module _ (t : Table) (none : refusal t ≡ no_refusal) where
  pub quick_is : judged (task_found (first_failing t)) ≡ quick_answer t
  unfolding quick_answer
  quick_is = rw none (simp (admitted-is t) (judged-is (first_failing t)))

  pub full_is : with_margins (judged (task_found (first_failing t))) (margins t) ≡ full_answer t
  unfolding full_answer
  full_is = rw (none, judged-is (first_failing t)) (simp (admitted-is t))

-- of the margins in a row the first that is not above 0 is the first task's that does not pass
module _ (t : Table) (few : t.n ≤ most_tasks) where
  abbrev fails : ℤ → Bool
  fails z = not (above0 z)

  abbrev listed : List ℤ
  listed = take t.n (margins t)

  pub many : length (margins t) ≡ most_tasks
  many = length-tabulate (λ k. cond (leb k t.n) (margin t k) (pos 0)) most_tasks

  all : length listed ≡ t.n
  all = omega (arith, length-take t.n (margins t), many)

  margin-at : (i : ℕ) → i < t.n → get_or listed i (pos 0) ≡ margin t (suc i)
  margin-at i l =
      get_or-take t.n (margins t) i (pos 0) l
      ∙ get_d_tabulate (λ k. cond (leb k t.n) (margin t k) (pos 0)) most_tasks i (pos 0) (omega arith)
      ∙ rw (le-leb (suc i) t.n l)

  place : (i : ℕ) → i ≤ t.n → ((j : ℕ) → j < i → not (passes t (suc j)) ≡ false)
      → (i < t.n → not (passes t (suc i)) ≡ true) → position_or_len fails listed ≡ i
  place i l before here =
      position_or_len_is fails listed i (pos 0) (rw all l) (λ j m. rw (margin-at j (omega arith)) (before j m))
      (λ m. let h : i < t.n = omega (arith, m, all) in rw (margin-at i h) (here h))

  pub place-is : option_map suc (position fails listed) ≡ task_found (first_failing t)
  place-is = by (first_failing t) refl
    where
      by : (first : ℕ) → first_failing t ≡ first → option_map suc (position fails listed) ≡ task_found first
      by zero e =
          let at = place t.n (omega arith) (lowest-none (λ k. not (passes t k)) t.n e) (λ m. absurd (omega arith)) in
          rw (at, all, le-ltb t.n t.n (omega arith)) refl
      by (suc k) e =
          let h = lowest-holds (λ k. not (passes t k)) t.n k e in
          let at = place k (omega (arith, h.0)) (lowest-first (λ k. not (passes t k)) t.n k e) (λ m. h.1) in
          rw (at, all, lt-ltb k t.n h.0) refl

-- a number that is found
pub found-some : {first k : ℕ} → first ≡ suc k → Some (k + 1) ≡ task_found first
found-some e = rw (e, add-one)
