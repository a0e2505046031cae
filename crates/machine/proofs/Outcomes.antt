-- What a check came to says whether a refusal was given.
use Prim.Native.Nat.{ℕ, suc}
use mathlib.Core.Path.{◌≡◌, refl, sym, ap, ◌∙◌}
use mathlib.Core.List.{List, [], ◌∷◌}
use lib.ListN.{take}
use mathlib.Core.Bool.{Bool, true, false, cond, true≢false}
use lib.Dec.{eqb}
use Rattle.std.specs.Prelude.{Result, Ok, Err}
use Rattle.std.specs.Result.{is_ok, result_err}
use Rattle.std.specs.Option.{unwrap_or}
use Rattle.table.specs.declared.Refusal.{Refusal}
use Rattle.table.specs.declared.Table.{Table}
use Rattle.table.specs.declared.Task.{Task}
use Rattle.table.specs.Tasks.{P}
use Rattle.table.specs.Refused.{no_refusal, sizes_refusal, row_refusal, rows_from, rows_refusal, refusal}
use Rattle.table.specs.Reasons.{answered, outcome}

module _ {A : Type 0} (r : Refusal) (x : A) where
  pub no-refusal : (y : A) → Ok y ≡ answered r x → eqb r.number 0 ≡ true
  no-refusal y = by (eqb r.number 0)
    where
      by : (b : Bool) → ◌≡◌ {A = Result A Refusal} (Ok y) (cond b (Ok x) (Err r)) → b ≡ true
      by true e = refl
      by false e = absurd (true≢false (ap is_ok e))

  pub some-refusal : (why : Refusal) → Err why ≡ answered r x → eqb r.number 0 ≡ false
  some-refusal why = by (eqb r.number 0)
    where
      by : (b : Bool) → ◌≡◌ {A = Result A Refusal} (Err why) (cond b (Ok x) (Err r)) → b ≡ false
      by true e = absurd (true≢false (sym (ap is_ok e)))
      by false e = refl

-- a refusal of number 0 is none, row 0 included
rows-none : (p k : ℕ) (τs : List Task) → eqb (rows_from p k τs).number 0 ≡ true → rows_from p k τs ≡ no_refusal
unfolding rows_from
rows-none p k [] = λ e. refl
rows-none p k (τ ∷ τs) = by (rows-none p (suc k) τs) (eqb (row_refusal p τ) 0) refl
  where
    by : (eqb (rows_from p (suc k) τs).number 0 ≡ true → rows_from p (suc k) τs ≡ no_refusal) → (b : Bool)
        → eqb (row_refusal p τ) 0 ≡ b
        → eqb (cond b (rows_from p (suc k) τs) (record { number = row_refusal p τ; row = k })).number 0 ≡ true
        → cond b (rows_from p (suc k) τs) (record { number = row_refusal p τ; row = k }) ≡ no_refusal
    by rest true f e = rest e
    by rest false f e = absurd (true≢false (sym e ∙ f))

pub refusal-none : (t : Table) → eqb (refusal t).number 0 ≡ true → refusal t ≡ no_refusal
unfolding refusal
refusal-none t = by (eqb (sizes_refusal t) 0) refl
  where
    by : (b : Bool) → eqb (sizes_refusal t) 0 ≡ b
        → eqb (cond b (rows_refusal t) (record { number = sizes_refusal t; row = 0 })).number 0 ≡ true
        → cond b (rows_refusal t) (record { number = sizes_refusal t; row = 0 }) ≡ no_refusal
    by true f e = rows-none (P t) 1 (take t.n t.rows) e
    by false f e = absurd (true≢false (sym e ∙ f))

-- what a check of a table came to says its refusal
pub refusal_in : (t : Table) → unwrap_or (result_err (outcome (refusal t))) no_refusal ≡ refusal t
refusal_in t = by (eqb (refusal t).number 0) refl
  where
    by : (b : Bool) → eqb (refusal t).number 0 ≡ b
        → unwrap_or (result_err (cond b (Ok (tt {0})) (Err (refusal t)))) no_refusal ≡ refusal t
    by true e = sym (refusal-none t e)
    by false e = refl
