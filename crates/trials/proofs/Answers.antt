-- From the table of the texts to the rehearsal that is listed.
use Prim.Native.Nat.{ℕ, ◌≤◌}
use mathlib.Core.Path.{◌≡◌, refl, sym, ap}
use mathlib.Core.Bool.{Bool, true, false, cond}
use mathlib.Core.List.{List}
use native.Mathlib.Omega.{arith}
use borrow.Author.Tests.{eqb-true}
use lib.Dec.{eqb}
use Rattle.std.specs.Prelude.{Option, Result, Ok, Err}
use Rattle.table.specs.declared.Refusal.{Refusal}
use Rattle.table.specs.declared.Table.{Table}
use Rattle.table.specs.Limits.{most_tasks}
use Rattle.table.specs.Reasons.{answered}
use Rattle.texts.specs.Given.{table_taken}
use Rattle.texts.proofs.Given.{taken-rows}
use Rattle.rehearsal.specs.declared.Rehearsal.{Rehearsal}
use Rattle.rehearsal.specs.Rehearsal.{bench_refusal, rehearsed}
use Rattle.trials.specs.Code.Trials.{tried_of}
use Rattle.trials.proofs.Sizes.{fits_of}

abbrev Tried : Type 0
Tried = Result (ℕ × Rehearsal) Refusal

-- what is tried of a table, by its rehearsal or what the bench refuses of it
module _ (t : Table) where
  refusal_is : (rehearsed t).refused ≡ bench_refusal t
  unfolding rehearsed
  refusal_is = by (eqb (bench_refusal t).number 0) refl
    where
      by : (b : Bool) → eqb (bench_refusal t).number 0 ≡ b → (rehearsed t).refused ≡ bench_refusal t
      by true w = rw (rehearsed, w) refl
      by false w = rw (rehearsed, w) refl

  pub tried-not : (r : Refusal) → Err r ≡ answered (bench_refusal t) (rehearsed t) → Err r ≡ tried_of (Ok t)
  unfolding rehearsed
  tried-not r e = rw refusal_is (by (eqb (bench_refusal t).number 0) e)
    where
      by : (b : Bool) → ◌≡◌ {A = Result Rehearsal Refusal} (Err r) (cond b (Ok (rehearsed t)) (Err (bench_refusal t)))
          → ◌≡◌ {A = Tried} (Err r) (cond b (Ok (t.n, rehearsed t)) (Err (bench_refusal t)))
      by true f = grind arith
      by false f = grind arith

  pub tried-told : (r : Rehearsal) → Ok r ≡ answered (bench_refusal t) (rehearsed t) → Ok (t.n, r) ≡ tried_of (Ok t)
  unfolding rehearsed
  tried-told r e = rw refusal_is (by (eqb (bench_refusal t).number 0) e)
    where
      by : (b : Bool) → ◌≡◌ {A = Result Rehearsal Refusal} (Ok r) (cond b (Ok (rehearsed t)) (Err (bench_refusal t)))
          → ◌≡◌ {A = Tried} (Ok (t.n, r)) (cond b (Ok (t.n, rehearsed t)) (Err (bench_refusal t)))
      by true f = grind arith
      by false f = grind arith

-- of at most 32 tasks, since the table is not refused
pub tried-few : (platform tasks : Option (List ℕ)) (n : ℕ) (r : Rehearsal)
    → ◌≡◌ {A = Tried} (Ok (n, r)) (tried_of (table_taken platform tasks)) → n ≤ most_tasks
tried-few platform tasks n r e = by (table_taken platform tasks) refl e
  where
    by : (x : Result Table Refusal) → table_taken platform tasks ≡ x → ◌≡◌ {A = Tried} (Ok (n, r)) (tried_of x)
        → n ≤ most_tasks
    by (Err s) f h = absurd cc
    by (Ok t) f h = go (eqb (rehearsed t).refused.number 0) refl h
      where
        go : (b : Bool) → eqb (rehearsed t).refused.number 0 ≡ b
            → ◌≡◌ {A = Tried} (Ok (n, r)) (cond b (Ok (t.n, rehearsed t)) (Err (rehearsed t).refused))
            → n ≤ most_tasks
        go true w g =
            let pair : ◌≡◌ {A = ℕ × Rehearsal} (n, r) (t.n, rehearsed t) = cc in
            let same : n ≡ t.n = ap (λ (p : ℕ × Rehearsal). p.0) pair in
            let few = (fits_of t (taken-rows _ _ t (sym f)) (eqb-true _ _ w)).few in
            omega arith
        go false w g = absurd cc
