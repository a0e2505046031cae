-- Laws of the test's definitions, for what stands on them.
use Prim.Native.Nat.{ℕ, zero, suc, ◌+◌, ◌-◌, ◌<◌, ◌≤◌, max}
use mathlib.Core.Path.{◌≡◌, refl, sym, ◌∙◌, ap}
use mathlib.Core.Bool.{Bool, true, false, cond, not}
use mathlib.Core.List.{List}
use mathlib.Core.Logic.{◌≢◌}
use native.Mathlib.Decide.{dec_lt}
use native.Mathlib.Nat.{add-zero}
use native.Mathlib.Numerals.{add-one}
use native.Mathlib.Omega.{arith}
use lib.IntN.{ℤ, pos, sub_ℕ}
use lib.Dec.{ltb, eqb, leb}
use lib.ListN.{set, replicate}
use borrow.Author.Tests.{lt-ltb, le-ltb, ltb-true, ltb-false, le-leb, lt-leb}
use Rattle.maths.specs.Tasks.{tabulate}
use Rattle.maths.proofs.Tasks.{every-lowest, set-tabulate}
use Rattle.table.specs.declared.Table.{Table}
use Rattle.table.specs.Limits.{most_tasks}
use Rattle.table.specs.Tasks.{τ, A}
use Rattle.admission.specs.Test.{Amax, less, margin, above0, passes, load, limit, admitted}
use Rattle.admission.specs.Test.{first_failing}

-- no task of 1 to k asks for more than Amax of k
pub Amax-over : (t : Table) (k i : ℕ) → i < k → A (τ t (suc i)) ≤ Amax t k
unfolding Amax
Amax-over t zero i l = absurd (omega arith)
Amax-over t (suc k) i l =
    elim (dec_lt i k) [
      | yes h ↦ omega (arith, Amax-over t k i h)
      | no h ↦ let e : i ≡ k = omega arith in rw e (omega arith)
    ]

-- of one task more, as a loop has it
pub Amax-more : (t : Table) (k : ℕ) {most more : ℕ} → most ≡ Amax t k → more ≡ max most (A (τ t (suc k)))
    → more ≡ Amax t (k + 1)
unfolding Amax
Amax-more t k e f = rw add-one (f ∙ rw e)

-- a margin is above 0 exactly where the load is below the limit
above0-less : (a b : ℕ) → above0 (less a b) ≡ ltb b a
unfolding less
above0-less a zero = rw (add-zero a)
above0-less a (suc b) = split (ltb a (suc b)) refl
  where
    split : (s : Bool) → ltb a (suc b) ≡ s → above0 (sub_ℕ a (suc b)) ≡ ltb (suc b) a
    split true e = rw e (sym (le-ltb (suc b) a (omega (arith, ltb-true a (suc b) e))))
    split false e =
        let h : suc b ≤ a = ltb-false a (suc b) e in
        rw e (by (ltb (suc b) a) refl)
      where
        by : (s : Bool) → ltb (suc b) a ≡ s → ltb 0 (a - suc b) ≡ s
        by true q = lt-ltb 0 (a - suc b) (omega (arith, ltb-true (suc b) a q))
        by false q = le-ltb 0 (a - suc b) (omega (arith, ltb-false (suc b) a q))

pub passes-is : (t : Table) (k : ℕ) → passes t k ≡ ltb (load t k) (limit t k)
passes-is t k = above0-less (limit t k) (load t k)

-- admitted is that no task fails
pub admitted-is : (t : Table) → admitted t ≡ eqb (first_failing t) 0
admitted-is t = every-lowest (passes t) t.n

-- the margins as the loop over the tasks has them after k turns
abbrev pub margins_to : Table → ℕ → List ℤ
margins_to t k = tabulate most_tasks (λ j. cond (leb j k) (margin t j) (pos 0))

pub margins-none : (t : Table) → replicate most_tasks (pos 0) ≡ margins_to t 0
unfolding tabulate
margins-none t = refl

pub margins-more : (t : Table) (k : ℕ) → k < most_tasks → set (margins_to t k) k (margin t (suc k))
    ≡ margins_to t (k + 1)
margins-more t k l =
    let now : cond (leb (suc k) (k + 1)) (margin t (suc k)) (pos 0) ≡ margin t (suc k) =
    rw (le-leb (suc k) (k + 1) (omega arith)) in
    ap (λ (z : ℤ). set (margins_to t k) k z) (sym now)
    ∙ set-tabulate (λ j. cond (leb j k) (margin t j) (pos 0))
    (λ j. cond (leb j (k + 1)) (margin t j) (pos 0)) most_tasks k l (λ j m ne. other j ne)
  where
    other : (j : ℕ) → j ≢ k
        → cond (leb (suc j) (k + 1)) (margin t (suc j)) (pos 0) ≡ cond (leb (suc j) k) (margin t (suc j)) (pos 0)
    other j ne =
        elim (dec_lt j k) [
          | yes h ↦ rw (le-leb (suc j) (k + 1) (omega arith), le-leb (suc j) k h)
          | no h ↦ rw (lt-leb (suc j) (k + 1) (omega arith), lt-leb (suc j) k (omega arith))
        ]

pub passes-below : (t : Table) (k : ℕ) → load t k < limit t k → not (passes t k) ≡ false
passes-below t k h = rw (passes-is t k, lt-ltb (load t k) (limit t k) h)

pub fails-reached : (t : Table) (k : ℕ) → limit t k ≤ load t k → not (passes t k) ≡ true
fails-reached t k h = rw (passes-is t k, le-ltb (load t k) (limit t k) h)
