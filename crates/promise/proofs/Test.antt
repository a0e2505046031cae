-- A table that the quick answer admits is safe: by theorem 2, with its weights.
use Prim.Native.Nat.{ℕ, suc, ◌*◌, ◌<◌}
use mathlib.Core.Path.{◌≡◌, refl, sym, ◌∙◌}
use mathlib.Core.Bool.{Bool, true, false, true≢false}
use borrow.Author.Tests.{eqb-true, ltb-true}
use Rattle.maths.proofs.Tasks.{each, every_holds}
use Rattle.table.specs.declared.Table.{Table}
use Rattle.table.specs.Refused.{refusal, unrefused}
use Rattle.table.specs.Tasks.{M, τ, A}
use Rattle.admission.specs.Test.{B, interference, weight, load, limit, passes}
use Rattle.admission.specs.Answers.{quick_answer}
use Rattle.admission.proofs.Laws.{passes-is}
use Rattle.lives.proofs.Weights.{full-weight}
use Rattle.promise.specs.Promise.{Admitted}
use Rattle.promise.proofs.Safe.{Safe}

-- the verdict: no refusal, and every task passes
verdict-parts : (t : Table) → Admitted t
    → ((refusal t).number ≡ 0) × ((i : ℕ) → i < t.n → load t (suc i) < limit t (suc i))
unfolding quick_answer
verdict-parts t a = by (unrefused t) refl
  where
    by : (b : Bool) → unrefused t ≡ b
        → ((refusal t).number ≡ 0) × ((i : ℕ) → i < t.n → load t (suc i) < limit t (suc i))
    by true e = (
      eqb-true _ 0 e,
      λ i l. ltb-true _ _ (sym (passes-is t (suc i)) ∙ every_holds (passes t) t.n (rw e at a.verdict) i l),
    )
    by false e = absurd (true≢false (sym (rw e at a.verdict)))

module _ (t : Table) (a : Admitted t) where
  pub not-refused : (refusal t).number ≡ 0
  not-refused = (verdict-parts t a).0

  pub safe : Safe t
  unfolding load limit interference
  safe =
      record {
        whole = a.whole;
        unrefused = not-refused;
        weighed =
            record {
              scale = λ k. M t * B t k;
              weight = weight t;
              heavy = λ k p q. full-weight t.n (M t) (B t k) (λ i. A (τ t i));
              light = each t.n _ (verdict-parts t a).1;
            };
      }
