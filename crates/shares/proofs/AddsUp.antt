-- The shares of a task in the listing add up to its load.
use Prim.Native.Nat.{ℕ, zero, suc, ◌+◌, ◌<◌, ◌≤◌}
use mathlib.Core.Path.{◌≡◌, refl, sym, ap, ◌∙◌}
use mathlib.Core.List.{List, [], ◌∷◌, ◌++◌}
use native.Mathlib.Decide.{dec_le}
use native.Mathlib.Omega.{arith}
use borrow.Author.Tests.{eq-eqb, ne_eqb}
use Rattle.maths.specs.Sums.{Σ}
use Rattle.maths.specs.Tasks.{tabulate}
use Rattle.maths.proofs.Sums.{Σ-zero, Σ-suc}
use Rattle.table.specs.declared.Table.{Table}
use Rattle.admission.specs.Test.{share, limit, less}
use Rattle.admission.proofs.Shares.{shares_add_up}
use Rattle.shares.specs.Explain.{pair_row, shares_in, ListingAddsUp}
use Rattle.shares.proofs.Grids.{grid, grid-none, grid-more}

in_none : (k : ℕ) → shares_in k [] ≡ 0
unfolding shares_in
in_none k = refl

in_both : (k : ℕ) (xs ys : List (List ℕ)) → shares_in k (xs ++ ys) ≡ shares_in k xs + shares_in k ys
unfolding shares_in
in_both k [] ys = omega arith
in_both k (x ∷ xs) ys = omega (arith, in_both k xs ys)

module _ (t : Table) (k : ℕ) where
  -- the rows of task k, and of another
  in_own : (n : ℕ) → shares_in k (tabulate n (pair_row t k)) ≡ Σ n (share t k)
  unfolding tabulate shares_in
  in_own zero = sym (Σ-zero (share t k))
  in_own (suc n) =
      in_both k (tabulate n (pair_row t k)) (pair_row t k (suc n) ∷ [])
      ∙ rw (eq-eqb k k refl) (omega (arith, in_own n, Σ-suc n (share t k)))

  in_other : (j : ℕ) → (j ≡ k → ⊥) → (n : ℕ) → shares_in k (tabulate n (pair_row t j)) ≡ 0
  unfolding tabulate shares_in
  in_other j h zero = refl
  in_other j h (suc n) =
      in_both k (tabulate n (pair_row t j)) (pair_row t j (suc n) ∷ [])
      ∙ rw (ne_eqb j k h) (omega (arith, in_other j h n))

  -- the rows of the tasks up to m
  in_more : (n m : ℕ) → shares_in k (grid (pair_row t) n (suc m))
      ≡ shares_in k (grid (pair_row t) n m) + shares_in k (tabulate n (pair_row t (suc m)))
  in_more n m =
      ap (shares_in k) (grid-more (pair_row t) n m)
      ∙ in_both k (grid (pair_row t) n m) (tabulate n (pair_row t (suc m)))

  in_before : (n m : ℕ) → m < k → shares_in k (grid (pair_row t) n m) ≡ 0
  in_before n zero h = ap (shares_in k) (grid-none (pair_row t) n) ∙ in_none k
  in_before n (suc m) h =
      omega (arith, in_more n m, in_before n m (omega arith), in_other (suc m) (λ e. omega arith) n)

  in_all : (n m : ℕ) → 1 ≤ k → k ≤ m → shares_in k (grid (pair_row t) n m) ≡ Σ n (share t k)
  in_all n zero one h = absurd (omega arith)
  in_all n (suc m) one h =
      elim (dec_le k m) [
        | yes g ↦ omega (arith, in_more n m, in_all n m one g, in_other (suc m) (λ e. omega arith) n)
        | no g ↦
            let e : suc m ≡ k = omega arith in
            let own : shares_in k (tabulate n (pair_row t (suc m))) ≡ Σ n (share t k) = rw e (in_own n) in
            omega (arith, in_more n m, in_before n m (omega arith))
      ]

pub listing-adds-up : ListingAddsUp
listing-adds-up t k one h =
    let e = in_all t k t.n t.n one h ∙ (shares_add_up t k).0 in
    record { to_load = e; to_margin = ap (less (limit t k)) e }
