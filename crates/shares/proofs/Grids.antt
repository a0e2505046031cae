-- A list with an entry for each pair of numbers, in the order of the first and then of the second.
use Prim.Native.Nat.{ℕ, zero, suc, ◌+◌, ◌*◌, ◌<◌}
use mathlib.Core.Path.{◌≡◌, refl, sym, ap, ◌∙◌}
use mathlib.Core.List.{List, [], ◌∷◌, ◌++◌, append_assoc, append-nil, flatten}
use native.Mathlib.Decide.{dec_lt}
use native.Mathlib.Nat.{not-suc-le-zero, mul-le-mul_right}
use native.Mathlib.Omega.{arith}
use lib.ListN.{length, get_or, length-append, get_or-append}
use lib.Seq.{get_or-append-add}
use Rattle.maths.specs.Tasks.{tabulate}
use Rattle.maths.proofs.Tasks.{length-tabulate, get_d_tabulate}

flatten_snoc : {X : Type 0} (xs : List (List X)) (y : List X) → flatten (xs ++ (y ∷ [])) ≡ flatten xs ++ y
unfolding flatten
flatten_snoc [] y = append-nil y
flatten_snoc {X} (x ∷ xs) y = ap (λ (l : List X). x ++ l) (flatten_snoc xs y) ∙ sym (append_assoc x (flatten xs) y)

-- f k i for k = 1 to m, each for i = 1 to n
abbrev pub grid : {X : Type 0} → (ℕ → ℕ → X) → ℕ → ℕ → List X
grid f n m = flatten (tabulate m (λ k. tabulate n (f k)))

module _ {X : Type 0} (f : ℕ → ℕ → X) (n : ℕ) where
  pub grid-none : grid f n 0 ≡ []
  unfolding tabulate flatten
  grid-none = refl

  pub grid-more : (m : ℕ) → grid f n (suc m) ≡ grid f n m ++ tabulate n (f (suc m))
  unfolding tabulate
  grid-more m = flatten_snoc (tabulate m (λ k. tabulate n (f k))) (tabulate n (f (suc m)))

  pub length-grid : (m : ℕ) → length (grid f n m) ≡ m * n
  length-grid zero = ap length grid-none ∙ omega arith
  length-grid (suc m) =
      let row = length-tabulate (f (suc m)) n in
      ap length (grid-more m)
      ∙ length-append (grid f n m) (tabulate n (f (suc m)))
      ∙ omega (arith, length-grid m)

  pub get_d_grid : (m q r : ℕ) (d : X) → q < m → r < n → get_or (grid f n m) (q * n + r) d ≡ f (suc q) (suc r)
  get_d_grid zero q r d h l = absurd (not-suc-le-zero h)
  get_d_grid (suc m) q r d h l =
      let row = tabulate n (f (suc m)) in
      let size = length-grid m in
      ap (λ (x : List X). get_or x (q * n + r) d) (grid-more m)
      ∙ elim (dec_lt q m) [
        | yes g ↦
            let rows = mul-le-mul_right n g in
            get_or-append (grid f n m) row d (q * n + r) (omega arith) ∙ get_d_grid m q r d g l
        | no g ↦
            let e : q ≡ m = omega arith in
            let at : q * n + r ≡ length (grid f n m) + r = rw e (omega arith) in
            ap (λ (j : ℕ). get_or (grid f n m ++ row) j d) at
            ∙ get_or-append-add (grid f n m) row r d
            ∙ get_d_tabulate (f (suc m)) n r d l
            ∙ ap (λ (k : ℕ). f (suc k) (suc r)) (sym e)
      ]
