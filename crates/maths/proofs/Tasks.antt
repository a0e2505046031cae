-- Laws of `every`, `lowest` and `tabulate`, for loops over tasks 1 to n and for what is proved of each task.
use Prim.Native.Nat.{ℕ, zero, suc, ◌+◌, ◌<◌, ◌≤◌}
use mathlib.Core.Path.{◌≡◌, refl, sym, ◌∙◌}
use mathlib.Core.Bool.{Bool, true, false, cond, not, ◌&&◌}
use mathlib.Core.List.{[], ◌∷◌}
use native.Mathlib.Nat.{not-suc-le-zero}
use native.Mathlib.Numerals.{add-one}
use native.Mathlib.Omega.{arith}
use native.Mathlib.Decide.{dec_lt, dec_le, ℕ_discrete}
use mathlib.Core.Logic.{◌≢◌}
use lib.Dec.{eqb, eqb-suc-zero}
use lib.ListN.{length, get_or, set, length-append, length-set, get_or-append}
use lib.Seq.{get_or_at, get_or-set_same, get_or-set_other, ext_get_or}
use Rattle.maths.specs.Tasks.{Each, every, or_else, lowest, tabulate}

-- what holds of i + 1 for each i below n holds of each task
pub each : (n : ℕ) (P : ℕ → Type 0) → ((i : ℕ) → i < n → P (suc i)) → Each n P
each n P h zero l m = absurd (omega arith)
each n P h (suc i) l m = h i (omega arith)

pub lowest-zero : (f : ℕ → Bool) → lowest 0 f ≡ 0
unfolding lowest
lowest-zero f = refl

-- as a loop's `i + 1` has it
pub lowest-more : (f : ℕ → Bool) (n : ℕ) → lowest (n + 1) f ≡ or_else (lowest n f) (cond (f (suc n)) (suc n) 0)
unfolding lowest
lowest-more f n = rw (add-one n)

pub or_zero : (x : ℕ) → or_else x 0 ≡ x
or_zero zero = refl
or_zero (suc x) = refl

-- it depends on the tasks asked alone
pub lowest-ext : (f g : ℕ → Bool) (n : ℕ) → ((i : ℕ) → i < n → f (suc i) ≡ g (suc i)) → lowest n f ≡ lowest n g
unfolding lowest
lowest-ext f g zero h = refl
lowest-ext f g (suc n) h = rw (lowest-ext f g n (λ i l. h i (omega arith)), h n (omega arith))

module _ (f : ℕ → Bool) where
  -- none of the first n, and not the next
  pub lowest-past : (n : ℕ) → lowest n f ≡ 0 → f (suc n) ≡ false → lowest (n + 1) f ≡ 0
  unfolding lowest
  lowest-past n none h = rw add-one (rw (none, h))

  -- none of the first n, but the next
  pub lowest-found : (n : ℕ) → lowest n f ≡ 0 → f (suc n) ≡ true → lowest (n + 1) f ≡ n + 1
  unfolding lowest
  lowest-found n none h = rw add-one (rw (none, h))

  lowest-one : (n k : ℕ) → lowest n f ≡ suc k → lowest (suc n) f ≡ suc k
  unfolding lowest
  lowest-one n k e = rw e

  -- once found, it is that whatever comes after
  pub lowest-stays : (n m k : ℕ) → n ≤ m → lowest n f ≡ suc k → lowest m f ≡ suc k
  lowest-stays n zero k l e =
      let z : n ≡ 0 = omega arith in
      rw z at e
  lowest-stays n (suc m) k l e =
      elim (dec_le n m) [
        | yes h ↦ lowest-one m k (lowest-stays n m k h e)
        | no h ↦ let z : n ≡ suc m = omega arith in rw z at e
      ]

  -- nothing found: it holds of none
  pub lowest-none : (n : ℕ) → lowest n f ≡ 0 → (i : ℕ) → i < n → f (suc i) ≡ false
  unfolding lowest
  lowest-none zero e i l = absurd (not-suc-le-zero l)
  lowest-none (suc n) e i l = by (lowest n f) refl (f (suc n)) refl e (dec_lt i n) (λ d h. lowest-none n d i h)
    where
      by : (m : ℕ) → lowest n f ≡ m → (b : Bool) → f (suc n) ≡ b → or_else m (cond b (suc n) 0) ≡ 0 → Dec (i < n)
          → (lowest n f ≡ 0 → i < n → f (suc i) ≡ false) → f (suc i) ≡ false
      by zero d b g e (yes h) rest = rest d h
      by zero d false g e (no h) rest = let z : i ≡ n = omega arith in rw z g
      by zero d true g e (no h) rest = absurd (omega arith)
      by (suc m) d b g e h rest = absurd (omega arith)

  -- what is found is among the first n, and it holds of that
  pub lowest-holds : (n k : ℕ) → lowest n f ≡ suc k → (k < n) × (f (suc k) ≡ true)
  unfolding lowest
  lowest-holds zero k e = absurd (omega arith)
  lowest-holds (suc n) k e = by (lowest n f) refl (f (suc n)) refl e (λ d. lowest-holds n k d)
    where
      by : (m : ℕ) → lowest n f ≡ m → (b : Bool) → f (suc n) ≡ b → or_else m (cond b (suc n) 0) ≡ suc k
          → (lowest n f ≡ suc k → (k < n) × (f (suc k) ≡ true)) → (k < suc n) × (f (suc k) ≡ true)
      by zero d true g e rest = let z : k ≡ n = omega arith in (omega arith, rw z g)
      by zero d false g e rest = absurd (omega arith)
      by (suc m) d b g e rest =
          let back = rest (d ∙ e) in
          (omega (arith, back.0), back.1)

  -- and it is the lowest
  pub lowest-first : (n k : ℕ) → lowest n f ≡ suc k → (i : ℕ) → i < k → f (suc i) ≡ false
  lowest-first n k e = by (lowest k f) refl
    where
      by : (m : ℕ) → lowest k f ≡ m → (i : ℕ) → i < k → f (suc i) ≡ false
      by zero d = lowest-none k d
      by (suc m) d =
          let late : suc m ≡ suc k = sym (lowest-stays k n m (omega (arith, (lowest-holds n k e).0)) d) ∙ e in
          absurd (omega (arith, (lowest-holds k m d).0))

  pub lowest-le : (n : ℕ) → lowest n f ≤ n
  lowest-le n = by (lowest n f) refl
    where
      by : (k : ℕ) → lowest n f ≡ k → k ≤ n
      by zero e = omega arith
      by (suc k) e = (lowest-holds n k e).0

  -- of the first n none, then none found
  pub lowest_empty : (n : ℕ) → ((i : ℕ) → i < n → f (suc i) ≡ false) → lowest n f ≡ 0
  unfolding lowest
  lowest_empty zero h = refl
  lowest_empty (suc n) h = rw (lowest_empty n (λ i l. h i (omega arith)), h n (omega arith))

  -- what comes after changes nothing where it holds of none there
  pub lowest_beyond : (n m : ℕ) → n ≤ m → ((i : ℕ) → n ≤ i → i < m → f (suc i) ≡ false) → lowest m f ≡ lowest n f
  unfolding lowest
  lowest_beyond n zero l h = let z : n ≡ 0 = omega arith in rw z
  lowest_beyond n (suc m) l h =
      elim (dec_le n m) [
        | yes k ↦ rw (h m k (omega arith)) (or_zero (lowest m f) ∙ lowest_beyond n m k (λ i a b. h i a (omega arith)))
        | no k ↦ let z : n ≡ suc m = omega arith in rw z
      ]

  -- that each passes is that none fails
  pub every-lowest : (n : ℕ) → every n f ≡ eqb (lowest n (λ k. not (f k))) 0
  unfolding every lowest
  every-lowest zero = refl
  every-lowest (suc n) = by (lowest n (λ k. not (f k))) refl (f (suc n)) refl (every-lowest n)
    where
      by : (m : ℕ) → lowest n (λ k. not (f k)) ≡ m → (b : Bool) → f (suc n) ≡ b
          → every n f ≡ eqb (lowest n (λ k. not (f k))) 0 → every n f && b ≡ eqb (or_else m (cond (not b) (suc n) 0)) 0
      by zero d true g rest = rw (rest, d)
      by zero d false g rest = rw (rest, d) (sym (eqb-suc-zero n))
      by (suc m) d b g rest = rw (rest, d, eqb-suc-zero m)

  pub every_holds : (n : ℕ) → every n f ≡ true → (i : ℕ) → i < n → f (suc i) ≡ true
  unfolding every
  every_holds zero e i l = absurd (not-suc-le-zero l)
  every_holds (suc n) e i l = by (every n f) refl (f (suc n)) refl e (dec_lt i n) (λ d h. every_holds n d i h)
    where
      by : (a : Bool) → every n f ≡ a → (b : Bool) → f (suc n) ≡ b → a && b ≡ true → Dec (i < n)
          → (every n f ≡ true → i < n → f (suc i) ≡ true) → f (suc i) ≡ true
      by true d b g e (yes h) rest = rest d h
      by true d b g e (no h) rest = let z : i ≡ n = omega arith in rw z (g ∙ e)
      by false d b g e h rest = absurd (let z : ◌≡◌ {A = ℕ} 0 1 = cc in omega arith)

  pub every_of : (n : ℕ) → ((i : ℕ) → i < n → f (suc i) ≡ true) → every n f ≡ true
  unfolding every
  every_of zero h = refl
  every_of (suc n) h = rw (every_of n (λ i l. h i (omega arith)), h n (omega arith))

-- a list with an entry for each task
module _ {X : Type 0} (f : ℕ → X) where
  pub length-tabulate : (n : ℕ) → length (tabulate n f) ≡ n
  unfolding tabulate
  length-tabulate zero = refl
  length-tabulate (suc n) = simp length-append (omega (arith, length-tabulate n))

  pub get_d_tabulate : (n i : ℕ) (d : X) → i < n → get_or (tabulate n f) i d ≡ f (suc i)
  unfolding tabulate
  get_d_tabulate zero i d l = absurd (not-suc-le-zero l)
  get_d_tabulate (suc n) i d l =
      elim (dec_lt i n) [
        | yes h ↦ get_or-append (tabulate n f) (f (suc n) ∷ []) d i (omega (arith, length-tabulate n))
            ∙ get_d_tabulate n i d h
        | no h ↦ let z : i ≡ n = omega arith in rw z (get_or_at (tabulate n f) (f (suc n)) [] d n (length-tabulate n))
      ]

-- a store of an array that is tabulated: the same but at one place
pub set-tabulate : {X : Type 0} (f g : ℕ → X) (n i : ℕ) → i < n → ((j : ℕ) → j < n → j ≢ i → g (suc j) ≡ f (suc j))
    → set (tabulate n f) i (g (suc i)) ≡ tabulate n g
set-tabulate f g n i l same =
    let long : length (set (tabulate n f) i (g (suc i))) ≡ n =
    length-set (tabulate n f) i (g (suc i)) ∙ length-tabulate f n in
    ext_get_or (g 0) _ _ (long ∙ sym (length-tabulate g n)) (λ j m. at j (omega (arith, long)))
  where
    at : (j : ℕ) → j < n → get_or (set (tabulate n f) i (g (suc i))) j (g 0) ≡ get_or (tabulate n g) j (g 0)
    at j m =
        elim (ℕ_discrete j i) [
          | yes e ↦ rw (e, get_d_tabulate g n i (g 0) l)
              (get_or-set_same (tabulate n f) i (g (suc i)) (g 0) (omega (arith, length-tabulate f n)))
          | no h ↦ get_or-set_other (tabulate n f) i j (g (suc i)) (g 0) h
              ∙ (get_d_tabulate f n j (g 0) m ∙ (sym (same j m h) ∙ sym (get_d_tabulate g n j (g 0) m)))
        ]

pub or_else-some : (x y : ℕ) → 0 < x → or_else x y ≡ x
or_else-some zero y h = absurd (not-suc-le-zero h)
or_else-some (suc x) y h = refl

pub or_else-none : (x y : ℕ) → x ≤ 0 → or_else x y ≡ y
or_else-none zero y h = refl
or_else-none (suc x) y h = absurd (not-suc-le-zero h)
