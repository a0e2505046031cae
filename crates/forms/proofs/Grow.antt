-- A digit more: what it makes of the number, and that its byte is one more byte of the number's text.
use Prim.Native.Nat.{ℕ, ◌+◌, ◌*◌, ◌-◌, ◌<◌, ◌≤◌}
use mathlib.Core.Path.{◌≡◌, refl, ap, ◌∙◌}
use mathlib.Core.Bool.{Bool, true, false, ◌&&◌}
use mathlib.Core.List.{[], ◌∷◌, ◌++◌}
use mathlib.Core.Option.{Option, none, some}
use native.Mathlib.Omega.{arith}
use borrow.Author.Tests.{lt-ltb, le-leb, ltb-true, leb-true}
use Rattle.forms.specs.Digits.{digit, digits}
use Rattle.forms.specs.Reader.{keep, is_digit, grow}
use Rattle.forms.proofs.Digits.{one-digit, add_digit}
use Rattle.forms.proofs.Lines.{part}

pub grow_first : (m d : ℕ) → d < 10 → d ≤ m → grow m none (digit d) ≡ some d
unfolding grow
grow_first m d h g =
    let e : 48 + d - 48 ≡ d = omega arith in
    rw (le-leb 48 (48 + d) (omega arith), le-leb (48 + d) 57 (omega arith), e, le-leb d m g)

pub grow-more : (m v d : ℕ) → 0 < v → d < 10 → 10 * v + d ≤ m → grow m (some v) (digit d) ≡ some (10 * v + d)
unfolding grow
grow-more m v d p h g =
    let e : 48 + d - 48 ≡ d = omega arith in
    rw (lt-ltb 0 v p, le-leb 48 (48 + d) (omega arith), le-leb (48 + d) 57 (omega arith), e, le-leb (10 * v + d) m g)

-- a digit more, seen from the bytes
pub record Grown (m : ℕ) (v : Option ℕ) (c w : ℕ) : Type 0 where
  pub spelt : digits w ≡ part v ++ (c ∷ [])
  pub fits : w ≤ m

abbrev pub GrownIf : ℕ → Option ℕ → ℕ → Option ℕ → Type 0
GrownIf m v c none = Unit {0}
GrownIf m v c (some w) = Grown m v c w

kept : (m : ℕ) (v : Option ℕ) (c w : ℕ) (b : Bool) → (b ≡ true → Grown m v c w) → GrownIf m v c (keep b w)
kept m v c w true h = h refl
kept m v c w false h = tt

pub and-true : (a b : Bool) → a && b ≡ true → (a ≡ true) × (b ≡ true)
and-true true b e = (refl, e)
and-true false b e = absurd (no e)
  where
    no : false ≡ true → ⊥
    no e = let z : ◌≡◌ {A = ℕ} 0 1 = cc in omega arith

pub is_digit_lem : (c : ℕ) → is_digit c ≡ true → (c - 48 < 10) × (digit (c - 48) ≡ c)
is_digit_lem c e =
    let both = and-true _ _ e in
    let low = leb-true 48 c both.0 in
    let high = leb-true c 57 both.1 in
    omega arith

pub grown : (m : ℕ) (v : Option ℕ) (c : ℕ) → GrownIf m v c (grow m v c)
unfolding grow
grown m none c = kept m none c _ _ λ e.
    let both = and-true _ _ e in
    let d = is_digit_lem c both.0 in
    record { spelt = one-digit (c - 48) d.0 ∙ ap (λ (x : ℕ). x ∷ []) d.1; fits = leb-true (c - 48) m both.1 }
grown m (some v) c = kept m (some v) c _ _ λ e.
    let both = and-true _ _ e in
    let more = and-true _ _ both.0 in
    let d = is_digit_lem c more.0 in
    record {
      spelt = add_digit v (c - 48) (ltb-true 0 v more.1) d.0 ∙ ap (λ (x : ℕ). digits v ++ (x ∷ [])) d.1;
      fits = leb-true (10 * v + (c - 48)) m both.1;
    }
