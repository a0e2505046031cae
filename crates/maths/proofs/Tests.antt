-- What a chain of tests decides: code that branches against a definition by `cond`, and back from the answer to the
-- tests.
use Prim.Native.Nat.{ℕ, zero, suc, ◌<◌, ◌≤◌}
use mathlib.Core.Path.{◌≡◌, refl, sym}
use mathlib.Core.Bool.{Bool, true, false, cond, ◌&&◌, ◌||◌, true≢false}
use native.Mathlib.Omega.{arith}
use borrow.Author.Tests.{eq-eqb, ne_eqb, lt-ltb, le-ltb, le-leb, lt-leb, ltb-false, eqb-false}
use lib.Dec.{eqb}
use Rattle.maths.specs.Rules.{outside}

-- `search tests`, under `unfolding` of the definition
pub ruleset tests = (eq-eqb, ne_eqb, lt-ltb, le-ltb, le-leb, lt-leb)

-- a choice that came out as 0 was not for a number above 0
pub not-given : (b : Bool) (k rest : ℕ) → cond b (suc k) rest ≡ 0 → (b ≡ false) × (rest ≡ 0)
not-given true k rest e = absurd (no e)
  where
    no : suc k ≡ 0 → ⊥
    no e = omega arith
not-given false k rest e = (refl, e)

or_false : (a b : Bool) → a || b ≡ false → (a ≡ false) × (b ≡ false)
or_false true b e = absurd (no e)
  where
    no : true ≡ false → ⊥
    no e = let z : ◌≡◌ {A = ℕ} 0 1 = cc in omega arith
or_false false b e = (refl, e)

pub not-outside : (low high x : ℕ) → outside low high x ≡ false → (low ≤ x) × (x ≤ high)
not-outside low high x e =
    let both = or_false _ _ e in
    (ltb-false x low both.0, ltb-false high x both.1)

pub positive : (n : ℕ) → eqb n 0 ≡ false → 0 < n
positive zero e = absurd (eqb-false 0 0 e refl)
positive (suc n) e = omega arith

-- two tests that both hold
pub both : (a b : Bool) → a && b ≡ true → (a ≡ true) × (b ≡ true)
both true b e = (refl, e)
both false b e = absurd (true≢false (sym e))

-- a test that cannot hold
pub false_of : (b : Bool) → (b ≡ true → ⊥) → b ≡ false
false_of true h = absurd (h refl)
false_of false h = refl

-- two tests that hold together are one
pub same_truth : (a b : Bool) → (a ≡ true → b ≡ true) → (b ≡ true → a ≡ true) → a ≡ b
same_truth true b f g = sym (f refl)
same_truth false true f g = g refl
same_truth false false f g = refl
