-- A number where it is at most the most, else none: what `lcm_within` answers, and what the number was.
use Prim.Native.Nat.{ℕ, ◌<◌, ◌≤◌}
use mathlib.Core.Path.{◌≡◌, refl, sym}
use mathlib.Core.Bool.{Bool, true, false}
use borrow.Author.Tests.{leb-true, leb-false, le-leb, lt-leb}
use lib.Dec.{leb}
use Rattle.std.specs.Bool.{then_some}
use Rattle.std.specs.Prelude.{Some, None}
use Rattle.std.proofs.lemmas.Option.{none-some, same_Some}

module _ (x most : ℕ) where
  pub is_within : x ≤ most → then_some (leb x most) x ≡ Some x
  is_within l = rw (le-leb x most l)

  pub is-above : most < x → then_some (leb x most) x ≡ None
  is-above l = rw (lt-leb x most l)

  pub was-within : (y : ℕ) → then_some (leb x most) x ≡ Some y → (y ≡ x) × (x ≤ most)
  was-within y = by (leb x most) refl
    where
      by : (b : Bool) → leb x most ≡ b → then_some b x ≡ Some y → (y ≡ x) × (x ≤ most)
      by true e h = (sym (same_Some x y h), leb-true x most e)
      by false e h = absurd (none-some y h)

  pub was-above : then_some (leb x most) x ≡ None → most < x
  was-above = by (leb x most) refl
    where
      by : (b : Bool) → leb x most ≡ b → then_some b x ≡ None → most < x
      by true e h = absurd (none-some x (sym h))
      by false e h = leb-false x most e
