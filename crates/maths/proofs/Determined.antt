-- A contract `r ≡ f args` allows one result: the one lemma behind every determinacy that docs/STATEMENTS.md lists.
use mathlib.Core.Path.{◌≡◌, sym, ◌∙◌}

pub determined : {X : Type 0} (v r s : X) → r ≡ v → s ≡ v → r ≡ s
determined v r s p q = p ∙ sym q

-- the same where a function changes what it was lent: r and s are two results, a and b what lies behind the reference
-- afterwards
pub determined-both : {X Y : Type 0} (v : X) (w : Y) (r s : X) (a b : Y) → (r ≡ v) × (a ≡ w)
    → (s ≡ v) × (b ≡ w) → (r ≡ s) × (a ≡ b)
determined-both v w r s a b p q = (p.0 ∙ sym q.0, p.1 ∙ sym q.1)
