-- The first k of a list, made up to k by a value: what an array of k elements holds of it.
use Rattle.std.specs.Prelude.{ℕ, zero, suc, List, [], ◌∷◌}

unfoldable pub padded : {A : Type 0} → ℕ → A → List A → List A
padded zero d xs = []
padded (suc k) d [] = d ∷ padded k d []
padded (suc k) d (x ∷ xs) = x ∷ padded k d xs
