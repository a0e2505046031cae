-- The bytes of a number in document 01's texts: decimal, without sign, space, quote or leading zero; 0 itself is one
-- digit.
use Rattle.std.specs.Prelude.{ℕ, zero, suc, ◌+◌, ◌/◌, ◌%◌, true, false, List, [], ◌∷◌, ◌++◌, ltb}

abbrev pub digit : ℕ → ℕ
digit d = 48 + d

-- the last k digits of n, or all where there are fewer
unfoldable pub digits_in : ℕ → ℕ → List ℕ
digits_in zero n = []
digits_in (suc k) n =
    elim (ltb n 10) [ true ↦ digit n ∷ [] | false ↦ digits_in k (n / 10) ++ (digit (n % 10) ∷ []) ]

-- no number has more digits than it counts, but 0, which has one
unfoldable pub digits : ℕ → List ℕ
digits n = digits_in (suc n) n
