-- An ordered list of numbered rules, as document 01 tables its refusals, and the number of the first that is given.
use Rattle.std.specs.Prelude.{ℕ, Bool, cond, ◌||◌, List, [], ◌∷◌, ltb}

pub record Rule (A : Type 0) : Type 0 where
  pub number : ℕ
  pub given : A → Bool

abbrev pub rule : {A : Type 0} → ℕ → (A → Bool) → Rule A
rule number given = record { number = number; given = given }

-- the number of the first rule that is given, or 0
abbrev pub first : {A : Type 0} → List (Rule A) → A → ℕ
first [] x = 0
first (r ∷ rs) x = cond (r.given x) r.number (first rs x)

-- x is below low or above high
abbrev pub outside : ℕ → ℕ → ℕ → Bool
outside low high x = ltb x low || ltb high x
