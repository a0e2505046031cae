-- Where a text goes, and what becomes of a text that is put there.
use Rattle.std.specs.Prelude.{ℕ, ◌+◌, ◌≤◌, ◌≡◌, Option, None, Some, cond, List, [], ◌++◌, leb, length}

-- how many bytes have room, and where a text leads that is put
pub record SinkLaws {S : Type 0} (room : S → ℕ) (put : S → List ℕ → S) : Type 0 where
  pub none : (s : S) → put s [] ≡ s
  pub behind : (s : S) (a b : List ℕ) → put (put s a) b ≡ put s (a ++ b)
  pub less : (s : S) (a : List ℕ) → length a ≤ room s → room (put s a) + length a ≡ room s

-- a text is put whole, or it has no room
pub record Took {S : Type 0} (room : S → ℕ) (put : S → List ℕ → S) (before : S) (text : List ℕ) (answer : Option Unit)
    (after : S) : Type 0 where
  pub fits : answer ≡ cond (leb (length text) (room before)) (Some tt) None
  pub holds : answer ≡ Some tt → after ≡ put before text
