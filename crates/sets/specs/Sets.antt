-- Numbers as sets, as document 01 has them: a partition p adds 2 ^ p, a task k adds 2 ^ (k - 1).
-- Stated over any number of places w once, for sets of tasks and sets of partitions.
-- The union of two sets is `bit_or`, what they share is `bit_and`, both of lib.Bits.
use Rattle.std.specs.Prelude.{ℕ, zero, suc, ◌+◌, ◌-◌, ◌/◌, ◌%◌, ◌^◌, ◌≤◌, Bool, cond, List, [], ◌∷◌, ◌++◌, eqb}
use lib.Bits.{bit_and, bit_or}
use Rattle.table.specs.declared.Partitions.{Partitions}
use Rattle.table.specs.Limits.{most_partitions}

-- 1 where p is in the set x, and 0 where it is not
abbrev pub bit : ℕ → ℕ → ℕ
bit x p = x / 2 ^ p % 2

abbrev pub has : ℕ → ℕ → Bool
has x p = eqb (bit x p) 1

-- all of x is in y
abbrev pub Within : ℕ → ℕ → Type 0
Within x y = (p : ℕ) → bit x p ≤ bit y p

-- how many members of x are below w
unfoldable pub size : ℕ → ℕ → ℕ
size zero x = 0
size (suc w) x = size w x + bit x w

-- how many partitions a set of them has
abbrev pub partitions_in : ℕ → Partitions
partitions_in x = record { 0 = size most_partitions x }

-- the members of x below w, in ascending order
unfoldable pub members : ℕ → ℕ → List ℕ
members zero x = []
members (suc w) x = members w x ++ cond (has x w) (w ∷ []) []

-- the set of the listed numbers
unfoldable pub set_of : List ℕ → ℕ
set_of [] = 0
set_of (p ∷ ps) = bit_or (2 ^ p) (set_of ps)

-- the set of 0, 1, .. , p - 1
abbrev pub below : ℕ → ℕ
below p = 2 ^ p - 1

-- x and y share no member
abbrev pub disjoint : ℕ → ℕ → Bool
disjoint x y = eqb (bit_and x y) 0

-- the members of x that are not in y
abbrev pub without : ℕ → ℕ → ℕ
without x y = x - bit_and x y

-- the set of the i below n of which f is true
unfoldable pub set_where : (ℕ → Bool) → ℕ → ℕ
set_where f zero = 0
set_where f (suc n) = set_where f n + cond (f n) (2 ^ n) 0
