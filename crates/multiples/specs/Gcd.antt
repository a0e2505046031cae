-- The greatest common divisor by Euclid's remainders, and the least common multiple that comes from it (wish 1).
-- That they are these is `is-gcd` in proofs/Euclid.antt, and `lcm-first`, `lcm-second` and `lcm-le` in
-- proofs/Multiples.antt.
use Rattle.std.specs.Prelude.{ℕ, zero, suc, ◌*◌, ◌/◌, ◌%◌}

-- in so many turns at the most
unfoldable pub gcd_in : ℕ → ℕ → ℕ → ℕ
gcd_in zero a b = a
gcd_in (suc turns) a zero = a
gcd_in (suc turns) a (suc b) = gcd_in turns (suc b) (a % suc b)

-- the second argument, a remainder, falls at each turn, so that it is as many turns as are needed
unfoldable pub gcd : ℕ → ℕ → ℕ
gcd a b = gcd_in b a b

-- of two numbers above 0; 0 where one of them is 0
abbrev pub lcm : ℕ → ℕ → ℕ
lcm a b = a / gcd a b * b
