-- The measure is the second argument: a remainder is less than what it is the remainder by.
use Rattle.multiples.proofs.+gcd.Given as goal

abbrev pub decreases-gcd : goal.decreases-gcd
decreases-gcd l = l.b
