-- A set without its lowest member, and without as many as a starting job gets, as the code of the choice takes them. No
-- statement of a public function rests on these.
use Rattle.std.specs.Prelude.{ℕ, ◌-◌}
use Rattle.std.specs.Int.Bits.{bit_and}
use Rattle.sets.specs.Sets.{without}
use Rattle.sets.specs.Choice.{choice}

abbrev pub less : ℕ → ℕ
less x = bit_and x (x - 1)

-- what the choice leaves
abbrev pub leaves : ℕ → ℕ → ℕ
leaves x a = without x (choice x a)
