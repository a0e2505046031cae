-- Which partitions a starting job of A = a gets out of the set `idle`. Step 5 of document 01: the lowest-numbered idle
-- ones.
use Rattle.std.specs.Prelude.{ℕ, take}
use Rattle.table.specs.Limits.{most_partitions}
use Rattle.sets.specs.Sets.{members, set_of}

unfoldable pub choice : ℕ → ℕ → ℕ
choice idle a = set_of (take a (members most_partitions idle))
