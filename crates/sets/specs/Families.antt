-- Sets that are held by some: `held i` is the set of holder i, for i below n.
use Rattle.std.specs.Prelude.{ℕ, zero, suc, ◌<◌, ◌≡◌, Bool, true, ◌&&◌}
use Rattle.std.specs.Int.Bits.{bit_and, bit_or}
use Rattle.sets.specs.Sets.{disjoint}

-- the union of held 0, held 1, .. , held (n - 1)
unfoldable pub union_of : ℕ → (ℕ → ℕ) → ℕ
union_of zero held = 0
union_of (suc n) held = bit_or (union_of n held) (held n)

-- no number is in the sets of two holders
abbrev pub Apart : ℕ → (ℕ → ℕ) → Type 0
Apart n held = (i j : ℕ) → i < j → j < n → bit_and (held i) (held j) ≡ 0

-- the same as a test, holder by holder
unfoldable pub all_apart : ℕ → (ℕ → ℕ) → Bool
all_apart zero held = true
all_apart (suc n) held = all_apart n held && disjoint (union_of n held) (held n)
