-- What the crates above know of the choice of partitions for a starting job. Only `choice-lowest` says which of the
-- idle ones are given.
use Prim.Native.Nat.{ℕ, zero, suc, ◌^◌, ◌<◌, ◌≤◌, min, zero-le}
use mathlib.Core.Path.{◌≡◌, ◌∙◌}
use native.Mathlib.Omega.{arith}
use native.Mathlib.Decide.{dec_lt}
use lib.Bits.{bit_and}
use Rattle.table.specs.Limits.{most_partitions}
use Rattle.sets.specs.Sets.{bit, size, without, Within}
use Rattle.sets.specs.Choice.{choice}
use Rattle.sets.proofs.Bits.{bit_lt, bit-without}
use Rattle.sets.proofs.Same.{none, disjoint_of, within_lt}
use Rattle.sets.proofs.Sizes.{size_none, size-more, size_grows}
use Rattle.sets.proofs.Chosen.{choice_in, choice-out, choice-far}

-- only idle ones are given
pub choice-within : (idle a : ℕ) → Within (choice idle a) idle
choice-within idle a p = by (dec_lt p most_partitions) (dec_lt (size p idle) a)
  where
    by : Dec (p < most_partitions) → Dec (size p idle < a) → bit (choice idle a) p ≤ bit idle p
    by (yes h) (yes l) = omega (arith, choice_in idle a p h l)
    by (yes h) (no l) = omega (arith, choice-out idle a p (omega arith))
    by (no h) l = omega (arith, choice-far idle a p (omega arith))

pub choice_lt : (w idle a : ℕ) → idle < 2 ^ w → choice idle a < 2 ^ w
choice_lt w idle a h = within_lt w (choice idle a) idle (choice-within idle a) h

-- none that is held
pub choice-free : (all held a : ℕ) → bit_and held (choice (without all held) a) ≡ 0
choice-free all held a =
    disjoint_of held (choice (without all held) a)
    (λ p. omega (arith, choice-within (without all held) a p, bit-without all held p, bit_lt held p, bit_lt all p))

-- as many as were asked for, where there are that many
choice-count : (idle a w : ℕ) → w ≤ most_partitions → size w (choice idle a) ≡ min a (size w idle)
choice-count idle a zero h = rw (size_none (choice idle a), size_none idle) (omega arith)
choice-count idle a (suc w) h = by (choice-count idle a w (omega arith)) (dec_lt (size w idle) a)
  where
    by : size w (choice idle a) ≡ min a (size w idle) → Dec (size w idle < a)
        → size (suc w) (choice idle a) ≡ min a (size (suc w) idle)
    by r (yes l) =
        rw (size-more w (choice idle a), size-more w idle, choice_in idle a w h l) (omega (arith, bit_lt idle w))
    by r (no l) = rw (size-more w (choice idle a), size-more w idle, choice-out idle a w (omega arith)) (omega arith)

pub choice-size : (idle a : ℕ) → a ≤ size most_partitions idle → size most_partitions (choice idle a) ≡ a
choice-size idle a h = omega (arith, choice-count idle a most_partitions (omega arith))

pub choice-none : (idle : ℕ) → choice idle 0 ≡ 0
choice-none idle = none (choice idle 0) (λ p. choice-out idle 0 p zero-le)

-- the lowest-numbered: an idle one below one that is given is given too
pub choice-lowest : (idle a p q : ℕ) → bit (choice idle a) q ≡ 1 → p < q → bit idle p ≡ 1 → bit (choice idle a) p ≡ 1
choice-lowest idle a p q e h b = by (dec_lt q most_partitions) (dec_lt (size q idle) a)
  where
    by : Dec (q < most_partitions) → Dec (size q idle < a) → bit (choice idle a) p ≡ 1
    by (yes k) (yes l) = choice_in idle a p (omega arith) (omega (arith, size_grows p q idle (omega arith))) ∙ b
    by (yes k) (no l) = absurd (omega (arith, choice-out idle a q (omega arith)))
    by (no k) l = absurd (omega (arith, choice-far idle a q (omega arith)))
