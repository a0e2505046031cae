-- What a writer gives and leaves: the text at the front of the buffer with the bytes past it as they were, or refusal
-- 16 where the text is longer than the buffer, and then nothing is changed.
use Rattle.std.specs.Prelude.{ℕ, ◌+◌, ◌-◌, ◌≡◌, Option, None, Some, Bool, cond, ◌&&◌, List, ◌++◌, leb, length, drop}
use Rattle.std.proofs.lemmas.List.Edits.{sets}
use Rattle.table.specs.declared.Refusal.{Refusal}
use Rattle.table.specs.Refused.{no_refusal}
use Rattle.writers.specs.declared.Written.{Written}
use Rattle.writers.specs.declared.TextsWritten.{TextsWritten}

abbrev pub too_short : Refusal
too_short = record { number = 16; row = 0 }

unfoldable pub written : List ℕ → List ℕ → Written
written text buffer =
    cond (leb (length text) (length buffer))
    (record { refused = no_refusal; length = length text })
    (record { refused = too_short; length = 0 })

unfoldable pub leaves : List ℕ → List ℕ → List ℕ
leaves text buffer = cond (leb (length text) (length buffer)) (text ++ drop (length text) buffer) buffer

pub record Wrote (text buffer : List ℕ) (answer : Written) (after : List ℕ) : Type 0 where
  pub answers : answer ≡ written text buffer
  pub holds : after ≡ leaves text buffer

-- two texts into two buffers: both, or neither
abbrev pub both_fit : List ℕ → List ℕ → List ℕ → List ℕ → Bool
both_fit a b first second = leb (length a) (length first) && leb (length b) (length second)

pub record WroteBoth (a b first second : List ℕ) (answer : TextsWritten) (after₁ after₂ : List ℕ) : Type 0 where
  pub answers :
      answer
      ≡ cond (both_fit a b first second)
      (record { refused = no_refusal; platform = length a; tasks = length b })
      (record { refused = too_short; platform = 0; tasks = 0 })
  pub holds₁ : after₁ ≡ cond (both_fit a b first second) (a ++ drop (length a) first) first
  pub holds₂ : after₂ ≡ cond (both_fit a b first second) (b ++ drop (length b) second) second

-- what a text leaves of some room, where it has so much
abbrev pub room_for : List ℕ → ℕ → Option ℕ
room_for text room = cond (leb (length text) room) (Some (room - length text)) None

-- a text put only if it has room from its place on
abbrev pub fits_at : List ℕ → ℕ → List ℕ → Bool
fits_at buffer at text = leb (at + length text) (length buffer)

pub record Added (buffer : List ℕ) (at : ℕ) (text : List ℕ) (next : ℕ) (after : List ℕ) : Type 0 where
  pub behind : next ≡ cond (fits_at buffer at text) (at + length text) at
  pub holds : after ≡ cond (fits_at buffer at text) (sets buffer at text) buffer
