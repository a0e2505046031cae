-- What it is to read a text rightly, in document 01's words: the rows whose good text it is, or else refusal 15 with
-- the length of the longest beginning of the text that some good text also begins with.
use Rattle.std.specs.Prelude.{ℕ, ◌≤◌, ◌<◌, ◌≡◌, List, ◌++◌, length, take}
use Rattle.forms.specs.Forms.{Form, GoodRows, text, GoodText}

pub data Answer (A : Type 0) : Type 0 where
  found : A → Answer A
  refused : ℕ → Answer A

-- some good one begins with these bytes
abbrev pub Begins : (List ℕ → Type 0) → List ℕ → Type 0
Begins Is bytes = (rest : List ℕ) × Is (bytes ++ rest)

pub record Longest (Is : List ℕ → Type 0) (bytes : List ℕ) (k : ℕ) : Type 0 where
  pub inside : k ≤ length bytes
  pub begins : Begins Is (take k bytes)
  pub longest : (j : ℕ) → k < j → j ≤ length bytes → Begins Is (take j bytes) → ⊥

pub record NoText (F : Form) (bytes : List ℕ) (k : ℕ) : Type 0 where
  pub bad : GoodText F bytes → ⊥
  pub offset : Longest (GoodText F) bytes k

abbrev pub Reads : Form → List ℕ → Answer (List (List ℕ)) → Type 0
Reads F bytes (found rows) = GoodRows F rows × (text F rows ≡ bytes)
Reads F bytes (refused k) = NoText F bytes k
