-- A listing's row of five numbers of 64 bits has at most 106 bytes: 20 digits for each, four commas and CR LF.
use Prim.Native.Nat.{ℕ, ◌^◌, ◌<◌, ◌≤◌}
use mathlib.Core.List.{[], ◌∷◌}
use native.Mathlib.Omega.{arith}
use lib.ListN.{length, length-append}
use Rattle.forms.specs.Forms.{line}
use Rattle.forms.proofs.Digits.{width_most}

-- above every number of 64 bits
abbrev pub big : ℕ
big = 10 ^ 20

pub row-most : (a b c d e : ℕ) → a < big → b < big → c < big → d < big → e < big
    → length (line (a ∷ b ∷ c ∷ d ∷ e ∷ [])) ≤ 106
unfolding line
row-most a b c d e ha hb hc hd he =
    let first = width_most 19 a ha in
    let second = width_most 19 b hb in
    let third = width_most 19 c hc in
    let fourth = width_most 19 d hd in
    let fifth = width_most 19 e he in
    simp length-append (omega arith)
