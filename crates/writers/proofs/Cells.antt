-- A number's digits, put from the right.
use Rattle.std.proofs.Common.{◌≡◌, ℕ, ◌+◌, ◌/◌, ◌%◌, ◌^◌, ◌<◌, ◌≤◌, List, [], ◌∷◌, ◌++◌, length, take, drop, refl}
use Rattle.std.proofs.Common.{sym, ap, ◌∙◌, arith, set, ◌-◌, append-nil, length-drop}
use Rattle.std.proofs.lemmas.List.{take_all, drop-set, length-set}
use native.Mathlib.Nat.{lt_of_lt_of_le}
use lib.Dec.{lit≤}
use lib.Seq.{append_snoc}
use Rattle.forms.specs.Digits.{digits}
use Rattle.forms.proofs.Digits.{one-digit, split-digit, width_one, width_more, width_some, width_most}
use Rattle.writers.specs.declared.Cell.{Cell}
use Rattle.writers.specs.Code.Cells.{held, Prefixed}

-- the digits of rest are to come before the bytes from a place on, and then those of n have
pub record Spelling (before : Cell) (n rest : ℕ) (bytes : List ℕ) (at : ℕ) : Type 0 where
  pub spelt : digits rest ++ drop at bytes ≡ digits n ++ held before
  pub place : at + length (digits n) ≡ before.from + length (digits rest)
  pub room : length (digits rest) ≤ at
  pub within : at ≤ 22
  pub size : length bytes ≡ 22

-- a u64 has at most 20 digits
pub width_room : (n : ℕ) → n < 2 ^ 64 → length (digits n) ≤ 20
width_room n fits = width_most 19 n (lt_of_lt_of_le fits (lit≤ tt))

pub spelling_start : (c : Cell) (n : ℕ) → n < 2 ^ 64 → 20 ≤ c.from → c.from ≤ 22 → length c.bytes ≡ 22
    → Spelling c n n c.bytes c.from
spelling_start c n fits room within size = record {
  spelt = refl;
  place = refl;
  room = omega (arith, width_room n fits);
  within = within;
  size = size;
}

module _ {before : Cell} {n rest : ℕ} {bytes : List ℕ} {at : ℕ} (s : Spelling before n rest bytes at) where
  pub spelling_room : 0 < at
  spelling_room = let h = s.room in omega (arith, width_some rest)

  pub spelling_more : 10 ≤ rest
      → Spelling before n (rest / 10) (set bytes (at - 1) (48 + rest % 10)) (at - 1)
  spelling_more ten =
      let more = width_more rest ten in
      let place = s.place in
      let room = s.room in
      let within = s.within in
      let size = s.size in
      let some = spelling_room in
      let byte = 48 + rest % 10 in
      let back : at - 1 + 1 ≡ at = omega arith in
      let first = drop-set bytes (at - 1) byte (omega arith) ∙ ap (λ k. byte ∷ drop k bytes) back in
      record {
        spelt =
            ap (λ l. digits (rest / 10) ++ l) first
            ∙ sym (append_snoc (digits (rest / 10)) byte (drop at bytes))
            ∙ ap (λ l. l ++ drop at bytes) (sym (split-digit rest ten))
            ∙ s.spelt;
        place = omega arith;
        room = omega arith;
        within = omega arith;
        size = length-set bytes (at - 1) byte ∙ size;
      }

  pub spelling_end : {d : Cell} → rest < 10 → d.bytes ≡ set bytes (at - 1) (48 + rest) → d.from ≡ at - 1
      → Prefixed before (digits n) d
  spelling_end one same here =
      let last = width_one rest one in
      let place = s.place in
      let within = s.within in
      let size = s.size in
      let some = spelling_room in
      let byte = 48 + rest in
      let back : at - 1 + 1 ≡ at = omega arith in
      let first = drop-set bytes (at - 1) byte (omega arith) ∙ ap (λ k. byte ∷ drop k bytes) back in
      record {
        holds =
            (λ i. drop (here i) (same i))
            ∙ first
            ∙ ap (λ l. l ++ drop at bytes) (sym (one-digit rest one))
            ∙ s.spelt;
        place = omega arith;
      }

-- what a cell holds in the end, as a slice
pub whole_cell : {a b c : Cell} {more bytes : List ℕ} → held a ≡ [] → Prefixed a more b → Prefixed b bytes c
    → take (length c.bytes - c.from) (drop c.from c.bytes) ≡ bytes ++ more
whole_cell {a} {b} {c} {more} {bytes} e p q =
    take_all (length c.bytes - c.from) (held c) (omega (arith, length-drop c.from c.bytes))
    ∙ q.holds
    ∙ ap (λ l. bytes ++ l) (p.holds ∙ ap (λ l. more ++ l) e ∙ append-nil more)
