-- The definition of `choice`, place by place: a member is taken exactly where fewer than a are below it.
use Prim.Native.Nat.{ℕ, zero, suc, ◌+◌, ◌^◌, ◌<◌, ◌≤◌}
use mathlib.Core.Path.{◌≡◌, refl, sym, ◌∙◌}
use mathlib.Core.Bool.{Bool, true, false, ◌&&◌, and-true, and-false}
use mathlib.Core.List.{List, [], ◌∷◌, ◌++◌, append-nil}
use mathlib.Core.Logic.{◌⊎◌, inl, inr}
use native.Mathlib.Omega.{arith}
use native.Mathlib.Numerals.{add-one}
use native.Mathlib.Decide.{dec_lt}
use borrow.Author.Tests.{lt-ltb, le-ltb}
use lib.Bits.{bit_or, or_zero_l, or_zero_r}
use lib.Dec.{ltb}
use lib.ListN.{length, take, length-append}
use lib.Seq.{take_all, take-append-le, take-nil}
use Rattle.table.specs.Limits.{most_partitions}
use Rattle.sets.specs.Sets.{bit, has, size, members, set_of, set_where}
use Rattle.sets.specs.Choice.{choice}
use Rattle.sets.proofs.Bits.{bit-cases, bit-one, bit-none, has-bit, bit-bit_or}
use Rattle.sets.proofs.Same.{same}
use Rattle.sets.proofs.Wheres.{where_none, where_or, where_out, where_bit, where_above}

set_snoc : (l : List ℕ) (p : ℕ) → set_of (l ++ (p ∷ [])) ≡ bit_or (set_of l) (2 ^ p)
unfolding set_of
set_snoc [] p = or_zero_r (2 ^ p) ∙ sym (or_zero_l (2 ^ p))
set_snoc (q ∷ l) p =
    let s = set_of l in
    rw (set_snoc l p)
    (same (bit_or (2 ^ q) (bit_or s (2 ^ p))) (bit_or (bit_or (2 ^ q) s) (2 ^ p))
    (λ i. omega (
      arith,
      bit-bit_or (2 ^ q) (bit_or s (2 ^ p)) i,
      bit-bit_or s (2 ^ p) i,
      bit-bit_or (bit_or (2 ^ q) s) (2 ^ p) i,
      bit-bit_or (2 ^ q) s i,
    )))

members_in : (w x : ℕ) → bit x w ≡ 1 → members (suc w) x ≡ members w x ++ (w ∷ [])
unfolding members
members_in w x e = rw (bit-one x w e)

members-out : (w x : ℕ) → bit x w ≡ 0 → members (suc w) x ≡ members w x
unfolding members
members-out w x e = rw (bit-none x w e, append-nil)

members-size : (w x : ℕ) → length (members w x) ≡ size w x
unfolding members size
members-size zero x = refl
members-size (suc w) x = by (members-size w x) (bit-cases x w)
  where
    by : length (members w x) ≡ size w x → (bit x w ≡ 0) ⊎ (bit x w ≡ 1)
        → length (members (suc w) x) ≡ size w x + bit x w
    by h (inl e) = rw (members-out w x e) (omega arith)
    by h (inr e) = rw (members_in w x e) (simp length-append (omega arith))

-- p is among the a lowest members of x
abbrev among : ℕ → ℕ → ℕ → Bool
among x a p = has x p && ltb (size p x) a

chosen : (w x a : ℕ) → set_of (take a (members w x)) ≡ set_where (among x a) w
unfolding members set_of
chosen zero x a = rw (take-nil a) (sym (where_none (among x a)))
chosen (suc w) x a = by (chosen w x a) (bit-cases x w) (dec_lt (size w x) a)
  where
    by : set_of (take a (members w x)) ≡ set_where (among x a) w → (bit x w ≡ 0) ⊎ (bit x w ≡ 1) → Dec (size w x < a)
        → set_of (take a (members (suc w) x)) ≡ set_where (among x a) (suc w)
    by h (inl e) d =
        let f : among x a w ≡ false = rw (bit-none x w e) in
        rw (members-out w x e, ← add-one, where_out (among x a) w f) h
    by h (inr e) (yes d) =
        let f : among x a w ≡ true = rw (bit-one x w e, lt-ltb (size w x) a d) in
        let long : length (members w x ++ (w ∷ [])) ≤ a = simp length-append (omega (arith, members-size w x)) in
        let all : take a (members w x) ≡ members w x = take_all a (members w x) (omega (arith, members-size w x)) in
        rw (members_in w x e, take_all a (members w x ++ (w ∷ [])) long, ← add-one, where_or (among x a) w f, ← h, all)
        (set_snoc (members w x) w)
    by h (inr e) (no d) =
        let f : among x a w ≡ false = rw (bit-one x w e, le-ltb (size w x) a (omega arith)) in
        let short : a ≤ length (members w x) = omega (arith, members-size w x) in
        rw (members_in w x e, take-append-le a (members w x) (w ∷ []) short, ← add-one, where_out (among x a) w f) h

choice-is : (x a : ℕ) → choice x a ≡ set_where (among x a) most_partitions
unfolding choice
choice-is x a = chosen most_partitions x a

module _ (x a p : ℕ) where
  pub choice_in : p < most_partitions → size p x < a → bit (choice x a) p ≡ bit x p
  choice_in h l =
      rw (choice-is x a) (where_bit (among x a) most_partitions p h
      ∙ rw (lt-ltb (size p x) a l, and-true) (has-bit x p))

  pub choice-far : most_partitions ≤ p → bit (choice x a) p ≡ 0
  choice-far h = rw (choice-is x a) (where_above (among x a) most_partitions p h)

  pub choice-out : a ≤ size p x → bit (choice x a) p ≡ 0
  choice-out l = by (dec_lt p most_partitions)
    where
      by : Dec (p < most_partitions) → bit (choice x a) p ≡ 0
      by (yes h) = rw (choice-is x a) (where_bit (among x a) most_partitions p h
          ∙ rw (le-ltb (size p x) a l, and-false))
      by (no h) = choice-far (omega arith)
