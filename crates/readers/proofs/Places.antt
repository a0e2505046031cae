-- Laws of what stands at a place, for loops that go along the bytes.
use Prim.Native.Nat.{ℕ, ◌+◌, ◌-◌, ◌*◌, ◌<◌, ◌≤◌}
use mathlib.Core.Path.{◌≡◌, refl, ◌∙◌}
use mathlib.Core.Bool.{Bool, true, false, cond, ◌&&◌}
use mathlib.Core.List.{List, [], ◌∷◌}
use mathlib.Core.Option.{Option, none, some}
use native.Mathlib.Numerals.{add-one}
use native.Mathlib.Omega.{arith}
use native.Mathlib.Decide.{dec_lt}
use borrow.Author.Tests.{eq-eqb, ne_eqb, lt-ltb}
use lib.Dec.{leb}
use lib.ListN.{length, drop, get_or, drop_of_length-le}
use lib.Seq.{drop-cons}
use Rattle.std.specs.Prelude.{Option as Maybe, Some, None}
use Rattle.forms.specs.Reader.{keep, is_digit, grow}
use Rattle.readers.specs.Places.{agree_from, ends, number_from, number_at}
use Rattle.readers.specs.Code.Digits.{grown_to}

pub agree-end : (next : ℕ) (word bytes : List ℕ) (i : ℕ) → length word ≤ i → agree_from next (drop i word) bytes ≡ next
unfolding agree_from
agree-end next word bytes i h = rw (drop_of_length-le word h)

pub agree-short : (text : List ℕ) (next : ℕ) (word : List ℕ) → length text ≤ next
    → agree_from next word (drop next text) ≡ next
unfolding agree_from
agree-short text next [] h = refl
agree-short text next (b ∷ word) h = rw (drop_of_length-le text h)

module _ (text : List ℕ) (next : ℕ) (word : List ℕ) (i : ℕ) (inside : next < length text) (more : i < length word) where
  pub agree-other : (get_or text next 0 ≡ get_or word i 0 → ⊥) → agree_from next (drop i word) (drop next text) ≡ next
  unfolding agree_from
  agree-other h =
      rw (drop-cons text next 0 inside, drop-cons word i 0 more) (rw (ne_eqb (get_or text next 0) (get_or word i 0) h))

  pub agree-more : get_or text next 0 ≡ get_or word i 0
      → agree_from next (drop i word) (drop next text)
      ≡ agree_from (next + 1) (drop (i + 1) word) (drop (next + 1) text)
  unfolding agree_from
  agree-more h = rw (add-one, add-one)
      (rw (drop-cons text next 0 inside, drop-cons word i 0 more)
      (rw (eq-eqb (get_or text next 0) (get_or word i 0) h)))

abbrev kept : Maybe ℕ → Option ℕ
kept None = none
kept (Some w) = some w

module _ (most : ℕ) where
  grow-none : (c : ℕ) → grow most none c ≡ kept (grown_to most 0 c)
  unfolding grow
  grow-none c = let e : 10 * 0 + (c - 48) ≡ c - 48 = omega arith in rw e (go (is_digit c && leb (c - 48) most))
    where
      go : (b : Bool) → keep b (c - 48) ≡ kept (cond b (Some (c - 48)) None)
      go true = refl
      go false = refl

  grow-some : (v c : ℕ) → 0 < v → grow most (some v) c ≡ kept (grown_to most v c)
  unfolding grow
  grow-some v c h = rw (lt-ltb 0 v h) (go (is_digit c) (leb (10 * v + (c - 48)) most))
    where
      go : (a b : Bool)
          → keep (a && true && b) (10 * v + (c - 48)) ≡ kept (cond (a && b) (Some (10 * v + (c - 48))) None)
      go true true = refl
      go true false = refl
      go false b = refl

  grow-zero : (c : ℕ) → grow most (some 0) c ≡ none
  unfolding grow
  grow-zero c = go (is_digit c)
    where
      go : (b : Bool) → keep (b && false && leb (10 * 0 + (c - 48)) most) (10 * 0 + (c - 48)) ≡ none
      go true = refl
      go false = refl

  -- a further digit leaves a number above 0
  pub grown-above : (v c : ℕ) → 0 < v → (w : ℕ) → Some w ≡ grown_to most v c → 0 < w
  grown-above v c h w e = go (is_digit c && leb (10 * v + (c - 48)) most) e
    where
      go : (b : Bool) → Some w ≡ cond b (Some (10 * v + (c - 48))) None → 0 < w
      go true e = let same : w ≡ 10 * v + (c - 48) = cc in omega arith
      go false e = absurd (no e)
        where
          no : ◌≡◌ {A = Maybe ℕ} (Some w) None → ⊥
          no e = let z : ◌≡◌ {A = ℕ} 0 1 = cc in omega arith

  module _ (text : List ℕ) where
    pub number_short : (at : ℕ) → length text ≤ at → number_at most text at ≡ None
    unfolding number_from
    number_short at h = rw (drop_of_length-le text h)

    pub number-end : (next v : ℕ) → length text ≤ next
        → number_from most next (some v) (drop next text) ≡ Some (record { value = v; next = next })
    unfolding number_from
    number-end next v h = rw (drop_of_length-le text h)

    module _ (next : ℕ) (inside : next < length text) where
      pub halts : (v : Option ℕ) → grow most v (get_or text next 0) ≡ none
          → number_from most next v (drop next text) ≡ ends next v
      unfolding number_from
      halts v e = rw (drop-cons text next 0 inside) (rw (e, number_from))

      pub goes : (v : Option ℕ) (w : ℕ) → grow most v (get_or text next 0) ≡ some w
          → number_from most next v (drop next text) ≡ number_from most (next + 1) (some w) (drop (next + 1) text)
      unfolding number_from
      goes v w e = rw add-one (rw (drop-cons text next 0 inside) (rw (e, number_from)))

      pub number-not : None ≡ grown_to most 0 (get_or text next 0) → number_at most text next ≡ None
      number-not e = halts none (grow-none _ ∙ rw (← e) refl)

      pub number-first : (w : ℕ) → Some w ≡ grown_to most 0 (get_or text next 0)
          → number_at most text next ≡ number_from most (next + 1) (some w) (drop (next + 1) text)
      number-first w e = goes none w (grow-none _ ∙ rw (← e) refl)

      module _ (v : ℕ) (above : 0 < v) where
        pub number-stop : None ≡ grown_to most v (get_or text next 0)
            → number_from most next (some v) (drop next text) ≡ Some (record { value = v; next = next })
        number-stop e = halts (some v) (grow-some v _ above ∙ rw (← e) refl)

        pub number_more : (w : ℕ) → Some w ≡ grown_to most v (get_or text next 0)
            → number_from most next (some v) (drop next text)
            ≡ number_from most (next + 1) (some w) (drop (next + 1) text)
        number_more w e = goes (some v) w (grow-some v _ above ∙ rw (← e) refl)

    -- no digit follows a leading 0
    pub number-zero : (next : ℕ)
        → number_from most next (some 0) (drop next text) ≡ Some (record { value = 0; next = next })
    number-zero next = go (dec_lt next (length text))
      where
        go : Dec (next < length text)
            → number_from most next (some 0) (drop next text) ≡ Some (record { value = 0; next = next })
        go (yes l) = halts next l (some 0) (grow-zero _)
        go (no g) = number-end next 0 (omega arith)
