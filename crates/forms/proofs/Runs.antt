-- Of any reader that always has a way on: where it stops, what it has taken is the longest beginning of the text that
-- some text which it reads to the end also begins with.
use Prim.Native.Nat.{ℕ, zero, suc, ◌+◌, ◌<◌, ◌≤◌}
use mathlib.Core.Path.{◌≡◌, refl, sym, ap, ◌∙◌}
use mathlib.Core.List.{List, [], ◌∷◌}
use mathlib.Core.Option.{Option, none, some}
use native.Mathlib.Omega.{arith}
use lib.ListN.{length, take}
use Rattle.forms.specs.Reads.{Answer, found, refused, Begins, Longest}
use Rattle.forms.specs.Reader.{run, later, ended}

module _ {S A : Type 0} (step : S → ℕ → Option S) (answer : S → Option A) where
  -- read to the end from here
  abbrev pub Takes : S → List ℕ → Type 0
  Takes s bytes = (a : A) × (run step answer s bytes ≡ found a)

  pub stuck : (s : S) (c : ℕ) (rest : List ℕ) → step s c ≡ none → run step answer s (c ∷ rest) ≡ refused 0
  unfolding run
  stuck s c rest e = rw (e, run)

  pub moves : (s t : S) (c : ℕ) (rest : List ℕ) → step s c ≡ some t
      → run step answer s (c ∷ rest) ≡ later 1 (run step answer t rest)
  unfolding run
  moves s t c rest e = rw (e, run)

  later-found : (n : ℕ) (x : Answer A) (a : A) → later n x ≡ found a → x ≡ found a
  later-found n (found b) a e = e
  later-found n (refused k) a e = absurd (no e)
    where
      no : refused (n + k) ≡ found a → ⊥
      no e = let z : ◌≡◌ {A = ℕ} 0 1 = cc in omega arith

  pub found-on : (s t : S) (c : ℕ) (rest : List ℕ) (a : A) → step s c ≡ some t → run step answer t rest ≡ found a
      → run step answer s (c ∷ rest) ≡ found a
  found-on s t c rest a e h = moves s t c rest e ∙ ap (later 1) h

  takes_on : (s t : S) (c : ℕ) (rest : List ℕ) → step s c ≡ some t → Takes t rest → Takes s (c ∷ rest)
  takes_on s t c rest e (a, h) = (a, found-on s t c rest a e h)

  takes_back : (s t : S) (c : ℕ) (rest : List ℕ) → step s c ≡ some t → Takes s (c ∷ rest) → Takes t rest
  takes_back s t c rest e (a, h) = (a, later-found 1 _ a (sym (moves s t c rest e) ∙ h))

  takes_not : (s : S) (c : ℕ) (rest : List ℕ) → step s c ≡ none → Takes s (c ∷ rest) → ⊥
  takes_not s c rest e (a, h) = no (sym (stuck s c rest e) ∙ h)
    where
      no : refused 0 ≡ found a → ⊥
      no e = let z : ◌≡◌ {A = ℕ} 0 1 = cc in omega arith

  abbrev pub Told : S → List ℕ → Answer A → Type 0
  Told s bytes (found a) = Unit {0}
  Told s bytes (refused k) = Longest (Takes s) bytes k

  module _ (live : (s : S) → Begins (Takes s) []) where
    at-end : (s : S) (o : Option A) → Told s [] (ended o)
    at-end s (some a) = tt
    at-end s none = record { inside = omega arith; begins = live s; longest = λ j h g. absurd (no j h g) }
      where
        no : (j : ℕ) → 0 < j → j ≤ 0 → ⊥
        no j h g = omega arith

    at-stuck : (s : S) (c : ℕ) (rest : List ℕ) → step s c ≡ none → Longest (Takes s) (c ∷ rest) 0
    at-stuck s c rest e = record { inside = omega arith; begins = live s; longest = longer }
      where
        longer : (j : ℕ) → 0 < j → j ≤ suc (length rest) → Begins (Takes s) (take j (c ∷ rest)) → ⊥
        longer zero h g w = omega arith
        longer (suc j) h g w = takes_not s c _ e w.1

    further : (s t : S) (c : ℕ) (rest : List ℕ) → step s c ≡ some t → (x : Answer A) → Told t rest x
        → Told s (c ∷ rest) (later 1 x)
    further s t c rest e (found a) h = tt
    further s t c rest e (refused k) h =
        let one : 1 + k ≡ suc k = omega arith in
        rw one
        (record { inside = omega arith; begins = (h.begins.0, takes_on s t c _ e h.begins.1); longest = longer })
      where
        longer : (j : ℕ) → suc k < j → j ≤ suc (length rest) → Begins (Takes s) (take j (c ∷ rest)) → ⊥
        longer zero f g w = omega arith
        longer (suc j) f g w = h.longest j (omega arith) (omega arith) (w.0, takes_back s t c _ e w.1)

    pub told : (s : S) (bytes : List ℕ) → Told s bytes (run step answer s bytes)
    unfolding run
    told s [] = at-end s (answer s)
    told s (c ∷ rest) = go (step s c) refl (λ t. told t rest)
      where
        go : (o : Option S) → step s c ≡ o → ((t : S) → Told t rest (run step answer t rest))
            → Told s (c ∷ rest) (run step answer s (c ∷ rest))
        go none e h = rw (stuck s c rest e) (at-stuck s c rest e)
        go (some t) e h = rw (moves s t c rest e) (further s t c rest e (run step answer t rest) (h t))
