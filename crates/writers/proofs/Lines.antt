-- Laws of a text's rows, for the loops over them.
use Rattle.std.proofs.Common.{◌≡◌, ℕ, zero, suc, ◌+◌, ◌<◌, List, [], ◌∷◌, ◌++◌, map, length, take, ◌⊎◌, inl}
use Rattle.std.proofs.Common.{inr, min, ◌≤◌}
use Rattle.std.proofs.Common.{refl, ap, sym, ◌∙◌, arith, add-one}
use Rattle.std.proofs.lemmas.List.{take_all}
use native.Mathlib.Decide.{dec_le}
use Rattle.forms.specs.Forms.{line, lines}
use lib.IntN.{ℤ}
use Rattle.forms.specs.Bytes.{bytes}
use Rattle.writers.specs.Signed.{margin_of, margin_row}
use Rattle.writers.specs.Outputs.{tick_rows, margin_lines, margins_text}

none : {X : Type 0} (xs : List X) → length xs ≡ 0 → xs ≡ []
none [] e = refl
none (x ∷ xs) e = absurd (no (length xs) e)
  where
    no : (n : ℕ) → suc n ≡ 0 → ⊥
    no n e = omega arith

-- of the first n of a list
module _ {X : Type 0} (f : X → List ℕ) where
  pub taken_more : {xs ys : List X} {x : X} {n : ℕ} (m : ℕ) → xs ≡ x ∷ ys → m + 1 ≡ n
      → lines (map f (take n xs)) ≡ line (f x) ++ lines (map f (take m ys))
  unfolding lines
  taken_more {xs} {ys} {x} {n} m e h = ap (λ l. lines (map f (take n l))) e
      ∙ ap (λ k. lines (map f (take k (x ∷ ys)))) (sym h ∙ add-one m)

  pub taken_end : (xs : List X) (n : ℕ) → (0 < n → length xs ≡ 0) → lines (map f (take n xs)) ≡ []
  unfolding lines
  taken_end xs zero h = refl
  taken_end xs (suc n) h = ap (λ l. lines (map f (take (suc n) l))) (none xs (h (omega arith)))

pub ticks_more : {rs fs rs' fs' : List ℕ} {r f : ℕ} → rs ≡ r ∷ rs' → fs ≡ f ∷ fs'
    → lines (tick_rows rs fs) ≡ line (r ∷ f ∷ []) ++ lines (tick_rows rs' fs')
unfolding lines tick_rows
ticks_more e h = rw (e, h) refl

pub ticks_end : (rs fs : List ℕ) → (length rs ≡ 0) ⊎ (length fs ≡ 0) → lines (tick_rows rs fs) ≡ []
unfolding lines tick_rows
ticks_end rs fs (inl e) = ap (λ l. lines (tick_rows l fs)) (none rs e)
ticks_end rs fs (inr e) = ap (λ l. lines (tick_rows rs l)) (none fs e) ∙ either rs
  where
    either : (rs : List ℕ) → lines (tick_rows rs []) ≡ []
    either [] = refl
    either (r ∷ rs) = refl

pub margins-split : (n : ℕ) (zs : List ℤ)
    → margins_text n zs ≡ bytes "task,margin,pass\r\n" ++ margin_lines 1 (take n zs)
unfolding margins_text
margins-split n zs = refl

-- of the first n, from task k + 1 on
pub margins_more : {zs ys : List ℤ} {z : ℤ} {n i k l : ℕ} (m : ℕ) → zs ≡ z ∷ ys → m + 1 ≡ n → i ≡ k → l ≡ k + 1
    → margin_lines (suc k) (take n zs) ≡ margin_row (i + 1) (margin_of z) ++ margin_lines (suc l) (take m ys)
unfolding margin_lines
margins_more {i = i} m e h at on = rw (e, sym h, on, sym at, add-one m, add-one i) refl

-- no more rows than there are margins
pub margins-held : (margins : List ℤ) (n rows : ℕ) → rows ≡ min n (length margins)
    → margins_text n margins ≡ margins_text rows margins
unfolding margins_text
margins-held margins n rows e = go (dec_le n (length margins))
  where
    go : Dec (n ≤ length margins) → margins_text n margins ≡ margins_text rows margins
    go (yes l) = let f : rows ≡ n = omega arith in rw f refl
    go (no g) = rw (take_all n margins (omega arith), take_all rows margins (omega arith)) refl

pub margins_end : (zs : List ℤ) (n k : ℕ) → (0 < n → length zs ≡ 0) → margin_lines k (take n zs) ≡ []
unfolding margin_lines
margins_end zs zero k h = refl
margins_end zs (suc n) k h = ap (λ l. margin_lines k (take (suc n) l)) (none zs (h (omega arith)))
