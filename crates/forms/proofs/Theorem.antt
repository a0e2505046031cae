-- For every form and every list of bytes: the reader reads rightly, and nothing else is to read rightly.
use Prim.Native.Nat.{ℕ, ◌<◌}
use mathlib.Core.Path.{◌≡◌, refl, sym, ap, ◌∙◌}
use mathlib.Core.List.{List, []}
use native.Mathlib.Omega.{arith}
use native.Mathlib.Decide.{dec_lt}
use Rattle.forms.specs.Forms.{Form, GoodRows, text, GoodText}
use Rattle.forms.specs.Reads.{Answer, found, refused, Longest, Reads}
use Rattle.forms.specs.Reader.{step, rows_at, start, read}
use Rattle.forms.specs.Rightly.{ReadsRightly}
use Rattle.forms.proofs.Runs.{told}
use Rattle.forms.proofs.Complete.{complete, live}
use Rattle.forms.proofs.Sound.{sound, at-start}

same-longest : {Is Was : List ℕ → Type 0} {bytes : List ℕ} {k : ℕ} → ((b : List ℕ) → Is b → Was b)
    → ((b : List ℕ) → Was b → Is b) → Longest Is bytes k → Longest Was bytes k
same-longest to from h =
    record {
      inside = h.inside;
      begins = (h.begins.0, to _ h.begins.1);
      longest = λ j less fits w. h.longest j less fits (w.0, from _ w.1);
    }

one-longest : {Is : List ℕ → Type 0} {bytes : List ℕ} {j k : ℕ} → Longest Is bytes j → Longest Is bytes k → j ≡ k
one-longest {j} {k} g h = go (dec_lt j k) (dec_lt k j)
  where
    go : Dec (j < k) → Dec (k < j) → j ≡ k
    go (yes l) d = absurd (g.longest k l h.inside h.begins)
    go (no n) (yes l) = absurd (h.longest j l g.inside g.begins)
    go (no n) (no m) = omega arith

module _ (F : Form) where
  -- writing what was read gives the same bytes
  pub written : (bytes : List ℕ) (rows : List (List ℕ)) → read F bytes ≡ found rows
      → GoodRows F rows × (text F rows ≡ bytes)
  unfolding read
  written bytes rows e = rw e at (sound F (start F) [] bytes (at-start F))

  -- two good inputs with the same text are equal
  pub unique : (rows others : List (List ℕ)) → GoodRows F rows → GoodRows F others
      → text F rows ≡ text F others → rows ≡ others
  unique rows others g h e =
      let x : found rows ≡ found others = sym (complete F rows g) ∙ ap (read F) e ∙ complete F others h in
      cc

  good-found : (bytes : List ℕ) → (t : GoodText F bytes) → read F bytes ≡ found t.0
  good-found bytes t = ap (read F) (sym t.2) ∙ complete F t.0 t.1

  not-both : (k : ℕ) (rows : List (List ℕ)) → refused k ≡ found rows → ⊥
  not-both k rows e = let z : ◌≡◌ {A = ℕ} 0 1 = cc in omega arith

  stopped : (bytes : List ℕ) (k : ℕ) → read F bytes ≡ refused k → Longest (GoodText F) bytes k
  unfolding read
  stopped bytes k e =
      same-longest (λ b t. let w = written b t.0 t.1 in (t.0, w.0, w.1)) (λ b t. (t.0, good-found b t))
      (rw e at (told (step F) (rows_at F) (live F) (start F) bytes))

  pub reads : (bytes : List ℕ) → Reads F bytes (read F bytes)
  reads bytes = go (read F bytes) refl
    where
      go : (x : Answer (List (List ℕ))) → read F bytes ≡ x → Reads F bytes (read F bytes)
      go (found rows) e = rw e (written bytes rows e)
      go (refused k) e =
          rw e (record { bad = λ t. not-both k t.0 (sym e ∙ good-found bytes t); offset = stopped bytes k e })

  pub only : (bytes : List ℕ) (x y : Answer (List (List ℕ))) → Reads F bytes x → Reads F bytes y → x ≡ y
  only bytes (found rows) (found others) g h = ap found (unique rows others g.0 h.0 (g.1 ∙ sym h.1))
  only bytes (found rows) (refused k) g h = absurd (h.bad (rows, g.0, g.1))
  only bytes (refused k) (found rows) g h = absurd (g.bad (rows, h.0, h.1))
  only bytes (refused j) (refused k) g h = ap refused (one-longest g.offset h.offset)

pub reads_rightly : ReadsRightly
reads_rightly =
    record { reads = reads; only = λ F bytes x h. only F bytes x (read F bytes) h (reads F bytes); back = complete }
