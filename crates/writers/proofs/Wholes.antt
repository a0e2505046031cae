-- Whole texts: of one row, and as they are written.
use Prim.Native.Nat.{ℕ, ◌≤◌}
use mathlib.Core.Path.{◌≡◌, refl, sym, ap, ◌∙◌}
use mathlib.Core.Bool.{true}
use mathlib.Core.List.{List, [], ◌∷◌, ◌++◌, append_assoc, append-nil}
use native.Mathlib.Omega.{arith}
use native.Mathlib.Decide.{dec_le}
use borrow.Author.Tests.{le-leb, lt-leb}
use Rattle.std.proofs.lemmas.Bool.{leb-true}
use lib.Dec.{leb}
use lib.ListN.{length, drop, length-append}
use Prim.Native.String.{String}
use Rattle.forms.specs.Bytes.{bytes}
use Rattle.forms.specs.Forms.{Form, crlf, line, lines, text}
use Rattle.table.specs.Refused.{no_refusal}
use Rattle.writers.specs.declared.Written.{Written}
use Rattle.writers.specs.Outputs.{listing}
use Rattle.writers.specs.Written.{written, leaves, Wrote, WroteBoth}

pub text-split : (F : Form) (rows : List (List ℕ)) → text F rows ≡ F.header ++ crlf ++ lines rows
unfolding text
text-split F rows = sym (append_assoc F.header crlf (lines rows))

-- a text of one row, and a listing of one
pub one-text : (F : Form) (row : List ℕ) → text F (row ∷ []) ≡ F.header ++ crlf ++ line row
unfolding text lines
one-text F row = rw append-nil (sym (append_assoc F.header crlf (line row)))

pub one-listing : (header : String) (row : List ℕ) → listing header (row ∷ []) ≡ bytes header ++ crlf ++ line row
unfolding listing lines
one-listing header row = rw append-nil (sym (append_assoc (bytes header) crlf (line row)))

-- the answer and the buffer where the text fits
module _ (text buffer after : List ℕ) (w : Written) (h : Wrote text buffer w after)
    (fits : length text ≤ length buffer) where
  pub wrote_length : w.length ≡ length text
  unfolding written
  wrote_length = ap (λ (x : Written). x.length) h.answers ∙ rw (le-leb (length text) (length buffer) fits)

  pub wrote_all : w.refused ≡ no_refusal
  unfolding written
  wrote_all = ap (λ (x : Written). x.refused) h.answers ∙ rw (le-leb (length text) (length buffer) fits)

  pub wrote_holds : after ≡ text ++ drop (length text) buffer
  unfolding leaves
  wrote_holds = h.holds ∙ rw (le-leb (length text) (length buffer) fits)

-- two texts that fit
pub both_wrote : (a b first second after₁ after₂ : List ℕ) (w₁ w₂ : Written)
    → leb (length a) (length first) ≡ true → leb (length b) (length second) ≡ true
    → Wrote a first w₁ after₁ → Wrote b second w₂ after₂
    → WroteBoth a b first second
    (record { refused = w₁.refused; platform = w₁.length; tasks = w₂.length }) after₁ after₂
both_wrote a b first second after₁ after₂ w₁ w₂ l m g h =
    let fits₁ = leb-true (length a) (length first) l in
    let fits₂ = leb-true (length b) (length second) m in
    record {
      answers =
          rw (
            l,
            m,
            wrote_length a first after₁ w₁ g fits₁,
            wrote_length b second after₂ w₂ h fits₂,
            wrote_all a first after₁ w₁ g fits₁,
          ) refl;
      holds₁ = rw (l, m) (wrote_holds a first after₁ w₁ g fits₁);
      holds₂ = rw (l, m) (wrote_holds b second after₂ w₂ h fits₂);
    }

-- what is answered lies within the buffer
pub wrote_inside : (text buffer after : List ℕ) (w : Written) → Wrote text buffer w after → w.length ≤ length after
unfolding written leaves
wrote_inside text buffer after w h = go (dec_le (length text) (length buffer))
  where
    go : Dec (length text ≤ length buffer) → w.length ≤ length after
    go (yes l) =
        let size = wrote_length text buffer after w h l in
        let all = ap length (wrote_holds text buffer after w h l) in
        omega (arith, length-append text (drop (length text) buffer))
    go (no g) =
        let none : w.length ≡ 0 =
        ap (λ (x : Written). x.length) h.answers ∙ rw (lt-leb (length text) (length buffer) (omega arith)) in
        omega arith
