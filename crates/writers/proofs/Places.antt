-- A word copied to a place in a buffer, and what a text leaves that is put there from the front.
use Rattle.std.proofs.Common.{◌≡◌, ℕ, ◌+◌, ◌-◌, ◌<◌, ◌≤◌, List, [], ◌∷◌, ◌++◌, length, take, drop, refl, sym, ap, ◌∙◌}
use Rattle.std.proofs.Common.{arith, min}
use Rattle.std.proofs.Common.{zero-add, le-leb}
use Rattle.std.proofs.lemmas.Bool.{lt-leb}
use Rattle.std.proofs.lemmas.List.{take_all}
use Rattle.std.proofs.lemmas.List.Edits.{sets, sets-eq, paste_none}
use Rattle.std.proofs.lemmas.Slice.{put_mid-paste}
use borrow.Rule.Slice.PartMut.{put_mid}
use Rattle.table.specs.Refused.{no_refusal}
use Rattle.writers.specs.declared.Written.{Written}
use Rattle.writers.specs.Written.{too_short, written, leaves, Wrote}

pub cursor_room : (bytes : List ℕ) (at : ℕ) (word : List ℕ) (m : ℕ) → m ≡ min at (length bytes)
    → length word ≤ length bytes - m → length word ≤ length bytes - at
cursor_room bytes at word m e h = omega arith

pub put_at : (bytes : List ℕ) (at : ℕ) (word new : List ℕ) (m : ℕ) → m ≡ min at (length bytes)
    → length word ≤ length bytes - m → new ≡ word
    → put_mid m (m + length word - m) bytes new ≡ sets bytes at word
put_at bytes at [] new m e h is = put_mid-paste m _ bytes new [] 0 is (omega arith) refl ∙ sym (paste_none bytes m [])
put_at bytes at (x ∷ word) new m e h is =
    let here : m ≡ at = omega arith in
    put_mid-paste m _ bytes new (x ∷ word) (length (x ∷ word)) is (omega arith) refl
    ∙ ap (λ l. take m bytes ++ l ++ drop (m + length (x ∷ word)) bytes)
    (take_all (length (x ∷ word)) (x ∷ word) (omega arith))
    ∙ ap (λ i. take i bytes ++ (x ∷ word) ++ drop (i + length (x ∷ word)) bytes) here
    ∙ sym (sets-eq (x ∷ word) bytes at (omega arith))

pub wrote_short : (text buffer : List ℕ) (w : Written) → w ≡ record { refused = too_short; length = 0 }
    → length buffer < length text → Wrote text buffer w buffer
unfolding written leaves
wrote_short text buffer w e h = record {
  answers = e ∙ rw (lt-leb (length text) (length buffer) h) refl;
  holds = rw (lt-leb (length text) (length buffer) h) refl;
}

pub wrote_put : (text buffer after : List ℕ) (w : Written)
    → length text ≤ length buffer → w ≡ record { refused = no_refusal; length = 0 + length text }
    → after ≡ sets buffer 0 text → Wrote text buffer w after
unfolding written leaves
wrote_put text buffer after w h e p = record {
  answers = e ∙ rw (zero-add (length text), le-leb (length text) (length buffer) h) refl;
  holds =
      p ∙ sets-eq text buffer 0 (omega arith)
      ∙ rw (zero-add (length text), le-leb (length text) (length buffer) h) refl;
}
