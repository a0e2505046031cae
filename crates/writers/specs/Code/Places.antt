-- The two places where a text goes: one that only measures it, and one in a buffer. What each is once a text is put
-- there, and that each is a place for texts.
use Rattle.std.proofs.Common.{ℕ, suc, ◌+◌, ◌-◌, ◌≡◌, List, [], ◌∷◌, ◌++◌, length, refl, ap, ◌∙◌, arith, length-append}
use Rattle.std.proofs.lemmas.List.Edits.{sets}
use lib.ListN.{set}
use lib.Seq.{length-sets}
use Rattle.writers.specs.declared.Measure.{Measure}
use Rattle.writers.specs.declared.Cursor.{Cursor}
use Rattle.writers.specs.Sinks.{SinkLaws}

abbrev pub room_left : Measure → ℕ
room_left m = m.left

abbrev pub measured : Measure → List ℕ → Measure
measured m text = record { left = m.left - length text }

abbrev pub room_ahead : Cursor → ℕ
room_ahead c = length c.buf.now - c.at

abbrev pub written_at : Cursor → List ℕ → Cursor
written_at c text = record {
  buf = record c.buf { now = sets c.buf.now c.at text };
  at = c.at + length text;
}

pub measure_laws : SinkLaws room_left measured
measure_laws = record {
  none = λ m. let e : m.left - 0 ≡ m.left = omega arith in ap (λ n. record { left = n }) e;
  behind = λ m a b.
      let e : m.left - length a - length b ≡ m.left - length (a ++ b) = omega (arith, length-append a b) in
      ap (λ n. record { left = n }) e;
  less = λ m a h. omega arith;
}

-- one text behind another
sets_append : (buffer : List ℕ) (at : ℕ) (a b : List ℕ)
    → sets (sets buffer at a) (at + length a) b ≡ sets buffer at (a ++ b)
sets_append buffer at [] b = let e : at + 0 ≡ at = omega arith in rw e refl
sets_append buffer at (x ∷ a) b = let e : at + suc (length a) ≡ suc at + length a = omega arith in
    rw e (sets_append (set buffer at x) (suc at) a b)

pub cursor_laws : SinkLaws room_ahead written_at
cursor_laws = record {
  none = λ c. let e : c.at + 0 ≡ c.at = omega arith in ap (λ n. record c { at = n }) e;
  behind = λ c a b.
      let e : c.at + length a + length b ≡ c.at + length (a ++ b) = omega (arith, length-append a b) in
      ap (λ l. record { buf = record c.buf { now = l }; at = c.at + length a + length b })
      (sets_append c.buf.now c.at a b)
      ∙ ap (λ n. record { buf = record c.buf { now = sets c.buf.now c.at (a ++ b) }; at = n }) e;
  less = λ c a h. let e = length-sets c.buf.now c.at a in omega arith;
}
