-- Two results that a writer's statement allows are equal, and so is what they leave in the buffers: whatever the text.
use Rattle.std.proofs.Common.{◌≡◌, ℕ, Bool, Option, Some, None, List, leb, length, refl, sym, ◌∙◌, subst}
use Rattle.std.specs.Prelude.{IfNone}
use Rattle.maths.proofs.Determined.{determined, determined-both}
use Rattle.writers.specs.declared.Written.{Written}
use Rattle.writers.specs.declared.TextsWritten.{TextsWritten}
use Rattle.writers.specs.Sinks.{Took}
use Rattle.writers.specs.Written.{room_for, Wrote, WroteBoth, Added}

pub wrote_determined : (text buffer : List ℕ) (r s : Written) (a b : List ℕ)
    → Wrote text buffer r a → Wrote text buffer s b → (r ≡ s) × (a ≡ b)
wrote_determined text buffer r s a b p q = determined-both _ _ r s a b (p.answers, p.holds) (q.answers, q.holds)

pub wrote_both_determined : (x y first second : List ℕ) (r s : TextsWritten) (a b c d : List ℕ)
    → WroteBoth x y first second r a c → WroteBoth x y first second s b d → (r ≡ s) × ((a ≡ b) × (c ≡ d))
wrote_both_determined x y first second r s a b c d p q = (
  determined _ r s p.answers q.answers,
  determined-both _ _ a b c d (p.holds₁, p.holds₂) (q.holds₁, q.holds₂),
)

-- Of a text that is put somewhere: whether it has room, and what the place becomes where it has.
module _ {S : Type 0} (room : S → ℕ) (put : S → List ℕ → S) (before : S) (text : List ℕ) (r s : Option Unit) (a b : S)
    (p : Took room put before text r a) (q : Took room put before text s b) where
  pub took_determined : (r ≡ s) × (r ≡ Some tt → a ≡ b)
  took_determined = (
    determined _ r s p.fits q.fits,
    λ e. p.holds e ∙ sym (q.holds (sym (determined _ r s p.fits q.fits) ∙ e)),
  )

  -- of a word, which leaves the place as it was where it has no room
  pub word_determined : IfNone r (a ≡ before) → IfNone s (b ≡ before) → (r ≡ s) × (a ≡ b)
  word_determined k m =
      let same = determined _ r s p.fits q.fits in (
        same,
        after r p (subst (λ o. Took room put before text o b) (sym same) q) k
            (subst (λ o. IfNone o (b ≡ before)) (sym same) m),
      )
    where
      after : (o : Option Unit) → Took room put before text o a → Took room put before text o b
          → IfNone o (a ≡ before) → IfNone o (b ≡ before) → a ≡ b
      after (Some tt) f g k m = f.holds refl ∙ sym (g.holds refl)
      after None f g k m = k ∙ sym m

pub added_determined : (buffer : List ℕ) (at : ℕ) (text : List ℕ) (r s : ℕ) (a b : List ℕ)
    → Added buffer at text r a → Added buffer at text s b → (r ≡ s) × (a ≡ b)
added_determined buffer at text r s a b p q = determined-both _ _ r s a b (p.behind, p.holds) (q.behind, q.holds)

pub room_determined : (text : List ℕ) (room : ℕ) (r s : Option ℕ) → r ≡ room_for text room → s ≡ room_for text room
    → r ≡ s
room_determined text room = determined (room_for text room)

pub fits_determined : (text : List ℕ) (room : ℕ) (r s : Bool) → r ≡ leb (length text) room → s ≡ leb (length text) room
    → r ≡ s
fits_determined text room = determined (leb (length text) room)

pub surely_determined : (bound room : ℕ) (r s : Bool) → r ≡ leb bound room → s ≡ leb bound room → r ≡ s
surely_determined bound room = determined (leb bound room)
