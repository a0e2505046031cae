-- A platform text behind its header: one row, and the end.
use Prim.Native.Nat.{ℕ, ◌<◌, ◌≤◌}
use mathlib.Core.Path.{◌≡◌, refl, ap, ◌∙◌}
use mathlib.Core.List.{List, [], ◌∷◌, ◌++◌}
use lib.ListN.{length}
use Rattle.std.specs.Prelude.{Ok, Err}
use Rattle.forms.specs.Forms.{platform_form, crlf}
use Rattle.forms.specs.Reads.{refused}
use Rattle.forms.specs.Reader.{word, read}
use Rattle.readers.specs.declared.Offset.{Offset}
use Rattle.readers.specs.declared.Piece.{Piece}
use Rattle.readers.specs.Inputs.{platform_of, platform_read}
use Rattle.readers.specs.Places.{word_at, row_at}
use Rattle.readers.proofs.Along
use Rattle.readers.proofs.Texts.{head-good, ends, closed, must_begin, row-good, row-bad}

module _ (text : List ℕ) (k : ℕ) (e : Ok k ≡ word_at text 0 (platform_form.header ++ crlf)) where
  pub cut-row : (offset : Offset) → Err offset ≡ row_at text k platform_form
      → read platform_form text ≡ refused offset.0
  cut-row offset f = head-good platform_form text k e ∙ must_begin platform_form text [] k refl refl
      ∙ row-bad platform_form text [] k offset f

  module _ (x : Piece (List ℕ)) (f : Ok x ≡ row_at text k platform_form) where
    behind : read platform_form text ≡ Along.from platform_form text x.next (word (x.value ∷ []) [])
    behind = head-good platform_form text k e ∙ must_begin platform_form text [] k refl refl
        ∙ (row-good platform_form text [] k x f).on

    pub second-row : x.next < length text → read platform_form text ≡ refused x.next
    second-row l = behind ∙ closed platform_form text (x.value ∷ []) x.next refl l

    pub one-row : length text ≤ x.next → platform_read (read platform_form text) ≡ Ok (platform_of x.value)
    one-row l = ap platform_read (behind ∙ ends platform_form text (x.value ∷ []) x.next refl l)
