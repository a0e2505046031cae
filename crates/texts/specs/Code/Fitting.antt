-- A text as a program takes it: one that is there and not over 60,000 bytes, or else refusal 15 and 0.
use Rattle.std.specs.Prelude.{ℕ, cond, List, leb, length, Option, None, Some, Result, Ok, Err}
use Rattle.table.specs.declared.Refusal.{Refusal}
use Rattle.readers.specs.Inputs.{bad_text}
use Rattle.texts.specs.Given.{longest}

abbrev pub fitting : Option (List ℕ) → Result (List ℕ) Refusal
fitting None = Err (bad_text 0)
fitting (Some bytes) = cond (leb (length bytes) longest) (Ok bytes) (Err (bad_text 0))
