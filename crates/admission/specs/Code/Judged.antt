-- What the code finds of a table, and the answers by that. No statement rests on these.
use Rattle.std.specs.Prelude.{◌≡◌, ℕ, true, false, List, ℤ, Option, Some, None}
use Rattle.table.specs.declared.Table.{Table}
use Rattle.table.specs.declared.Refusal.{Refusal}
use Rattle.table.specs.Refused.{no_refusal, refusal}
use Rattle.admission.specs.declared.FullAnswer.{FullAnswer}
use Rattle.admission.specs.declared.QuickAnswer.{QuickAnswer}

-- the refusal of a table that is refused
pub record Refused (t : Table) (r : Refusal) : Type 0 where
  pub is : refusal t ≡ r
  pub some : r.number ≡ 0 → ⊥

-- the quick answer to a table that is not refused, by the first task that does not pass
abbrev pub judged : Option ℕ → QuickAnswer
judged None = record { refused = no_refusal; admitted = true; first = 0 }
judged (Some first) = record { refused = no_refusal; admitted = false; first = first }

abbrev pub with_margins : QuickAnswer → List ℤ → FullAnswer
with_margins a margins = record { refused = a.refused; admitted = a.admitted; first = a.first; margins = margins }
