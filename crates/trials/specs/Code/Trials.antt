-- What the code makes on its way to the listing. No statement of a public function rests on this.
use Rattle.std.specs.Prelude.{ℕ, Result, Ok, Err}
use Rattle.table.specs.declared.Refusal.{Refusal}
use Rattle.table.specs.declared.Table.{Table}
use Rattle.table.specs.Reasons.{answered}
use Rattle.rehearsal.specs.declared.Rehearsal.{Rehearsal}
use Rattle.rehearsal.specs.Rehearsal.{rehearsed}

-- of a table that was taken: how many tasks it has, and its rehearsal
abbrev pub tried_of : Result Table Refusal → Result (ℕ × Rehearsal) Refusal
tried_of (Ok t) = answered (rehearsed t).refused (t.n, rehearsed t)
tried_of (Err r) = Err r
