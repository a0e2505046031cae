-- The number of the quick verdict, from the first task that does not pass, if there is one, or the refusal.
use Rattle.std.specs.Prelude.{ℕ, ◌+◌, Option, None, Some, Result, Ok, Err}
use Rattle.table.specs.declared.Refusal.{Refusal}

abbrev pub verdict_number : Result (Option ℕ) Refusal → ℕ
verdict_number (Ok None) = 0
verdict_number (Ok (Some k)) = 100 + k
verdict_number (Err r) = r.number
