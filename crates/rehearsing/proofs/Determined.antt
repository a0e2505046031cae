-- A table has one rehearsal, or one refusal.
use mathlib.Core.Path.{◌≡◌}
use Rattle.std.specs.Prelude.{Result}
use Rattle.maths.proofs.Determined.{determined}
use Rattle.table.specs.declared.Refusal.{Refusal}
use Rattle.table.specs.declared.Table.{Table}
use Rattle.table.specs.Reasons.{answered}
use Rattle.rehearsal.specs.declared.Rehearsal.{Rehearsal}
use Rattle.rehearsal.specs.Rehearsal.{bench_refusal, rehearsed}

pub tried-determined : (t : Table) (r s : Result Rehearsal Refusal) → r ≡ answered (bench_refusal t) (rehearsed t)
    → s ≡ answered (bench_refusal t) (rehearsed t) → r ≡ s
tried-determined t = determined (answered (bench_refusal t) (rehearsed t))

pub rehearse_determined : (t : Table) (r s : Rehearsal) → r ≡ rehearsed t → s ≡ rehearsed t → r ≡ s
rehearse_determined t = determined (rehearsed t)
