-- A share and a load by what was measured of the task whose limit it is, as the code works them out of the rows. No
-- statement rests on these.
use Rattle.std.specs.Prelude.{ℕ, ◌*◌}
use Rattle.table.specs.declared.Task.{Task}
use Rattle.table.specs.declared.Table.{Table}
use Rattle.table.specs.Tasks.{τ, A}
use Rattle.lives.specs.Report.{equation3, weight_of, load_of}
use Rattle.admission.specs.declared.Share.{Share}
use Rattle.admission.specs.Test.{row}

abbrev pub share_by : (m b s : ℕ) → Task → Share
share_by m b s τ =
    record {
      interference = equation3 s (row τ);
      weight = weight_of m b (A τ);
      share = weight_of m b (A τ) * equation3 s (row τ);
    }

abbrev pub load_by : (m b s : ℕ) → Table → ℕ
load_by m b s t = load_of t.n m b (λ i. A (τ t i)) (λ i. equation3 s (row (τ t i)))
