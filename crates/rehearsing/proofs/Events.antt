-- A rehearsal before the event of tick i: the lanes and counts are those of a machine on the bench, and what is left of
-- the rehearsal is that of this machine from tick i on.
use Prim.Native.Nat.{ℕ, suc, ◌<◌, ◌≤◌}
use mathlib.Core.Path.{◌≡◌, subst, ◌∙◌, ap}
use native.Mathlib.Omega.{arith}
use Rattle.table.specs.declared.Table.{Table}
use Rattle.table.specs.Good.{GoodRow}
use Rattle.table.specs.Limits.{most_tasks}
use Rattle.table.specs.Tasks.{P, τ}
use Rattle.machine.proofs.StateFresh.{fresh-n, fresh-task}
use Rattle.rehearsal.specs.Multiple.{Common, multiple}
use Rattle.rehearsal.proofs.Theorems.{common-fresh}
use Rattle.rehearsal.proofs.Times.{never}
use Rattle.rehearsing.specs.declared.track.Track.{Track}
use Rattle.rehearsing.specs.Code.Lanes.{Small}
use Rattle.rehearsing.specs.Code.Events.{Rehearsing}
use Rattle.rehearsing.specs.Code.Events.{Rehearsing}

module _ {t : Table} {i : ℕ} {x : Track} (h : Rehearsing t i x) where
  pub soon : i < never
  soon = omega (arith, h.within, h.small)

  pub common : Common h.machine.table (multiple t)
  common = rw h.table (common-fresh t h.unrefused)

  pub same-n : h.machine.table.n ≡ t.n
  same-n = ap (λ (x : Table). x.n) h.table ∙ fresh-n t

  pub few : t.n ≤ most_tasks
  few = omega (arith, same-n, h.benched.good.table.sizes.few)

  -- row k + 1 of a rehearsed table
  module _ (k : ℕ) (l : k < t.n) where
    pub in_n : k < h.machine.table.n
    in_n = omega (arith, same-n)

    pub same_row : τ h.machine.table (suc k) ≡ τ t (suc k)
    same_row = ap (λ (x : Table). τ x (suc k)) h.table ∙ fresh-task t k (omega (arith, few)) l

    pub row_is : GoodRow (P h.machine.table) (τ t (suc k))
    row_is = subst (GoodRow (P h.machine.table)) same_row (h.benched.good.table.row k in_n)

    -- what the code asks of it
    pub small-row : Small i (τ t (suc k))
    small-row =
        record {
          tick = omega (arith, h.within, h.small);
          period = row_is.short;
          deadline = omega (arith, row_is.deadline, row_is.short);
          run = omega (arith, row_is.slack, row_is.deadline, row_is.short);
          need = omega (arith, row_is.room, h.benched.good.table.sizes.partitions);
        }
