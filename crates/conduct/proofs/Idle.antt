-- In a good state the idle partitions are those of the platform less A for each job that runs; and each running job is
-- counted once.
use Prim.Native.Nat.{ℕ, suc, ◌-◌, ◌*◌, ◌≤◌}
use mathlib.Core.Path.{◌≡◌, refl, sym, ◌∙◌}
use mathlib.Core.Bool.{Bool, true, false}
use native.Mathlib.Omega.{arith}
use Rattle.maths.specs.Sums.{Σ}
use Rattle.maths.proofs.Sums.{sum-ext, Σ-ext}
use Rattle.table.specs.declared.Task.{Task}
use Rattle.table.specs.Limits.{most_partitions}
use Rattle.table.specs.Tasks.{P, τ, A}
use Rattle.sets.specs.Sets.{size}
use Rattle.sets.proofs.Sizes.{size-zero, size-le, size_wide, size-idle}
use Rattle.sets.proofs.Unions.{union-size}
use Rattle.machine.specs.declared.Job.{Job}
use Rattle.machine.specs.declared.Machine.{Machine}
use Rattle.machine.specs.Jobs.{is_running, job, held, running, busy, idle_partitions}
use Rattle.machine.proofs.StateParts.{GoodJob, GoodState, when_running, when_not_running, busy_lt}
use Rattle.lives.specs.Life.{runs}
use Rattle.conduct.specs.Lives.{life}
use Rattle.conduct.proofs.Lives.{shows}

-- a good job holds A partitions if it runs, and else none
held-size : {p : ℕ} {τ : Task} {j : Job} → GoodJob p τ j → size most_partitions j.held ≡ A τ * runs (life j)
held-size {p} {τ} {j} g = by (is_running j.stage) refl
  where
    by : (b : Bool) → is_running j.stage ≡ b → size most_partitions j.held ≡ A τ * runs (life j)
    by true e = rw ((shows j).runs, e) (omega (arith, (when_running g e).count))
    by false e = rw ((shows j).runs, e, (when_not_running g e).none) (omega (arith, size-zero most_partitions))

-- how many partitions the running jobs hold
abbrev pub held_count : Machine → ℕ
held_count m = Σ m.table.n (λ k. A (τ m.table k) * runs (life (job m k)))

module _ {m : Machine} (g : GoodState m) where
  busy-size : size most_partitions (busy m) ≡ held_count m
  unfolding busy
  busy-size =
      union-size (λ i. held m (suc i)) most_partitions m.table.n g.apart
      ∙ sum-ext _ _ m.table.n (λ i l. held-size (g.each i l))

  pub idle-partitions : (idle_partitions m).0 ≡ P m.table - held_count m
  idle-partitions =
      size-idle most_partitions (P m.table) (busy m) g.table.sizes.partitions (busy_lt g) ∙ rw busy-size

  pub held-most : held_count m ≤ P m.table
  held-most =
      omega (
        arith,
        busy-size,
        size_wide (P m.table) most_partitions (busy m) (busy_lt g) g.table.sizes.partitions,
        size-le (P m.table) (busy m),
      )

pub running-jobs : (m : Machine) → running m ≡ Σ m.table.n (λ k. runs (life (job m k)))
unfolding running
running-jobs m = Σ-ext m.table.n _ _ (λ k l h. sym (shows (job m k)).runs)
