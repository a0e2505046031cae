-- All that the theorem needs of a table, whichever test it passed: another test builds a `Safe` and changes nothing
-- else here. And the table that a fresh machine keeps, which is zero past n, says the same of tasks 1 to n.
use Prim.Native.Nat.{ℕ, zero, suc, ◌*◌, ◌≤◌}
use mathlib.Core.Path.{◌≡◌, refl, ap}
use native.Mathlib.Omega.{arith}
use lib.ListN.{length}
use Rattle.maths.specs.Tasks.{Each}
use Rattle.maths.proofs.Sums.{Σ-ext}
use Rattle.maths.proofs.Tasks.{each}
use Rattle.table.specs.declared.Table.{Table}
use Rattle.table.specs.Limits.{most_tasks}
use Rattle.table.specs.Good.{Good}
use Rattle.table.specs.Refused.{refusal}
use Rattle.table.specs.Tasks.{τ, A}
use Rattle.table.proofs.Good.{good_of}
use Rattle.admission.specs.Test.{row, rows, Amax}
use Rattle.machine.specs.Jobs.{top}
use Rattle.machine.specs.Fresh.{trimmed, fresh}
use Rattle.machine.proofs.StateFresh.{fresh-task}
use Rattle.lives.specs.Report.{Row}
use Rattle.lives.specs.Life.{Sound}
use Rattle.lives.specs.Test.{busy_cores, busy_cache, Weighed}
use Rattle.conduct.specs.Conduct.{FullWith}

-- where the age of task k is held
abbrev pub tops : Table → ℕ → ℕ
tops t k = top (τ t k)

pub record Safe (t : Table) : Type 0 where
  pub whole : length t.rows ≡ most_tasks
  pub unrefused : (refusal t).number ≡ 0
  -- the weights argument, for each task
  pub weighed : Weighed t.n (rows t) (FullWith t)

module _ (t : Table) (safe : Safe t) where
  pub good-table : Good t
  good-table = good_of t safe.whole safe.unrefused

  pub sound : Each t.n (λ k. Sound (rows t k))
  sound =
      each t.n _
      (λ i l. let r = good-table.row i l in record { some = r.runs; fits = r.slack; constrained = r.deadline })

  -- the four numbers of a task
  pub same_row : Each t.n (λ k. rows (trimmed t) k ≡ rows t k)
  unfolding fresh
  same_row = each t.n _ (λ i l. ap row (fresh-task t i (omega (arith, good-table.sizes.few)) l))

  pub same-top : Each t.n (λ k. tops (trimmed t) k ≡ tops t k)
  same-top k p q = ap (λ (r : Row). r.T) (same_row k p q)

  same_A : Each t.n (λ k. A (τ (trimmed t) k) ≡ A (τ t k))
  same_A k p q = ap (λ (r : Row). r.A) (same_row k p q)

  same-Amax : (k : ℕ) → k ≤ t.n → Amax (trimmed t) k ≡ Amax t k
  unfolding Amax
  same-Amax zero l = refl
  same-Amax (suc k) l = rw (same-Amax k (omega arith), same_A (suc k) (omega arith) l)

  pub same_full : Each t.n (λ k. (r : ℕ → ℕ) → FullWith (trimmed t) k r → FullWith t k r)
  same_full k p q r (busy_cores h) = busy_cores h
  same_full k p q r (busy_cache h) =
      busy_cache
      (omega (
        arith,
        same-Amax k q,
        Σ-ext t.n (λ i. A (τ (trimmed t) i) * r i) (λ i. A (τ t i) * r i)
            (λ i u v. ap (λ (a : ℕ). a * r i) (same_A i u v)),
      ))
