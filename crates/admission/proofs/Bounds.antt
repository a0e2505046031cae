-- How large the parts of the test can be for a good table: everything fits 64 bits with room to spare.
use Prim.Native.Nat.{ℕ, zero, suc, ◌+◌, ◌*◌, ◌/◌, ◌^◌, ◌<◌, ◌≤◌, max}
use mathlib.Core.Path.{◌≡◌, refl}
use native.Mathlib.Nat.{mul-le-mul, div-le_self, max-le, le_trans, lt_of_le_of_lt}
use native.Mathlib.Omega.{arith}
use lib.Dec.{lit<}
use Rattle.table.specs.declared.Task.{Task}
use Rattle.table.specs.declared.Table.{Table}
use Rattle.table.specs.Limits.{most_cores, most_partitions, longest_period}
use Rattle.table.specs.Tasks.{P, τ, T, A}
use Rattle.table.specs.Good.{Good, GoodRow}
use Rattle.lives.specs.Report.{equation3, weight_of, limit_of}
use Rattle.admission.specs.Test.{row, S, Amax, B, limit}

-- the largest that a task can add to a load: 1024 × 65537 × 65535
abbrev pub most_term : ℕ
most_term = 4398046510080

pub Amax-zero : (t : Table) → Amax t 0 ≡ 0
unfolding Amax
Amax-zero t = refl

-- what one task can come to, in a window of s ticks and for a task whose B is b
module _ {τ : Task} (g : GoodRow most_partitions τ) where
  pub jobs-le : {s : ℕ} → s ≤ longest_period → s / T τ + 2 ≤ 65537
  jobs-le {s} l = omega (arith, div-le_self s (T τ))

  pub interference-le : {s : ℕ} → s ≤ longest_period → equation3 s (row τ) ≤ 4294967295
  interference-le l = mul-le-mul {n₂ = 65537} {m₂ = 65535} (jobs-le l) (omega arith)

  pub share-le : {m : ℕ} → m ≤ most_cores → m * A τ ≤ 1024
  share-le l = mul-le-mul {n₂ = 16} {m₂ = 64} l g.room

  pub weight-le : {m b : ℕ} → m ≤ most_cores → b ≤ most_partitions + 1 → weight_of m b (A τ) ≤ 1024
  weight-le l h = max-le (omega arith) (share-le l)

  pub term_le : {m b s : ℕ} → m ≤ most_cores → b ≤ most_partitions + 1 → s ≤ longest_period
      → weight_of m b (A τ) * equation3 s (row τ) ≤ most_term
  term_le l h w = mul-le-mul {n₂ = 1024} {m₂ = 4294967295} (weight-le l h) (interference-le w)

pub limit-le : {m b s : ℕ} → m ≤ most_cores → b ≤ most_partitions + 1 → s ≤ longest_period → limit_of m b s ≤ 68156400
limit-le l h w = mul-le-mul {n₂ = 1040} {m₂ = 65535} (mul-le-mul {n₂ = 16} {m₂ = 65} l h) w

module _ {t : Table} (g : Good t) where
  pub Amax-le : (k : ℕ) → k ≤ t.n → Amax t k ≤ P t
  unfolding Amax
  Amax-le zero l = omega arith
  Amax-le (suc k) l = max-le (Amax-le k (omega arith)) (g.row k l).room

  pub Amax-suc : (k : ℕ) → Amax t (suc k) ≡ max (Amax t k) (A (τ t (suc k)))
  unfolding Amax
  Amax-suc k = refl

  pub row-good : (i : ℕ) → i < t.n → GoodRow most_partitions (τ t (suc i))
  row-good i l =
      let r = g.row i l in
      record {
        period = r.period;
        short = r.short;
        runs = r.runs;
        slack = r.slack;
        deadline = r.deadline;
        room = le_trans r.room g.sizes.partitions;
      }

  module _ (k : ℕ) (lk : k < t.n) where
    pub S-le : S t (suc k) ≤ longest_period
    S-le = let r = g.row k lk in omega arith

    pub B-le : B t (suc k) ≤ most_partitions + 1
    B-le = omega (arith, g.sizes.partitions)

    pub limit-small : limit t (suc k) < 2 ^ 62
    unfolding limit
    limit-small = lt_of_le_of_lt (limit-le g.sizes.cores B-le S-le) (lit< tt)
