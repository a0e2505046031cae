-- What is measured of task k + 1 of a good table, and what the loops over the rows know of its load up to row i.
use Prim.Native.Nat.{ℕ, suc, ◌+◌, ◌*◌, ◌<◌, ◌≤◌}
use mathlib.Core.Path.{◌≡◌, refl, sym}
use mathlib.Core.List.{List}
use native.Mathlib.Omega.{arith}
use lib.ListN.{take, get_or}
use lib.Seq.{get_or-take}
use Rattle.maths.specs.Sums.{sum}
use Rattle.maths.proofs.Sums.{sum-zero, sum_more, sum_mono, sum_const, sum_grows}
use Rattle.table.specs.declared.Task.{Task}
use Rattle.table.specs.declared.Table.{Table}
use Rattle.table.specs.Limits.{most_tasks}
use Rattle.table.specs.Tasks.{no_task, M, τ, A}
use Rattle.table.specs.Good.{Good}
use Rattle.lives.specs.Report.{equation3, weight_of, limit_of}
use Rattle.admission.specs.declared.Measures.{Measures}
use Rattle.admission.specs.declared.Share.{Share}
use Rattle.admission.specs.Test.{row, S, B, interference, load, limit}
use Rattle.admission.specs.Shares.{share_in}
use Rattle.admission.specs.Code.Shares.{share_by, load_by}
use Rattle.admission.proofs.Bounds.{row-good, term_le, most_term}

-- what row j + 1 adds to the load, and the load of the first i rows
abbrev pub term : Measures → Table → ℕ → ℕ
term x t j = weight_of x.m.0 x.b.0 (A (τ t (suc j))) * equation3 x.s (row (τ t (suc j)))

abbrev pub loaded : Measures → Table → ℕ → ℕ
loaded x t i = sum (term x t) i

module _ (x : Measures) (t : Table) where
  pub loaded-none : 0 ≡ loaded x t 0
  loaded-none = sym (sum-zero (term x t))

  pub loaded-more : {load i : ℕ} {share : Share} {rows : List Task} → load ≡ loaded x t i → rows ≡ take t.n t.rows
      → i < t.n → share ≡ share_by x.m.0 x.b.0 x.s (get_or rows i no_task) → load + share.share ≡ loaded x t (i + 1)
  loaded-more {load} {i} e are l is =
      rw (is, are, get_or-take t.n t.rows i no_task l, e) (sym (sum_more (term x t) i))

  -- a load is far below 2^64
  pub loaded-small : Good t → {load i : ℕ} → load ≡ loaded x t i → i ≤ t.n → load ≤ most_tasks * most_term
  loaded-small g {load} {i} e l =
      let sum : loaded x t i ≤ i * most_term =
      rw (← sum_const most_term i)
      (sum_mono (term x t) (λ j. most_term) i
      (λ j h. term_le (row-good g j (omega arith)) x.few_cores x.few_partitions x.short)) in
      omega (arith, e, sum, g.sizes.few)

  pub loaded-grows : (i n : ℕ) → i ≤ n → loaded x t i ≤ loaded x t n
  loaded-grows i n l = sum_grows (term x t) i n l

pub record Measured (t : Table) (k : ℕ) (x : Measures) : Type 0 where
  pub m : x.m.0 ≡ M t
  pub b : x.b.0 ≡ B t (suc k)
  pub s : x.s ≡ S t (suc k)

module _ {t : Table} {k : ℕ} {x : Measures} (e : Measured t k x) where
  pub loading_more : load_by x.m.0 x.b.0 x.s t ≡ load t (suc k)
  unfolding load interference
  loading_more = rw (e.m, e.b, e.s) refl

  pub limit-is : limit_of x.m.0 x.b.0 x.s ≡ limit t (suc k)
  unfolding limit
  limit-is = rw (e.m, e.b, e.s)

  pub share-is : (i : ℕ) → share_by x.m.0 x.b.0 x.s (τ t (suc i)) ≡ share_in t (suc k) (suc i)
  unfolding interference
  share-is i = rw (e.m, e.b, e.s) refl
