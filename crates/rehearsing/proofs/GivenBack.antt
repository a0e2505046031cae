-- The cores and partitions that finished jobs give back at tick i: those idle before step 5 are those idle before the
-- tick and these.
use Prim.Native.Nat.{ℕ, suc, ◌+◌, ◌-◌, ◌*◌, ◌<◌}
use mathlib.Core.Path.{◌≡◌, refl, sym, ◌∙◌, ap}
use mathlib.Core.Bool.{Bool, true, false, cond, true≢false}
use mathlib.Core.List.{List}
use native.Mathlib.Nat.{mul-add}
use native.Mathlib.Omega.{arith}
use lib.Dec.{eqb}
use Rattle.maths.specs.Sums.{Σ}
use Rattle.maths.specs.Tasks.{Each}
use Rattle.maths.proofs.Sums.{Σ-ext, Σ_add}
use Rattle.maths.proofs.Tasks.{each}
use Rattle.table.specs.declared.Table.{Table}
use Rattle.table.specs.Tasks.{P, τ, T, A}
use Rattle.admission.specs.Test.{row}
use Rattle.sets.specs.TaskSets.{has_task}
use Rattle.machine.specs.declared.Machine.{Machine}
use Rattle.machine.specs.Jobs.{job, idle_cores, idle_partitions}
use Rattle.lives.specs.Report.{Row}
use Rattle.lives.specs.Life.{Life, idle, waiting, running as is_running, idles, runs, rise, finish, release}
use Rattle.conduct.specs.Lives.{life}
use Rattle.conduct.proofs.Idle.{held_count, idle-partitions, held-most, running-jobs}
use Rattle.rehearsal.specs.Rehearsal.{full, late_now}
use Rattle.rehearsal.proofs.Benched.{Benched}
use Rattle.rehearsal.proofs.OnBench.{rested}
use Rattle.rehearsal.proofs.Times.{never}
use Rattle.rehearsal.proofs.TimesLaws.{is_over}
use Rattle.rehearsal.proofs.Members.{in_due, sound-row, not_late_lem}
use Rattle.rehearsal.proofs.Readings.{full-has}
use Rattle.rehearsing.proofs.Readied.{before5, table5, life5, good5}
use Rattle.rehearsing.proofs.Judged.{over-is}
use Rattle.rehearsing.specs.Code.Events.{cores_back, lanes_of, partitions_back}

-- a job that finishes runs no longer, and one that is released did not run
runs-less : (row : Row) (top : ℕ) (f d : Bool) (x : Life) → f ≡ is_over row x
    → (d ≡ true → idles (finish f (rise top x)) ≡ 1)
    → runs x ≡ runs (release d (finish f (rise top x))) + cond f 1 0
runs-less row top true d (idle a) e h = absurd (true≢false e)
runs-less row top false true (idle a) e h = refl
runs-less row top false false (idle a) e h = refl
runs-less row top true d (waiting a) e h = absurd (true≢false e)
runs-less row top false true (waiting a) e h = refl
runs-less row top false false (waiting a) e h = refl
runs-less row top true true (is_running a q) e h = refl
runs-less row top true false (is_running a q) e h = refl
runs-less row top false true (is_running a q) e h = absurd (omega (arith, h refl))
runs-less row top false false (is_running a q) e h = refl

module _ (L : ℕ) {i : ℕ} {m : Machine} {s : List ℕ} (b : Benched i m s) (soon : i < never) (calm : late_now m ≡ 0)
    (within : i < L) where
  abbrev n : ℕ
  n = m.table.n

  abbrev r : Machine
  r = before5 L i m

  abbrev over : ℕ → Bool
  over k = eqb (lanes_of i m s k).ends i

  less : Each n (λ k. runs (life (job m k)) ≡ runs (life (job r k)) + cond (over k) 1 0)
  less =
      each n _ λ k l.
      let g = b.good in
      rw (over-is b soon k l, life5 L b k l)
      (runs-less (row (τ m.table (suc k))) (T (τ m.table (suc k))) (has_task (full m) (suc k)) _
      (life (job m (suc k))) (full-has g (suc k) (omega arith) l)
      (λ d. rested (sound-row m g (suc k) (omega arith) l) (b.each (suc k) (omega arith) l) (has_task (full m) (suc k))
      (not_late_lem m g (suc k) (omega arith) l calm) (sym (in_due L i m.table within (suc k) (omega arith) l) ∙ d)))

  runs-before : Σ n (λ k. runs (life (job m k)))
      ≡ Σ n (λ k. runs (life (job r k))) + cores_back m.table i (lanes_of i m s) n
  runs-before = Σ-ext n _ _ less ∙ Σ_add n (λ k. runs (life (job r k))) (λ k. cond (over k) 1 0)

  pub cores-readied : (idle_cores r).0 ≡ (idle_cores m).0 + cores_back m.table i (lanes_of i m s) n
  cores-readied =
      rw (table5 L i m)
      (omega (arith, runs-before, running-jobs m, rw (table5 L i m) at (running-jobs r), b.good.cores))

  held-before : held_count m
      ≡ Σ n (λ k. A (τ m.table k) * runs (life (job r k))) + partitions_back m.table i (lanes_of i m s) n
  held-before =
      Σ-ext n (λ k. A (τ m.table k) * runs (life (job m k)))
      (λ k. A (τ m.table k) * runs (life (job r k)) + cond (over k) (A (τ m.table k)) 0)
      (λ k l h. ap (λ (x : ℕ). A (τ m.table k) * x) (less k l h)
      ∙ by (A (τ m.table k)) (runs (life (job r k))) (over k))
      ∙ Σ_add n (λ k. A (τ m.table k) * runs (life (job r k))) (λ k. cond (over k) (A (τ m.table k)) 0)
    where
      by : (a x : ℕ) (f : Bool) → a * (x + cond f 1 0) ≡ a * x + cond f a 0
      by a x true = omega (arith, mul-add a x 1)
      by a x false = omega (arith, mul-add a x 0)

  pub partitions-readied : (idle_partitions r).0
      ≡ (idle_partitions m).0 + partitions_back m.table i (lanes_of i m s) n
  partitions-readied =
      let after : (idle_partitions r).0 ≡ P m.table - Σ n (λ k. A (τ m.table k) * runs (life (job r k))) =
      idle-partitions (good5 L b calm)
      ∙ ap (λ (t : Table). P t - Σ t.n (λ k. A (τ t k) * runs (life (job r k)))) (table5 L i m) in
      omega (arith, held-before, idle-partitions b.good, after, held-most b.good)
