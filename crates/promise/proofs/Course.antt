-- A sequence as a course of the theory of lives, and what the theorem says of its lives.
use Prim.Native.Nat.{ℕ, suc, ◌<◌, ◌≤◌}
use mathlib.Core.Path.{◌≡◌, ap, subst}
use mathlib.Core.List.{List}
use native.Mathlib.Nat.{le_refl}
use native.Mathlib.Omega.{arith}
use Rattle.maths.specs.Tasks.{Each}
use Rattle.maths.proofs.Tasks.{each}
use Rattle.table.specs.declared.Table.{Table}
use Rattle.admission.specs.Test.{rows}
use Rattle.machine.specs.Jobs.{job}
use Rattle.machine.specs.Fresh.{trimmed}
use Rattle.machine.proofs.StateFresh.{fresh-job}
use Rattle.lives.specs.Report.{Row}
use Rattle.lives.specs.Life.{Life, idle, rise, Allowed, WithinC, OnTime}
use Rattle.lives.specs.Style.{Style, Course}
use Rattle.lives.proofs.Base.{base}
use Rattle.lives.proofs.InTime.{all-within, all_on_time}
use Rattle.conduct.specs.Lives.{life}
use Rattle.promise.specs.Sequences.{Report, Sequence, sequence, count, state, releases, finishes, starts}
use Rattle.promise.proofs.Bits.{led}
use Rattle.promise.proofs.Safe.{tops, Safe, good-table, sound, same_row, same-top, same_full}
use Rattle.promise.proofs.States.{conducts}

-- the life of task k in state i
abbrev pub lives : Sequence → ℕ → ℕ → Life
lives s i k = life (job (state s i) k)

module _ (t : Table) (a : Safe t) (xs : List Report) where
  abbrev s : Sequence
  s = sequence t xs

  -- tick i: what it says of task k, and what it makes of k's life
  module _ (i : ℕ) (l : i < count (sequence t xs)) where
    pub says : Each t.n
        (λ k. Allowed (rows t k) (rise (tops t k) (lives s i k)) (finishes s i k) (releases s i k) (starts s i k))
    says k p q =
        subst (λ (h : ℕ). Allowed (rows t k) (rise h (lives s i k)) (finishes s i k) (releases s i k) (starts s i k))
        (same-top t a k p q)
        (subst (λ (r : Row). Allowed r (rise (tops (trimmed t) k) (lives s i k)) (finishes s i k) (releases s i k)
        (starts s i k)) (same_row t a k p q)
        ((conducts t a xs i l).allows k p q))

    pub does : Each t.n
        (λ k. led (tops t k) (lives s i k) (finishes s i k) (releases s i k) (starts s i k) ≡ lives s (suc i) k)
    does k p q =
        subst (λ (h : ℕ). led h (lives s i k) (finishes s i k) (releases s i k) (starts s i k) ≡ lives s (suc i) k)
        (same-top t a k p q)
        ((conducts t a xs i l).moves k p q)

  first : Each t.n (λ k. lives s 0 k ≡ idle (rows t k).T)
  first = each t.n _ (λ i l. ap life (fresh-job t i (omega (arith, (good-table t a).sizes.few)) l))

  abbrev pub style : Style t.n (rows t) (tops t)
  style = base (sound t a) (λ k p q. le_refl (tops t k)) a.weighed

  pub course : Course style (lives s) (count s)
  course =
      record {
        fresh = first;
        next =
            λ i l k p q.
            record {
              finished = finishes s i k;
              released = releases s i k;
              started = starts s i k;
              allowed = says i l k p q;
              lands = does i l k p q;
            };
        full = λ i l k p q w. same_full t a k p q _ ((conducts t a xs i l).full k p q w);
        starts = λ i l k p q w. tt;
      }

  pub on_time_lem : (i : ℕ) → i ≤ count s
      → Each t.n (λ k. WithinC (rows t k) (lives s i k) × OnTime (rows t k) (lives s i k))
  on_time_lem i l k p q = (all-within course i l k p q, all_on_time course i l k p q)
