-- L of a table that is not refused is the least common multiple of its periods, and those of the first k periods divide
-- it, so that once one of them is above a limit, L is.
use Prim.Native.Nat.{ℕ, zero, suc, ◌<◌, ◌≤◌, ◌∣◌}
use mathlib.Core.Path.{◌≡◌, refl}
use native.Mathlib.Omega.{arith}
use native.Mathlib.Decide.{dec_le}
use native.Mathlib.Nat.{one-dvd, dvd_refl, dvd_trans, le_of_dvd}
use Rattle.maths.proofs.Tasks.{each}
use Rattle.table.specs.declared.Table.{Table}
use Rattle.table.specs.Good.{Good}
use Rattle.table.specs.Tasks.{τ, T}
use Rattle.multiples.specs.Gcd.{lcm}
use Rattle.multiples.proofs.Multiples.{lcm-first, lcm-second, lcm-pos, lcm-least}
use Rattle.rehearsal.specs.Multiple.{multiple_to, multiple, IsLeast}

module _ (t : Table) where
  pub multiple_to-zero : multiple_to t 0 ≡ 1
  unfolding multiple_to
  multiple_to-zero = refl

  pub multiple_to-more : (k : ℕ) → multiple_to t (suc k) ≡ lcm (multiple_to t k) (T (τ t (suc k)))
  unfolding multiple_to
  multiple_to-more k = refl

  multiple_to-divides : (j k : ℕ) → j ≤ k → multiple_to t j ∣ multiple_to t k
  multiple_to-divides j zero l = let none : j ≡ 0 = omega arith in rw none (dvd_refl (multiple_to t 0))
  multiple_to-divides j (suc k) l =
      elim (dec_le j k) [
        | yes h ↦ rw (multiple_to-more k) (dvd_trans (multiple_to t j) (multiple_to-divides j k h) (lcm-first _ _))
        | no h ↦ let same : j ≡ suc k = omega arith in rw same (dvd_refl (multiple_to t (suc k)))
      ]

  period-divides : (i k : ℕ) → i < k → T (τ t (suc i)) ∣ multiple_to t k
  period-divides i k l =
      dvd_trans (T (τ t (suc i))) (rw (multiple_to-more i) (lcm-second _ _)) (multiple_to-divides (suc i) k l)

module _ {t : Table} (g : Good t) where
  pub multiple_to-pos : (k : ℕ) → k ≤ t.n → 0 < multiple_to t k
  unfolding multiple_to
  multiple_to-pos zero l = omega arith
  multiple_to-pos (suc k) l = lcm-pos _ _ (multiple_to-pos k (omega arith)) (g.row k l).period

  multiple_to-least : (k other : ℕ) → k ≤ t.n → ((i : ℕ) → i < k → T (τ t (suc i)) ∣ other) → multiple_to t k ∣ other
  unfolding multiple_to
  multiple_to-least zero other l h = one-dvd other
  multiple_to-least (suc k) other l h =
      lcm-least _ _ other (multiple_to-pos k (omega arith))
      (multiple_to-least k other (omega arith) (λ i m. h i (omega arith))) (h k (omega arith))

  pub multiple_to-le : (k : ℕ) → k ≤ t.n → multiple_to t k ≤ multiple t
  multiple_to-le k l = le_of_dvd (multiple_to-pos t.n (omega arith)) (multiple_to-divides t k t.n l)

  pub is-least : IsLeast t (multiple t)
  is-least =
      record {
        some = multiple_to-pos t.n (omega arith);
        common = each t.n _ (λ i l. period-divides t i t.n l);
        least = λ other above h. le_of_dvd above
            (multiple_to-least t.n other (omega arith) (λ i l. h (suc i) (omega arith) l));
      }
