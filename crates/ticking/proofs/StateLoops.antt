-- What a pass over the jobs of a state knows after i of them.
use Prim.Native.Nat.{ℕ, suc, ◌+◌, ◌<◌}
use mathlib.Core.Path.{◌≡◌, refl, sym}
use mathlib.Core.Bool.{Bool, true, cond}
use native.Mathlib.Nat.{not-suc-le-zero}
use native.Mathlib.Numerals.{add-one}
use borrow.Author.Count.{below_more}
use lib.Bits.{bit_and, bit_or}
use Rattle.maths.specs.Sums.{Σ}
use Rattle.maths.proofs.Sums.{sum-zero, sum_more}
use Rattle.table.specs.Tasks.{P, τ}
use Rattle.sets.specs.Families.{union_of, Apart}
use Rattle.sets.proofs.Unions.{union-none, union_more, apart_none, apart_more}
use Rattle.machine.specs.declared.Machine.{Machine}
use Rattle.machine.specs.Jobs.{job, runs, running}
use Rattle.machine.specs.Conditions.{good_job}

-- of tasks 1 to i: how many run, and what is held
abbrev pub running_to : Machine → ℕ → ℕ
running_to m i = Σ i (λ k. cond (runs m k) 1 0)

abbrev pub held_to : Machine → ℕ → ℕ
held_to m i = union_of i (λ i. (job m (suc i)).held)

-- task k's conditions
abbrev pub good_task : Machine → ℕ → Bool
good_task m k = good_job (P m.table) (τ m.table k) (job m k)

module _ (m : Machine) where
  pub running_none : 0 ≡ running_to m 0
  running_none = sym (sum-zero (λ i. cond (runs m (suc i)) 1 0))

  pub running_more : (i : ℕ) → running_to m (i + 1) ≡ running_to m i + cond (runs m (suc i)) 1 0
  running_more i = sum_more (λ i. cond (runs m (suc i)) 1 0) i

  pub running-all : running_to m m.table.n ≡ running m
  unfolding running
  running-all = refl

  pub held_none : 0 ≡ held_to m 0
  held_none = sym (union-none (λ i. (job m (suc i)).held))

  pub held_more : (i : ℕ) → held_to m (i + 1) ≡ bit_or (held_to m i) (job m (suc i)).held
  held_more i = rw add-one (union_more (λ i. (job m (suc i)).held) i)

  -- the pass over tasks 1 to n: each of the first i is good, and no partition has two holders among them
  pub record Passed (i held count : ℕ) : Type 0 where
    pub good : (j : ℕ) → j < i → good_task m (suc j) ≡ true
    pub apart : Apart i (λ i. (job m (suc i)).held)
    pub union : held ≡ held_to m i
    pub runs : count ≡ running_to m i

  pub passed_none : Passed 0 0 0
  passed_none =
      record {
        good = λ j l. absurd (not-suc-le-zero l);
        apart = apart_none (λ i. (job m (suc i)).held);
        union = held_none;
        runs = running_none;
      }

  pub passed-more : (i held count one : ℕ) → Passed i held count → good_task m (suc i) ≡ true
      → bit_and held (job m (suc i)).held ≡ 0
      → one ≡ cond (runs m (suc i)) 1 0 → Passed (i + 1) (bit_or held (job m (suc i)).held) (count + one)
  passed-more i held count one p g a e =
      record {
        good = below_more _ _ p.good g;
        apart = rw add-one (apart_more (λ i. (job m (suc i)).held) i p.apart (rw p.union at a));
        union = rw p.union (sym (held_more i));
        runs = rw (p.runs, e) (sym (running_more i));
      }
