-- Lemma 1 of the report: in a good state in which step 5 has stopped, M jobs run or B partitions are held, for each
-- task k that waits. Some task h does not fit whose A is at most Amax of k: the first that waits. Another style has
-- another `blocked`.
use Prim.Native.Nat.{ℕ, zero, suc, ◌<◌, ◌≤◌}
use mathlib.Core.Path.{◌≡◌, refl, sym, ◌∙◌}
use mathlib.Core.Bool.{Bool, true, false, cond, ◌&&◌, true≢false}
use native.Mathlib.Decide.{dec_lt}
use native.Mathlib.Omega.{arith}
use borrow.Author.Tests.{leb-false}
use lib.Dec.{leb}
use Rattle.table.specs.Tasks.{τ, A}
use Rattle.admission.specs.Test.{Amax}
use Rattle.admission.proofs.Laws.{Amax-over}
use Rattle.machine.specs.declared.Machine.{Machine}
use Rattle.machine.specs.Jobs.{waits, idle_cores, idle_partitions}
use Rattle.machine.specs.Steps.{first_waiting, fits, pick}
use Rattle.machine.proofs.Queue.{first-none, first-task, first-lowest, pick_first}
use Rattle.machine.proofs.StateParts.{GoodState}
use Rattle.lives.specs.Test.{busy_cores, busy_cache}
use Rattle.conduct.specs.Conduct.{FullFor}
use Rattle.conduct.proofs.Idle.{idle-partitions, running-jobs}

record Blocked (x : Machine) (k : ℕ) : Type 0 where
  h : ℕ
  task : h < x.table.n
  asks : A (τ x.table (suc h)) ≤ Amax x.table (suc k)
  unfit : fits x (suc h) ≡ false

blocked : (x : Machine) → pick x ≡ 0 → (k : ℕ) → k < x.table.n → waits x (suc k) ≡ true → Blocked x k
blocked x e k n w = by (first_waiting x) refl
  where
    unfit : (h : ℕ) (b : Bool) → fits x (suc h) ≡ b → cond b (suc h) 0 ≡ 0 → fits x (suc h) ≡ false
    unfit h true f q = absurd (omega (arith, q))
    unfit h false f q = f

    by : (f : ℕ) → first_waiting x ≡ f → Blocked x k
    by zero q = absurd (true≢false (sym w ∙ first-none x q k n))
    by (suc h) q =
        let le : h ≤ k =
        elim (dec_lt k h) [
          | yes l ↦ absurd (true≢false (sym w ∙ first-lowest x h q k l))
          | no l ↦ omega arith
        ] in
        record {
          h = h;
          task = first-task x h q;
          asks = Amax-over x.table (suc k) h (omega arith);
          unfit = unfit h (fits x (suc h)) refl (sym (pick_first x (suc h) q) ∙ e);
        }

pub full_of : {x : Machine} → GoodState x → pick x ≡ 0 → (k : ℕ) → k < x.table.n → waits x (suc k) ≡ true
    → FullFor x.table x (suc k)
full_of {x} g e k n w = by (leb 1 (idle_cores x).0) refl b.unfit
  where
    b : Blocked x k
    b = blocked x e k n w

    by : (c : Bool) → leb 1 (idle_cores x).0 ≡ c
        → c && leb (A (τ x.table (suc b.h))) (idle_partitions x).0 ≡ false → FullFor x.table x (suc k)
    by true c f =
        let few : (idle_partitions x).0 < A (τ x.table (suc b.h)) = leb-false _ _ f in
        busy_cache (omega (arith, idle-partitions g, b.asks, (g.table.row b.h b.task).room))
    by false c f =
        let all : (idle_cores x).0 < 1 = leb-false _ _ c in
        busy_cores (omega (arith, running-jobs x))
