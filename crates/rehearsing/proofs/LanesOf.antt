-- The lanes of all tasks of a machine before tick i, where s jobs were started: each task's from its life, and past n
-- none but their count of started jobs.
use Prim.Native.Nat.{ℕ, suc, ◌<◌, ◌≤◌}
use mathlib.Core.Path.{◌≡◌, refl, sym, ◌∙◌, ap}
use mathlib.Core.Bool.{Bool, true, false, cond}
use mathlib.Core.List.{List}
use native.Mathlib.Decide.{dec_le}
use native.Mathlib.Omega.{arith}
use borrow.Author.Tests.{le-leb, lt-leb}
use lib.Dec.{leb}
use lib.ListN.{get_or}
use Rattle.maths.specs.Tasks.{Each, entry, tabulate}
use Rattle.maths.proofs.Arrays.{tabulate-ext}
use Rattle.table.specs.Limits.{most_tasks}
use Rattle.table.specs.Tasks.{τ}
use Rattle.admission.specs.Test.{row}
use Rattle.machine.specs.declared.Machine.{Machine}
use Rattle.machine.specs.Jobs.{job}
use Rattle.conduct.specs.Lives.{life}
use Rattle.rehearsal.proofs.Happens.{times}
use Rattle.rehearsal.proofs.Times.{Times}
use Rattle.rehearsing.specs.Code.Events.{lane_of, lanes_of, past_lane}
use Rattle.rehearsing.specs.Code.Events.{lane_of, lanes_of, past_lane}

module _ (i : ℕ) (m : Machine) (s : List ℕ) where
  pub lane_in : (k : ℕ) → k < m.table.n
      → lanes_of i m s (suc k) ≡ lane_of i (row (τ m.table (suc k))) (life (job m (suc k))) (get_or s k 0)
  lane_in k l = rw (le-leb (suc k) m.table.n l)

  lane_past : (k : ℕ) → m.table.n ≤ k → lanes_of i m s (suc k) ≡ past_lane (get_or s k 0)
  lane_past k l = rw (lt-leb (suc k) m.table.n (omega arith))

  pub lane-started : (k : ℕ) → (lanes_of i m s k).started ≡ entry s k 0
  lane-started k = by (leb k m.table.n)
    where
      by : (b : Bool) → (cond b (lane_of i (row (τ m.table k)) (life (job m k)) (entry s k 0))
          (past_lane (entry s k 0))).started ≡ entry s k 0
      by true = refl
      by false = refl

-- lanes show times and counts alone
pub lanes_same : (i j : ℕ) (m x : Machine) (s : List ℕ) → m.table.n ≡ x.table.n
    → Each m.table.n (λ k. times i m k ≡ times j x k)
    → tabulate most_tasks (lanes_of i m s) ≡ tabulate most_tasks (lanes_of j x s)
lanes_same i j m x s e same =
    tabulate-ext (lanes_of i m s) (lanes_of j x s) most_tasks (λ k l. by k (dec_le (suc k) m.table.n))
  where
    by : (k : ℕ) → Dec (suc k ≤ m.table.n) → lanes_of i m s (suc k) ≡ lanes_of j x s (suc k)
    by k (yes h) =
        lane_in i m s k h
        ∙ (ap (λ (z : Times). record { due = z.due; late = z.late; ends = z.ends; started = get_or s k 0 })
        (same (suc k) (omega arith) h)
        ∙ sym (lane_in j x s k (omega (arith, e))))
    by k (no h) = lane_past i m s k (omega arith) ∙ sym (lane_past j x s k (omega (arith, e)))
