-- One start of step 5: a waiting job that fits leaves a good state, whichever idle partitions it is given.
use Prim.Native.Nat.{ℕ, suc, ◌^◌, ◌<◌, ◌≤◌, zero-le}
use mathlib.Core.Path.{◌≡◌, refl, ◌∙◌, ap}
use mathlib.Core.Bool.{true}
use native.Mathlib.Decide.{ℕ_discrete}
use native.Mathlib.Nat.{lt_of_le_of_lt, sub-le}
use native.Mathlib.Omega.{arith}
use borrow.Author.Tests.{leb-true}
use lib.Dec.{leb}
use lib.Pow.{ones_lt}
use Rattle.maths.proofs.Tests.{both}
use Rattle.table.specs.Tasks.{P, τ, A}
use Rattle.sets.specs.Sets.{below}
use Rattle.sets.specs.Families.{Apart}
use Rattle.sets.proofs.Choices.{choice_lt, choice-free, choice-size}
use Rattle.sets.proofs.Holders.{apart-take}
use Rattle.machine.specs.declared.Job.{Job}
use Rattle.machine.specs.declared.Machine.{Machine}
use Rattle.machine.specs.Jobs.{job, held, waits, busy, idle_set, idle_cores, idle_partitions}
use Rattle.machine.specs.Steps.{fits, start}
use Rattle.machine.proofs.Jobs.{start-other}
use Rattle.machine.proofs.Queue.{new-job, more-run}
use Rattle.machine.proofs.StateParts.{is-running, GoodJob, GoodState}

-- a core is idle, and A partitions are
fits_both : (m : Machine) (k : ℕ) → fits m k ≡ true → (1 ≤ (idle_cores m).0) × (A (τ m.table k) ≤ (idle_partitions m).0)
fits_both m k f =
    let b = both (leb 1 (idle_cores m).0) (leb (A (τ m.table k)) (idle_partitions m).0) f in
    (leb-true _ _ b.0, leb-true _ _ b.1)

module _ (m : Machine) (i : ℕ) (w : waits m (suc i) ≡ true) where
  module _ (g : GoodState m) (l : i < m.table.n) (f : fits m (suc i) ≡ true) where
    new-good : GoodJob (P m.table) (τ m.table (suc i)) (job (start m i) (suc i))
    new-good =
        let t = m.table in
        let idle_lt : idle_set m < 2 ^ P t = lt_of_le_of_lt (sub-le (below (P t)) _) (ones_lt (P t)) in
        rw (new-job m i w)
        (record {
          age = (g.each i l).age;
          stage =
              is-running refl
              (record {
                short = zero-le;
                younger = zero-le;
                count = choice-size (idle_set m) (A (τ t (suc i))) (fits_both m (suc i) f).1;
                cache = choice_lt (P t) (idle_set m) (A (τ t (suc i))) idle_lt;
              });
        })

    each-good : (j : ℕ) → j < m.table.n → GoodJob (P m.table) (τ m.table (suc j)) (job (start m i) (suc j))
    each-good j h =
        elim (ℕ_discrete j i) [
          | yes e ↦ rw e new-good
          | no e ↦ rw (start-other m i j e) (g.each j h)
        ]

    apart : Apart m.table.n (λ j. held (start m i) (suc j))
    unfolding busy
    apart =
        apart-take (λ j. held m (suc j)) (λ j. held (start m i) (suc j)) m.table.n i l
        (λ j h e. ap (λ (x : Job). x.held) (start-other m i j e))
        g.apart
        (rw (held, new-job m i w) (choice-free (below (P m.table)) (busy m) (A (τ m.table (suc i)))))

    pub start-good : GoodState (start m i)
    start-good =
        record {
          unrefused = g.unrefused;
          table = g.table;
          no_tasks = g.no_tasks;
          no_jobs = λ j h k. start-other m i j (omega arith) ∙ g.no_jobs j h k;
          each = each-good;
          apart = apart;
          cores = omega (arith, more-run m i w l, (fits_both m (suc i) f).0);
        }
