-- Ticks that bring nothing can be leapt over: from tick i to tick x, before which no task has anything to come, the
-- machine only grows older, and the rehearsal from x on is the one from i on.
use Prim.Native.Nat.{ℕ, zero, suc, ◌+◌, ◌-◌, ◌≤◌}
use mathlib.Core.Path.{◌≡◌, refl, ◌∙◌}
use mathlib.Core.List.{List}
use native.Mathlib.Omega.{arith}
use Rattle.maths.specs.Tasks.{Each}
use Rattle.machine.specs.declared.Machine.{Machine}
use Rattle.machine.specs.Jobs.{idle_cores, idle_partitions}
use Rattle.machine.specs.Steps.{passed}
use Rattle.machine.proofs.Jobs.{passed-table}
use Rattle.rehearsal.specs.Rehearsal.{from}
use Rattle.rehearsal.proofs.Aged.{cores-same, partitions-same}
use Rattle.rehearsal.proofs.Benched.{Benched}
use Rattle.rehearsal.proofs.Counts.{nobody-started}
use Rattle.rehearsal.proofs.From.{from_on}
use Rattle.rehearsal.proofs.Happens.{times}
use Rattle.rehearsal.proofs.Still.{none-late, still-machine, still-started, still-benched, times-passed}
use Rattle.rehearsal.proofs.Times.{NothingBefore}

-- From the machine m before tick i to one before tick x.
pub record Leapt (L i x : ℕ) (m : Machine) (s : List ℕ) : Type 0 where
  pub machine : Machine
  pub benched : Benched x machine s
  pub table : machine.table ≡ m.table
  pub goes_on : from L (suc L - i) i m s ≡ from L (suc L - x) x machine s
  pub same_times : Each m.table.n (λ k. times x machine k ≡ times i m k)
  pub cores : idle_cores machine ≡ idle_cores m
  pub partitions : idle_partitions machine ≡ idle_partitions m

-- one tick
module _ {i : ℕ} {m : Machine} {s : List ℕ} (b : Benched i m s)
    (still : Each m.table.n (λ k. NothingBefore (suc i) (times i m k))) where
  passes : (L : ℕ) → i ≤ L → from L (suc L - i) i m s ≡ from L (suc L - suc i) (suc i) (passed m) s
  passes L l =
      let more : suc L - i ≡ suc (L - i) = omega arith in
      let left : suc L - suc i ≡ L - i = omega arith in
      rw (more, left)
      (from_on L i m s (L - i) (none-late b still)
      ∙ rw (still-machine b still L, still-started b still L, nobody-started s b.entries))

  passed_on : {L x : ℕ} → i ≤ L → Leapt L (suc i) x (passed m) s → Leapt L i x m s
  passed_on {L} {x} l next =
      record {
        machine = next.machine;
        benched = next.benched;
        table = next.table ∙ passed-table m 0 0;
        goes_on = passes L l ∙ next.goes_on;
        same_times = λ k o h. next.same_times k o (rw (passed-table m 0 0) h) ∙ times-passed b still k o h;
        cores = next.cores ∙ cores-same m b.good.table.sizes.few;
        partitions = next.partitions ∙ partitions-same m b.good.table.sizes.few;
      }

-- no tick at all
stands : {L i : ℕ} {m : Machine} {s : List ℕ} → Benched i m s → Leapt L i i m s
stands {m = m} b =
    record {
      machine = m;
      benched = b;
      table = refl;
      goes_on = refl;
      same_times = λ k o h. refl;
      cores = refl;
      partitions = refl;
    }

leaps : {L x : ℕ} {s : List ℕ} → x ≤ L → (d : ℕ) {i : ℕ} {m : Machine} → d + i ≡ x → Benched i m s
    → Each m.table.n (λ k. NothingBefore x (times i m k)) → Leapt L i x m s
leaps {x = x} l zero {i} e b none =
    let here : x ≡ i = omega arith in
    rw here (stands b)
leaps {x = x} l (suc d) {i} {m} e b none =
    passed_on b still (omega arith)
    (leaps l d (omega arith) (still-benched b still)
    (λ k o h. rw (times-passed b still k o (in_n k h)) (none k o (in_n k h))))
  where
    still : Each m.table.n (λ k. NothingBefore (suc i) (times i m k))
    still k o h = let later = none k o h in omega arith

    in_n : (k : ℕ) → k ≤ (passed m).table.n → k ≤ m.table.n
    in_n k h = rw (passed-table m 0 0) at h

pub leap : {L i x : ℕ} {m : Machine} {s : List ℕ} → Benched i m s → i ≤ x → x ≤ L
    → Each m.table.n (λ k. NothingBefore x (times i m k)) → Leapt L i x m s
leap {i = i} {x = x} b l within none = leaps within (x - i) (omega arith) b none
