-- The second pass of an accepted tick comes to its steps: the machine that it leaves, and the sets late and started.
use Prim.Native.Nat.{ℕ, suc, ◌<◌, min}
use mathlib.Core.Path.{◌≡◌, refl, sym, ◌∙◌, ap}
use mathlib.Core.Bool.{cond}
use native.Mathlib.Omega.{arith}
use native.Mathlib.Decide.{dec_lt}
use borrow.Author.Tests.{le-leb}
use lib.Dec.{leb}
use Rattle.maths.proofs.Arrays.{up_to, tabulate-ext}
use Rattle.table.specs.Limits.{most_tasks}
use Rattle.table.specs.Tasks.{P}
use Rattle.sets.specs.Sets.{partitions_in, below, without}
use Rattle.sets.proofs.Wheres.{where_same}
use Rattle.machine.specs.declared.Machine.{Machine}
use Rattle.ticking.specs.declared.Walk.{Walk}
use Rattle.machine.specs.Jobs.{job, running, busy, idle_set, idle_cores}
use Rattle.machine.specs.Steps.{passed, finish, late_set, start_all}
use Rattle.ticking.specs.Code.Passes.{busy_in, cores_less, walk_start}
use Rattle.machine.specs.Tick.{readied, moved, started_set}
use Rattle.machine.proofs.Jobs.{finished-table, finished-job}
use Rattle.ticking.proofs.TickFive.{walked}
use Rattle.ticking.proofs.TickJudge.{Accepts}
use Rattle.ticking.proofs.TickMoved.{Pass, five, started-is}
use Rattle.ticking.proofs.TickReady.{ready, ready-is, ready-length, ready-past, ready-job, ready-waits}
use Rattle.ticking.proofs.TickWalk.{walk_to, walk_none, walk_turn, walk-late, is_late_task, late_after}

module _ (m : Machine) (released finished : ℕ) where
  abbrev pub first : Walk
  first = walk_start m.table.platform (busy_in (readied m released finished))

  abbrev pub turns : ℕ → Walk
  turns = walk_to m released finished first

  -- the machine after i turns
  abbrev pub machine_to : ℕ → Machine
  machine_to i = record { table = m.table; jobs = up_to most_tasks (λ k. (turns k).job) (job m) i }

  starts_so : turns 0 ≡ first
  starts_so = sym (walk_none m released finished first)

module _ (m : Machine) (released finished : ℕ) (a : Accepts m released finished) where
  abbrev start_of : Walk
  start_of = first m released finished

  abbrev turns_of : ℕ → Walk
  turns_of = turns m released finished

  idle_so : start_of.idle ≡ idle_set (ready m released finished)
  idle_so =
      let p : min (P m.table) 64 ≡ P m.table = omega (arith, a.good.table.sizes.partitions) in
      ap (λ (z : ℕ). without (below z) (busy (readied m released finished))) p
      ∙ ap (λ (z : Machine). without (below (P m.table)) (busy z)) (ready-is m released finished)

  cores_so : start_of.cores ≡ idle_cores (ready m released finished)
  cores_so = ap (λ (z : Machine). cores_less m.table.platform.cores (record { 0 = running z }))
      (ready-is m released finished)

  is_pass : Pass (ready m released finished) turns_of (late_after m released finished start_of)
  is_pass =
      record {
        entries = ready-length m released finished;
        few = a.good.table.sizes.few;
        goes = ap (λ (x : Walk). x.goes) (starts_so m released finished);
        cores = ap (λ (x : Walk). x.cores) (starts_so m released finished) ∙ cores_so;
        idle = ap (λ (x : Walk). x.idle) (starts_so m released finished) ∙ idle_so;
        partitions = ap (λ (x : Walk). x.partitions) (starts_so m released finished) ∙ ap partitions_in idle_so;
        none = ap (λ (x : Walk). x.started) (starts_so m released finished);
        free = ready-waits m released finished a;
        turn = λ i h. walk_turn m released finished start_of i ∙ rw (ready-job m released finished a i h);
      }

  -- past n the jobs are the lent ones
  abbrev left : Machine
  left = machine_to m released finished m.table.n

  walked-is : walked (ready m released finished) turns_of m.table.n ≡ left
  walked-is = λ i. record { table = m.table; jobs = same i }
    where
      same : up_to most_tasks (λ k. (turns_of k).job) (job (ready m released finished)) m.table.n
          ≡ up_to most_tasks (λ k. (turns_of k).job) (job m) m.table.n
      same = tabulate-ext _ _ most_tasks (λ i h. at i h (dec_lt i m.table.n))
        where
          at : (i : ℕ) → i < most_tasks → Dec (i < m.table.n)
              → cond (leb (suc i) m.table.n) (turns_of (suc i)).job (job (ready m released finished) (suc i))
              ≡ cond (leb (suc i) m.table.n) (turns_of (suc i)).job (job m (suc i))
          at i h (yes k) = rw (le-leb (suc i) m.table.n k)
          at i h (no k) = rw (ready-past m released finished i (omega arith) h)

  moved_so : moved m released finished ≡ walked (ready m released finished) turns_of m.table.n
  moved_so = ap start_all (ready-is m released finished) ∙ five (ready m released finished) turns_of _ is_pass

  pub moved-is : moved m released finished ≡ left
  moved-is = moved_so ∙ walked-is

  pub started_so : started_set (readied m released finished) (moved m released finished) ≡ (turns_of m.table.n).started
  started_so =
      ap (started_set (readied m released finished)) moved_so
      ∙ (ap (λ (z : Machine). started_set z (walked (ready m released finished) turns_of m.table.n))
      (ready-is m released finished)
      ∙ started-is (ready m released finished) turns_of _ is_pass)

  pub late_so : late_set m (finish finished (passed m)) ≡ (turns_of m.table.n).late
  late_so =
      ap (late_set m) unfinished-is
      ∙ (where_same _ (λ i. is_late_task m released finished start_of (suc i)) m.table.n
      (λ i h. rw (finished-job m (suc i) (omega arith) h (omega (arith, a.good.table.sizes.few)) finished))
      ∙ sym (walk-late m released finished start_of refl m.table.n a.good.table.sizes.few))
    where
      unfinished : Machine
      unfinished = record { table = m.table; jobs = (finish finished (passed m)).jobs }

      unfinished-is : finish finished (passed m) ≡ unfinished
      unfinished-is =
          λ i. record { table = finished-table m released finished i; jobs = (finish finished (passed m)).jobs }
