-- A tick of a rehearsal before which no task has anything to come: nobody is released, finished, late or started, and
-- all that it does is to make the machine a tick older.
use Prim.Native.Nat.{ℕ, suc, ◌%◌, ◌≤◌}
use mathlib.Core.Path.{◌≡◌, ◌∙◌, ap}
use mathlib.Core.Bool.{true, false, and-false}
use mathlib.Core.List.{List}
use native.Mathlib.Omega.{arith}
use borrow.Author.Tests.{ne_eqb}
use lib.Dec.{ltb, eqb}
use Rattle.maths.specs.Tasks.{Each}
use Rattle.table.specs.Limits.{most_tasks}
use Rattle.table.specs.Tasks.{τ, T}
use Rattle.admission.specs.Test.{row}
use Rattle.sets.proofs.Wheres.{where_empty}
use Rattle.machine.specs.declared.Machine.{Machine}
use Rattle.machine.specs.Jobs.{job}
use Rattle.machine.specs.Steps.{for_tasks, older, passed}
use Rattle.machine.specs.Tick.{Ticked, accepted, tick}
use Rattle.machine.proofs.Accepted.{accepted-is}
use Rattle.machine.proofs.Jobs.{for_length, passed-job}
use Rattle.machine.proofs.StateParts.{GoodState}
use Rattle.lives.specs.Life.{rise}
use Rattle.conduct.specs.Lives.{life}
use Rattle.conduct.proofs.GoOn.{goes_on_lem}
use Rattle.conduct.proofs.Laws.{tick-moved, tick-started}
use Rattle.conduct.proofs.Lives.{life-older}
use Rattle.conduct.proofs.Ready.{readied-good}
use Rattle.rehearsal.specs.Rehearsal.{released_at, full, late_now, bench_tick}
use Rattle.rehearsal.proofs.Aged.{readied-none, pick_same, moved_none, none-start}
use Rattle.rehearsal.proofs.Benched.{Benched}
use Rattle.rehearsal.proofs.Happens.{times, due-test}
use Rattle.rehearsal.proofs.Readings.{full-test, late-test}
use Rattle.rehearsal.proofs.Times.{NothingBefore}
use Rattle.rehearsal.proofs.TimesLaws.{is_over, is_late, still-times, still-over, still-late, still-bench}

module _ {i : ℕ} {m : Machine} {s : List ℕ} (b : Benched i m s) where
  abbrev n : ℕ
  n = m.table.n

  few : n ≤ most_tasks
  few = b.good.table.sizes.few

  -- a task's life, a tick older
  life-passed : Each n (λ k. life (job (passed m) k) ≡ rise (T (τ m.table k)) (life (job m k)))
  life-passed k l h =
      ap life (passed-job m k l h (omega (arith, few))) ∙ life-older (τ m.table k) (job m k)

  module _ (still : Each n (λ k. NothingBefore (suc i) (times i m k))) where
    not-due : Each n (λ k. eqb (i % T (τ m.table k)) 0 ≡ false)
    not-due k l h = due-test b k l h ∙ ne_eqb (times i m k).due i (omega (arith, (still k l h).due))

    none-released : (L : ℕ) → released_at L m.table i ≡ 0
    none-released L =
        where_empty _ n (λ j l. rw (not-due (suc j) (omega arith) l) (and-false (ltb i L)))

    not-over : Each n (λ k. is_over (row (τ m.table k)) (life (job m k)) ≡ false)
    not-over k l h = still-over i (row (τ m.table k)) (life (job m k)) (still k l h)

    not-old : Each n (λ k. is_late (row (τ m.table k)) (life (job m k)) ≡ false)
    not-old k l h = still-late i (row (τ m.table k)) (life (job m k)) (still k l h)

    none-full : full m ≡ 0
    none-full =
        where_empty _ n
        (λ j l. full-test b.good (suc j) (omega arith) l ∙ not-over (suc j) (omega arith) l)

    pub none-late : late_now m ≡ 0
    unfolding for_tasks
    none-late =
        where_empty _ n (λ j l.
        late-test b.good (suc j) (omega arith) l
        ∙ rw (not-over (suc j) (omega arith) l, not-old (suc j) (omega arith) l))

    none_happens : (L : ℕ) → bench_tick L i m ≡ tick m 0 0
    none_happens L = λ j. tick m (none-released L j) (none-full j)

    accepts : accepted m 0 0 ≡ true
    accepts = rw none-full at (goes_on_lem m b.good)

    pub still-machine : (L : ℕ) → (bench_tick L i m).machine ≡ passed m
    still-machine L =
        ap (λ (r : Ticked). r.machine) (none_happens L)
        ∙ (tick-moved m 0 0 accepts ∙ moved_none m few b.stopped)

    pub still-started : (L : ℕ) → (bench_tick L i m).answer.started ≡ 0
    still-started L =
        ap (λ (r : Ticked). r.answer.started) (none_happens L)
        ∙ (tick-started m 0 0 accepts ∙ none-start m few b.stopped)

    good-passed : GoodState (passed m)
    good-passed = rw (readied-none m few) at (readied-good m 0 0 b.good (accepted-is m 0 0 accepts))

    pub still-benched : Benched (suc i) (passed m) s
    unfolding for_tasks
    still-benched =
        record {
          rows = b.rows;
          jobs = for_length (λ k. older (τ m.table k)) m;
          entries = b.entries;
          good = good-passed;
          each = λ k l h. rw (life-passed k l h) (still-bench (life (job m k)) (b.each k l h) (still k l h));
          stopped = pick_same m few ∙ b.stopped;
        }

    pub times-passed : Each n (λ k. times (suc i) (passed m) k ≡ times i m k)
    unfolding for_tasks
    times-passed k l h =
        rw (life-passed k l h) (still-times i (row (τ m.table k)) (life (job m k)) (still k l h))
