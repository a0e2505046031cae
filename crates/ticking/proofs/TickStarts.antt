-- Step 5 by one pass over the tasks: what is known after i turns, kept by each way through a turn, and what it comes
-- to.
use Prim.Native.Nat.{ℕ, suc, ◌+◌, ◌-◌, ◌<◌, ◌≤◌}
use mathlib.Core.Path.{◌≡◌, sym, ◌∙◌, ap, subst}
use mathlib.Core.Bool.{Bool, true, false, cond, ◌&&◌, true≢false}
use native.Mathlib.Nat.{not-suc-le-zero}
use native.Mathlib.Numerals.{add-one}
use native.Mathlib.Omega.{arith}
use borrow.Author.Tests.{leb-true}
use lib.Dec.{leb}
use lib.ListN.{length}
use Rattle.maths.specs.Tasks.{lowest}
use Rattle.maths.proofs.Tests.{both}
use Rattle.maths.proofs.Tasks.{lowest_empty, lowest-found, lowest-stays}
use Rattle.table.specs.declared.Cores.{Cores}
use Rattle.table.specs.declared.Partitions.{Partitions}
use Rattle.table.specs.Limits.{most_tasks, most_partitions}
use Rattle.table.specs.Tasks.{M, τ, A}
use Rattle.sets.specs.Sets.{size, partitions_in, without}
use Rattle.sets.specs.TaskSets.{tasks_where}
use Rattle.sets.specs.Choice.{choice}
use Rattle.sets.proofs.Sizes.{size-without}
use Rattle.sets.proofs.Choices.{choice-within, choice-size}
use Rattle.sets.proofs.Wheres.{where_none, tasks_or, tasks-out}
use Rattle.machine.specs.declared.Job.{Job}
use Rattle.machine.specs.declared.Machine.{Machine}
use Rattle.ticking.specs.declared.Walk.{Walk}
use Rattle.machine.specs.Jobs.{is_waiting, is_running, job, waits}
use Rattle.machine.specs.Jobs.{waiting, running, idle_set, idle_cores, idle_partitions}
use Rattle.machine.specs.Steps.{first_waiting, fits_in, fits, pick}
use Rattle.machine.specs.Steps.{begun, start, start_picked, start_waiting, start_all}
use Rattle.ticking.specs.Code.Passes.{tries, has_room, walk_go, walk_by}
use Rattle.machine.proofs.StateParts.{not-both}
use Rattle.machine.proofs.Queue.{pick_first, fewer_wait, more-run, less-idle, start-turn, some_wait}
use Rattle.ticking.proofs.TickFive.{below_suc, walked, walked_none, walked-done, walked-left, walked_by}
use Rattle.ticking.proofs.TickFive.{walked-go}

module _ (r : Machine) (w : ℕ → Walk) (late : ℕ → ℕ) where
  -- a task that waits before the step and is running when the pass has come to it
  abbrev pub starts : ℕ → Bool
  starts k = waits r k && is_running (w k).job.stage

  pub record At (i : ℕ) : Type 0 where
    pub fuel : ℕ
    pub enough : waiting (walked r w i) ≤ fuel
    pub same : start_all r ≡ cond (w i).goes (start_waiting fuel (walked r w i)) (walked r w i)
    pub calm : (w i).goes ≡ true → (j : ℕ) → j < i → waits (walked r w i) (suc j) ≡ false
    pub cores : (w i).cores ≡ idle_cores (walked r w i)
    pub idle : (w i).idle ≡ idle_set (walked r w i)
    pub partitions : (w i).partitions ≡ idle_partitions (walked r w i)
    pub begun : (w i).started ≡ tasks_where starts i

  pub at_none : length r.jobs ≡ most_tasks → (w 0).goes ≡ true → (w 0).cores ≡ idle_cores r → (w 0).idle ≡ idle_set r
      → (w 0).partitions ≡ idle_partitions r → (w 0).started ≡ 0 → At 0
  at_none len goes cores idle partitions none =
      let here = walked_none r w len in
      record {
        fuel = waiting r;
        enough = omega (arith, ap waiting here);
        same = rw (goes, here);
        calm = λ g j l. absurd (not-suc-le-zero l);
        cores = rw here cores;
        idle = rw here idle;
        partitions = rw here partitions;
        begun = none ∙ sym (where_none (λ j. starts (suc j)));
      }

  module _ (i : ℕ) (few : r.table.n ≤ most_tasks) (in_n : i < r.table.n) (a : At i) where
    l : i < most_tasks
    l = omega arith

    -- the task's job before its turn
    here : job (walked r w i) (suc i) ≡ job r (suc i)
    here = walked-left r w i i (omega arith) l

    -- a task that does not start
    module _ (goes : Bool) (e : w (suc i) ≡ walk_by goes (job r (suc i)) (late i) (w i)) where
      by : walked r w (suc i) ≡ walked r w i
      by = walked_by r w i l (ap (λ (x : Walk). x.job) e)

      at_same : start_all r ≡ cond goes (start_waiting a.fuel (walked r w i)) (walked r w i)
          → (goes ≡ true → (j : ℕ) → j < suc i → waits (walked r w i) (suc j) ≡ false) → At (suc i)
      at_same same calm =
          record {
            fuel = a.fuel;
            enough = omega (arith, a.enough, ap waiting by);
            same = same ∙ rw (by, ap (λ (x : Walk). x.goes) e);
            calm = λ g.
                subst (λ (z : Machine). (j : ℕ) → j < suc i → waits z (suc j) ≡ false) (sym by)
                (calm (sym (ap (λ (x : Walk). x.goes) e) ∙ g));
            cores = ap (λ (x : Walk). x.cores) e ∙ (a.cores ∙ rw by);
            idle = ap (λ (x : Walk). x.idle) e ∙ (a.idle ∙ rw by);
            partitions = ap (λ (x : Walk). x.partitions) e ∙ (a.partitions ∙ rw by);
            begun =
                let no : starts (i + 1) ≡ false = rw add-one (rw e (not-both (job r (suc i)).stage)) in
                ap (λ (x : Walk). x.started) e ∙ (a.begun ∙ (tasks-out starts i no ∙ rw add-one));
          }

    -- it is not the task's turn, or step 5 has ended
    pub at-by : w (suc i) ≡ walk_by (w i).goes (job r (suc i)) (late i) (w i)
        → tries (job r (suc i)) (w i) ≡ false → At (suc i)
    at-by e out =
        at_same (w i).goes e a.same
        (λ g. below_suc (λ j. waits (walked r w i) (suc j) ≡ false) i (a.calm g) (rw here (rw g at out)))

    -- it is the task's turn
    module _ (yes : tries (job r (suc i)) (w i) ≡ true) where
      goes : (w i).goes ≡ true
      goes = (both (w i).goes _ yes).0

      queued : waits (walked r w i) (suc i) ≡ true
      queued = rw here (both (w i).goes _ yes).1

      first : first_waiting (walked r w i) ≡ suc i
      first =
          let none : lowest i (waits (walked r w i)) ≡ 0 = lowest_empty (waits (walked r w i)) i (a.calm goes) in
          let found = lowest-found (waits (walked r w i)) i none queued in
          lowest-stays (waits (walked r w i)) (i + 1) r.table.n i (omega arith) (found ∙ add-one i)

      room : fits (walked r w i) (suc i) ≡ has_room (τ r.table (suc i)) (w i)
      room = λ k. fits_in (sym a.cores k) (sym a.partitions k) (τ r.table (suc i))

      picks : pick (walked r w i) ≡ cond (has_room (τ r.table (suc i)) (w i)) (suc i) 0
      picks = pick_first (walked r w i) (suc i) first ∙ ap (λ (b : Bool). cond b (suc i) 0) room

      one_left : a.fuel ≡ suc (a.fuel - 1)
      one_left = omega (arith, a.enough, some_wait (walked r w i) i in_n queued)

      turn : start_all r ≡ start_picked (start_waiting (a.fuel - 1)) (walked r w i)
          (cond (has_room (τ r.table (suc i)) (w i)) (suc i) 0)
      turn =
          a.same
          ∙ (ap (λ (b : Bool). cond b (start_waiting a.fuel (walked r w i)) (walked r w i)) goes
          ∙ (ap (λ (f : ℕ). start_waiting f (walked r w i)) one_left
          ∙ (start-turn (a.fuel - 1) (walked r w i)
          ∙ ap (start_picked (start_waiting (a.fuel - 1)) (walked r w i)) picks)))

      -- it does not fit, and step 5 ends
      pub at-stop : w (suc i) ≡ walk_by false (job r (suc i)) (late i) (w i)
          → has_room (τ r.table (suc i)) (w i) ≡ false → At (suc i)
      at-stop e unfit = at_same false e (turn ∙ rw unfit) (λ g. absurd (true≢false (sym g)))

      -- it starts, and takes A partitions
      module _ (e : w (suc i) ≡ walk_go (suc i) (τ r.table (suc i)) (job r (suc i)) (late i) (w i))
          (fit : has_room (τ r.table (suc i)) (w i) ≡ true) (free : (job r (suc i)).held ≡ 0) where
        new : (w (suc i)).job ≡ begun (choice (w i).idle (A (τ r.table (suc i)))) (job r (suc i))
        new = ap (λ (x : Walk). x.job) e

        go : walked r w (suc i) ≡ start (walked r w i) i
        go = walked-go r w i l new a.idle

        idle-go : (w (suc i)).idle ≡ idle_set (walked r w (suc i))
        idle-go =
            ap (λ (x : Walk). x.idle) e
            ∙ (ap (λ (z : ℕ). without z (choice z (A (τ r.table (suc i))))) a.idle
            ∙ (sym (less-idle (walked r w i) i queued in_n (rw here free)) ∙ ap idle_set (sym go)))

        cores-go : (w (suc i)).cores ≡ idle_cores (walked r w (suc i))
        cores-go =
            let less : (w i).cores.0 - 1 ≡ M r.table - running (walked r w (suc i)) =
            rw go (omega (arith, ap (λ (x : Cores). x.0) a.cores, more-run (walked r w i) i queued in_n)) in
            ap (λ (x : Walk). x.cores) e ∙ (λ k. record { 0 = less k })

        partitions-go : (w (suc i)).partitions ≡ idle_partitions (walked r w (suc i))
        partitions-go =
            let idle = (w i).idle in
            let count = A (τ r.table (suc i)) in
            let had : (w i).partitions.0 ≡ size most_partitions idle =
            ap (λ (x : Partitions). x.0) a.partitions ∙ rw a.idle in
            let enough : count ≤ size most_partitions idle =
            omega (arith, leb-true count (w i).partitions.0 (both (leb 1 (w i).cores.0) _ fit).1) in
            let less : (w i).partitions.0 - count ≡ size most_partitions (without idle (choice idle count)) =
            omega (
              arith,
              choice-size idle count enough,
              size-without most_partitions idle (choice idle count) (choice-within idle count),
            ) in
            ap (λ (x : Walk). x.partitions) e
            ∙ ((λ k. record { 0 = less k }) ∙ ap partitions_in (sym (ap (λ (x : Walk). x.idle) e) ∙ idle-go))

        pub at-go : At (suc i)
        at-go =
            record {
              fuel = a.fuel - 1;
              enough = omega (arith, a.enough, ap waiting go, fewer_wait (walked r w i) i queued in_n);
              same = turn ∙ rw (fit, go, ap (λ (x : Walk). x.goes) e ∙ goes);
              calm = λ g.
                  below_suc (λ j. waits (walked r w (suc i)) (suc j) ≡ false) i
                  (λ j k. rw (
                    walked-done r w (suc i) j (omega arith) (omega arith),
                    ← walked-done r w i j k (omega arith),
                  ) (a.calm goes j k))
                  (rw (walked-done r w (suc i) i (omega arith) l, new));
              cores = cores-go;
              idle = idle-go;
              partitions = partitions-go;
              begun =
                  let now : starts (i + 1) ≡ true =
                  rw add-one (rw (sym (ap (λ (j : Job). is_waiting j.stage) here) ∙ queued, new)) in
                  ap (λ (x : Walk). x.started) e ∙ rw (a.begun, ← add-one i) (tasks_or starts i l now);
            }
