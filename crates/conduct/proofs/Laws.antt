-- An accepted tick is conducted as specs/Conduct.antt says; and what a tick returns, accepted or refused.
use Prim.Native.Nat.{ℕ, suc, ◌<◌, ◌≤◌}
use mathlib.Core.Path.{◌≡◌, refl, sym, ◌∙◌, subst}
use mathlib.Core.Bool.{Bool, true, false, ◌&&◌}
use native.Mathlib.Omega.{arith}
use lib.ListN.{length}
use Rattle.maths.proofs.Tasks.{each}
use Rattle.maths.proofs.Tests.{both}
use Rattle.table.specs.declared.Table.{Table}
use Rattle.table.specs.declared.Task.{Task}
use Rattle.table.specs.Limits.{most_tasks}
use Rattle.table.specs.Tasks.{τ}
use Rattle.sets.specs.TaskSets.{has_task}
use Rattle.sets.proofs.Wheres.{tasks-has}
use Rattle.machine.specs.declared.Job.{Job}
use Rattle.machine.specs.declared.Machine.{Machine}
use Rattle.machine.specs.Jobs.{is_waiting, job, top, waits, runs}
use Rattle.machine.specs.Steps.{finish, passed, late_set}
use Rattle.machine.specs.Tick.{readied, moved, started_set, tick_refusal, accepted, tick}
use Rattle.machine.proofs.Jobs.{readied_job, readied-table, readied-job}
use Rattle.machine.proofs.StateParts.{GoodState}
use Rattle.machine.proofs.StateTest.{state-good, state-test}
use Rattle.lives.specs.Life as L
use Rattle.lives.specs.Life.{Allowed}
use Rattle.admission.specs.Test.{row}
use Rattle.conduct.specs.Lives.{life}
use Rattle.conduct.specs.Conduct.{FullFor, Conduct}
use Rattle.machine.proofs.Accepted.{accepted-is}
use Rattle.machine.proofs.Taken.{taken}
use Rattle.conduct.proofs.Lives.{one-true, shows}
use Rattle.conduct.proofs.Lemma1.{full_of}
use Rattle.conduct.proofs.Ready.{readied-good}
use Rattle.conduct.proofs.Starting.{Ended, step_5}
use Rattle.conduct.proofs.Moves.{starts, allowed, lands}

-- the state that the tick leaves
abbrev pub after : Machine → ℕ → ℕ → Machine
after m R F = (tick m R F).machine

-- a tick answers its refusal, and where it refuses it leaves the state as it was
pub tick-refusal : (m : Machine) (R F : ℕ) → (tick m R F).answer.refused ≡ tick_refusal m R F
unfolding tick
tick-refusal m R F = by (accepted m R F) refl
  where
    by : (b : Bool) → accepted m R F ≡ b → (tick m R F).answer.refused ≡ tick_refusal m R F
    by true e = rw e
    by false e = rw e

pub tick-refused : (m : Machine) (R F : ℕ) → accepted m R F ≡ false → after m R F ≡ m
unfolding tick
tick-refused m R F no-tick = rw (after, no-tick)

-- the parts of what an accepted tick returns
module _ (m : Machine) (R F : ℕ) (ok : accepted m R F ≡ true) where
  pub tick-moved : after m R F ≡ moved m R F
  unfolding tick
  tick-moved = rw (after, ok)

  pub tick-late : (tick m R F).answer.late ≡ late_set m (finish F (passed m))
  unfolding tick
  tick-late = rw ok

  pub tick-started : (tick m R F).answer.started ≡ started_set (readied m R F) (moved m R F)
  unfolding tick
  tick-started = rw ok

waits_of : (j : Job) → L.waits (life j) ≡ 1 → is_waiting j.stage ≡ true
waits_of j w = one-true (is_waiting j.stage) (sym (shows j).waits ∙ w)

module _ (m : Machine) (R F : ℕ) (len : length m.table.rows ≡ most_tasks) (ok : accepted m R F ≡ true) where
  abbrev t : Table
  t = m.table

  abbrev x : Machine
  x = after m R F

  abbrev S : ℕ
  S = (tick m R F).answer.started

  good-before : GoodState m
  good-before = state-good m len (accepted-is m R F ok).before.good

  ended : Ended (readied m R F) x
  ended = rw (tick-moved m R F ok) (step_5 (readied m R F) (readied-good m R F good-before (accepted-is m R F ok)))

  same-table : x.table ≡ t
  same-table = ended.reached.table ∙ readied-table m R F

  module _ (i : ℕ) (l : i < t.n) where
    after-n : i < x.table.n
    after-n = rw same-table l

    abbrev τi : Task
    τi = τ t (suc i)

    is-readied : job (readied m R F) (suc i) ≡ readied_job τi (has_task R (suc i)) (has_task F (suc i)) (job m (suc i))
    is-readied = readied-job m (suc i) (omega arith) l (omega (arith, good-before.table.sizes.few)) R F

    started-is : has_task S (suc i) ≡ starts (job (readied m R F) (suc i)) (job x (suc i))
    started-is =
        let now-n : suc i ≤ (moved m R F).table.n = rw (tick-moved m R F ok) at after-n in
        rw (tick-started m R F ok, tick-moved m R F ok)
        (tasks-has (λ k. waits (readied m R F) k && runs (moved m R F) k) (moved m R F).table.n
        (suc i) (omega arith) now-n)

    allows : Allowed (row τi) (L.rise (top τi) (life (job m (suc i)))) (has_task F (suc i))
        (has_task R (suc i)) (has_task S (suc i))
    allows =
        rw (started-is, is-readied)
        (allowed τi (has_task R (suc i)) (has_task F (suc i)) (job m (suc i)) (job x (suc i))
        (taken m R F good-before.table.sizes.few (accepted-is m R F ok) (suc i) (omega arith) l))

    moves : L.start (has_task S (suc i))
        (L.release (has_task R (suc i)) (L.finish (has_task F (suc i)) (L.rise (top τi) (life (job m (suc i))))))
        ≡ life (job x (suc i))
    moves =
        rw (started-is, is-readied)
        (lands τi (has_task R (suc i)) (has_task F (suc i)) (job m (suc i)) (job x (suc i))
        (rw is-readied at (ended.reached.jobs i after-n)))

    full : L.waits (life (job x (suc i))) ≡ 1 → FullFor t x (suc i)
    full w =
        subst (λ (u : Table). FullFor u x (suc i)) same-table
        (full_of ended.reached.good ended.stopped i after-n (waits_of (job x (suc i)) w))

  behind : (k i : ℕ) → k < t.n → i < t.n → L.waits (life (job x (suc k))) ≡ 1
      → has_task S (suc i) ≡ true → suc i < suc k
  behind k i l h w s =
      let b = both (waits (readied m R F) (suc i)) (runs x (suc i)) (sym (started-is i h) ∙ s) in
      omega (arith, ended.reached.order i k (after-n i h) (after-n k l) b.0 b.1 (waits_of (job x (suc k)) w))

  pub conduct : Conduct t m x R F S
  conduct =
      record {
        table = same-table;
        good = state-test x ended.reached.good;
        allows = each t.n _ allows;
        moves = each t.n _ moves;
        full = each t.n _ full;
        order = each t.n _ (λ k l w. each t.n _ (λ i h s. behind k i l h w s));
      }
