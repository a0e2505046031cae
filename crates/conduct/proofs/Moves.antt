-- What an accepted tick makes of each task: steps 1, 2, 4 and 5 of its life, by what the report and the answer say of
-- it.
use mathlib.Core.Path.{◌≡◌, refl, sym, ◌∙◌}
use mathlib.Core.Bool.{Bool, true, false, ◌&&◌, true≢false}
use mathlib.Core.Logic.{◌≢◌}
use Rattle.table.specs.declared.Task.{Task}
use Rattle.table.specs.Tasks.{C}
use Rattle.machine.specs.declared.Job.{Job}
use Rattle.machine.specs.Jobs.{is_waiting, is_running, top}
use Rattle.machine.specs.Steps.{older}
use Rattle.machine.proofs.Jobs.{finished_job, readied_job}
use Rattle.machine.proofs.StateParts.{not-both}
use Rattle.lives.specs.Life.{ran, rise, finish, release, start, Allowed}
use Rattle.admission.specs.Test.{row}
use Rattle.conduct.specs.Lives.{life}
use Rattle.machine.proofs.Taken.{Taken}
use Rattle.conduct.proofs.Lives.{one-true, shows, life-older, life-finished, life-readied, life-begun}
use Rattle.conduct.proofs.Starting.{Began, stayed, began}

-- whether a job has started, from its stage before step 5 and after it
abbrev pub starts : Job → Job → Bool
starts a b = is_waiting a.stage && is_running b.stage

-- step 5
life-started : {a b : Job} → Began a b → life b ≡ start (starts a b) (life a)
life-started {a} {b} (stayed e) = rw (e, not-both a.stage)
life-started {a} {b} (began held w e) = rw (e, w) (rw w at (life-begun held a))

-- a job that is waiting before step 5 is where it starts
starts-waiting : (a b : Job) → starts a b ≡ true → is_waiting a.stage ≡ true
starts-waiting a b = by (is_waiting a.stage)
  where
    by : (w : Bool) → w && is_running b.stage ≡ true → w ≡ true
    by true e = refl
    by false e = e

module _ (τ : Task) (r f : Bool) (j : Job) (b : Job) where
  pub allowed : Taken τ r f j → Allowed (row τ) (rise (top τ) (life j)) f r (starts (readied_job τ r f j) b)
  allowed t =
      record {
        was_running = λ e. rw (← life-older τ j) ((shows (older τ j)).runs ∙ rw (t.was_running e));
        not_over =
            λ e p. over e (one-true (is_running j.stage) (sym (shows (older τ j)).runs ∙ rw (life-older τ j) p));
        due = λ e. rw (← life-older τ j, (shows (older τ j)).age) (t.due e);
        free = λ e. rw (← life-finished τ f j)
            ((shows (finished_job τ f j)).idles (λ i. absurd (true≢false (sym (t.free e) ∙ i))) ∙ rw (t.free e));
        queued = λ e. rw (← life-readied τ r f j)
            ((shows (readied_job τ r f j)).waits ∙ rw (starts-waiting (readied_job τ r f j) b e));
      }
    where
      over : f ≡ false → is_running j.stage ≡ true → ran (rise (top τ) (life j)) ≢ C τ
      over e p = rw (← life-older τ j, (shows (older τ j)).ran p) (t.not_over p e)

  pub lands : Began (readied_job τ r f j) b
      → start (starts (readied_job τ r f j) b) (release r (finish f (rise (top τ) (life j)))) ≡ life b
  lands s = rw (← life-readied τ r f j) (sym (life-started s))
