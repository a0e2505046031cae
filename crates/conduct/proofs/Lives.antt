-- A job and its life: what is asked of the one is asked of the other, and steps 1, 2 and 4 do the same to both.
use Prim.Native.Nat.{ℕ, ◌+◌, min}
use mathlib.Core.Path.{◌≡◌, refl, sym, ◌∙◌, ap}
use mathlib.Core.Bool.{Bool, true, false, cond, true≢false}
use native.Mathlib.Numerals.{add-one}
use native.Mathlib.Omega.{arith}
use Rattle.table.specs.declared.Task.{Task}
use Rattle.machine.specs.declared.Stage.{Stage}
use Rattle.machine.specs.declared.Job.{Job}
use Rattle.machine.specs.Jobs.{is_idle, is_waiting, is_running, top}
use Rattle.machine.specs.Steps.{older, begun}
use Rattle.machine.proofs.Jobs.{finished_job, readied_job}
use Rattle.machine.proofs.StateParts.{Staged, waiting-is, running-is}
use Rattle.lives.specs.Life.{idle, waiting, running, age, ran, idles, waits, runs, rise, finish, release, start}
use Rattle.conduct.specs.Lives.{life_in, life}

-- 1 or 0
abbrev pub one : Bool → ℕ
one b = cond b 1 0

pub one-true : (b : Bool) → one b ≡ 1 → b ≡ true
one-true true e = refl
one-true false e = absurd (omega arith)

pub record Shown (s : Stage) (a r : ℕ) : Type 0 where
  pub age : age (life_in s a r) ≡ a
  pub idles : Staged s → idles (life_in s a r) ≡ one (is_idle s)
  pub waits : waits (life_in s a r) ≡ one (is_waiting s)
  pub runs : runs (life_in s a r) ≡ one (is_running s)
  pub ran : is_running s ≡ true → ran (life_in s a r) ≡ r

shown : (s : Stage) (a r : ℕ) → Shown s a r
shown s a r = by (is_running s) (is_waiting s) refl refl
  where
    rest : (b : Bool) → is_idle s ≡ b → Staged s → is_waiting s ≡ false → is_running s ≡ false → 1 ≡ one b
    rest true i k f e = refl
    rest false i k f e = absurd (true≢false (sym (k i f) ∙ e))

    by : (run wait : Bool) → is_running s ≡ run → is_waiting s ≡ wait → Shown s a r
    by true wait e f =
        record {
          age = rw e;
          idles = λ k. rw (e, ap is_idle (running-is s e));
          waits = rw (e, ap is_waiting (running-is s e));
          runs = rw e;
          ran = λ _. rw e;
        }
    by false true e f =
        record {
          age = rw (e, f);
          idles = λ k. rw (e, f, ap is_idle (waiting-is s f));
          waits = rw (e, f);
          runs = rw (e, f);
          ran = λ h. absurd (true≢false (sym h ∙ e));
        }
    by false false e f =
        record {
          age = rw (e, f);
          idles = λ k. rw (e, f) (rest (is_idle s) refl k f e);
          waits = rw (e, f);
          runs = rw (e, f);
          ran = λ h. absurd (true≢false (sym h ∙ e));
        }

-- what a life shows of its job
pub shows : (j : Job) → Shown j.stage j.age j.ran
shows j = shown j.stage j.age j.ran

-- step 1
pub life-older : (τ : Task) (j : Job) → life (older τ j) ≡ rise (top τ) (life j)
life-older τ j = by (is_running j.stage) (is_waiting j.stage)
  where
    by : (run wait : Bool)
        → cond run (running (min (j.age + 1) (top τ)) (cond run (j.ran + 1) j.ran))
        (cond wait (waiting (min (j.age + 1) (top τ))) (idle (min (j.age + 1) (top τ))))
        ≡ rise (top τ) (cond run (running j.age j.ran) (cond wait (waiting j.age) (idle j.age)))
    by true wait = rw (add-one j.age, add-one j.ran)
    by false true = rw add-one
    by false false = rw add-one

-- step 2
pub finished-staged : (τ : Task) (f : Bool) (j : Job) → Staged j.stage → Staged (finished_job τ f j).stage
finished-staged τ true j k = λ i. absurd (true≢false i)
finished-staged τ false j k = k

pub life-finished : (τ : Task) (f : Bool) (j : Job) → life (finished_job τ f j) ≡ finish f (rise (top τ) (life j))
life-finished τ true j = rw (← life-older τ j, (shows (older τ j)).age)
life-finished τ false j = life-older τ j

-- step 4
pub life-readied : (τ : Task) (r f : Bool) (j : Job)
    → life (readied_job τ r f j) ≡ release r (finish f (rise (top τ) (life j)))
life-readied τ true f j = refl
life-readied τ false f j = life-finished τ f j

-- step 5
pub life-begun : (held : ℕ) (j : Job) → life (begun held j) ≡ start true (life j)
life-begun held j = rw (shows j).age
