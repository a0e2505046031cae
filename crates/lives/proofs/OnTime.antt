-- What follows for one life from being on time, with no other task in sight: it stays in time, its job is never late,
-- and no release finds it unfinished.
use mathlib.Core.Path.{◌≡◌, refl}
use mathlib.Core.Bool.{Bool, true, false}
use Prim.Native.Nat.{ℕ, suc, ◌+◌, ◌≤◌, ◌<◌}
use native.Mathlib.Omega.{arith}
use Rattle.lives.specs.Report.{Row, slack}
use Rattle.lives.specs.Life.{Sound, Life, idle, waiting, running, age, ran, idles, waits, runs, rise, finish}
use Rattle.lives.specs.Life.{WithinC, InTime, OnTime}
use Rattle.lives.proofs.Steps.{Step, still-idle, released, released-started, still-waiting, started}
use Rattle.lives.proofs.Steps.{still-running, finished, finished-released, finished-released-started}

-- On time, but that a waiting job may be about to use up its slack.
abbrev pub Soon : Row → Life → Type 0
Soon row (idle a) = Unit {0}
Soon row (waiting a) = a < slack row
Soon row (running a r) = a < r + slack row

-- A job that is on time stays so for a tick, whatever the tick does, unless it waits on.
pub soon : {row : Row} {top : ℕ} {x y : Life} → 0 < slack row → Step row top x y → OnTime row x → Soon row y
soon p still-idle o = tt
soon p (released e) o = p
soon p (released-started e) o = omega arith
soon p still-waiting o = omega arith
soon p started o = omega arith
soon p (still-running l) o = omega arith
soon p finished o = tt
soon p (finished-released e) o = p
soon p (finished-released-started e) o = omega arith

pub soon_in_time : (row : Row) (y : Life) → Soon row y → InTime row y
soon_in_time row (idle a) o = tt
soon_in_time row (waiting a) o = omega arith
soon_in_time row (running a r) o = omega arith

pub on_time_in_time : (row : Row) (y : Life) → OnTime row y → InTime row y
on_time_in_time row (idle a) o = tt
on_time_in_time row (waiting a) o = omega arith
on_time_in_time row (running a r) o = omega arith

-- A job that still waits can wait a tick more.
pub waiting-age : (row : Row) (y : Life) → OnTime row y → waits y ≡ 1 → suc (age y) < slack row
waiting-age row (idle a) o w = absurd (omega arith)
waiting-age row (waiting a) o w = omega arith
waiting-age row (running a r) o w = absurd (omega arith)

pub running-age : (row : Row) (y : Life) → OnTime row y → runs y ≡ 1 → age y < ran y + slack row
running-age row (idle a) o w = absurd (omega arith)
running-age row (waiting a) o w = absurd (omega arith)
running-age row (running a r) o w = omega arith

-- A job that was started in the tick before has waited less than its slack.
pub started-age : (row : Row) (y : Life) → OnTime row y → runs y ≡ 1 → ran y ≡ 0 → age y < slack row
started-age row y o w z = omega (arith, running-age row y o w)

-- An unfinished job has a tick left to its deadline.
pub young : (row : Row) (y : Life) → Sound row → WithinC row y → OnTime row y → idles y ≡ 0 → suc (age y) < row.D
young row (idle a) v g o w = absurd (omega arith)
young row (waiting a) v g o w = omega arith
young row (running a r) v g o w = omega arith

rise-le : (top : ℕ) (x : Life) → age (rise top x) ≤ suc (age x)
rise-le top (idle a) = omega arith
rise-le top (waiting a) = omega arith
rise-le top (running a r) = omega arith

module _ (row : Row) (top : ℕ) (v : Sound row) where
  -- So the next tick does not make it late, whether it finishes in that tick or not.
  pub not_late_lem : (x : Life) → WithinC row x → OnTime row x → idles x ≡ 0 → age (rise top x) < row.D
  not_late_lem x g o w = omega (arith, young row x v g o w, rise-le top x)

  -- A task of which step 1 makes the age T or more has no unfinished job: refusal 12 or 11 is given before 13.
  pub never_13 : (x : Life) (f : Bool) → WithinC row x → OnTime row x → row.T ≤ age (rise top x)
      → idles (finish f (rise top x)) ≡ 1
  never_13 (idle a) false g o l = refl
  never_13 (idle a) true g o l = refl
  never_13 (waiting a) f g o l = absurd (omega arith)
  never_13 (running a r) f g o l = absurd (omega arith)

  -- From one state with a job to the next, the age counts the tick: the hold never bites, and the job is the same.
  pub counts : {x y : Life} → row.T ≤ top → Step row top x y → WithinC row x → OnTime row x → idles x ≡ 0
      → idles y ≡ 0 → age y ≡ suc (age x)
  counts h still-idle g o p q = absurd (omega arith)
  counts h (released e) g o p q = absurd (omega arith)
  counts h (released-started e) g o p q = absurd (omega arith)
  counts h still-waiting g o p q = omega arith
  counts h started g o p q = omega arith
  counts h (still-running l) g o p q = omega arith
  counts h finished g o p q = absurd (omega arith)
  counts h (finished-released e) g o p q = absurd (omega arith)
  counts h (finished-released-started e) g o p q = absurd (omega arith)
