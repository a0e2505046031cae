-- One tick, by cases: its nine outcomes for a task, what the window bounds need of each, and that a job that has run
-- less than C ticks stays so.
use mathlib.Core.Path.{◌≡◌, refl, subst}
use mathlib.Core.Bool.{Bool, true, false}
use Prim.Native.Nat.{ℕ, suc, ◌+◌, ◌-◌, ◌≤◌, ◌<◌, min}
use native.Mathlib.Omega.{arith}
use Rattle.lives.specs.Report.{Row}
use Rattle.lives.specs.Life.{Sound, Life, idle, waiting, running, age, runs, up, rise, finish, release, start}
use Rattle.lives.specs.Life.{Allowed, Next, WithinC}

-- The nine outcomes.
pub data Step (row : Row) (top : ℕ) : Life → Life → Type 0 where
  still-idle : {a : ℕ} → Step row top (idle a) (idle (up top a))
  released : {a : ℕ} → row.T ≤ up top a → Step row top (idle a) (waiting 0)
  released-started : {a : ℕ} → row.T ≤ up top a → Step row top (idle a) (running 0 0)
  still-waiting : {a : ℕ} → Step row top (waiting a) (waiting (up top a))
  started : {a : ℕ} → Step row top (waiting a) (running (up top a) 0)
  still-running : {a r : ℕ} → suc r < row.C → Step row top (running a r) (running (up top a) (suc r))
  finished : {a r : ℕ} → Step row top (running a r) (idle (up top a))
  finished-released : {a r : ℕ} → row.T ≤ up top a → Step row top (running a r) (waiting 0)
  finished-released-started : {a r : ℕ} → row.T ≤ up top a → Step row top (running a r) (running 0 0)

by_bits : (row : Row) (top : ℕ) (x : Life) (f r s : Bool) → WithinC row x → Allowed row (rise top x) f r s
    → Step row top x (start s (release r (finish f (rise top x))))
by_bits row top (idle a) true r s g h = absurd (omega (arith, h.was_running refl))
by_bits row top (idle a) false false false g h = still-idle
by_bits row top (idle a) false false true g h = absurd (omega (arith, h.queued refl))
by_bits row top (idle a) false true false g h = released {a = a} (omega (arith, h.due refl))
by_bits row top (idle a) false true true g h = released-started {a = a} (omega (arith, h.due refl))
by_bits row top (waiting a) true r s g h = absurd (omega (arith, h.was_running refl))
by_bits row top (waiting a) false true s g h = absurd (omega (arith, h.free refl))
by_bits row top (waiting a) false false false g h = still-waiting
by_bits row top (waiting a) false false true g h = started
by_bits row top (running a n) false true s g h = absurd (omega (arith, h.free refl))
by_bits row top (running a n) false false true g h = absurd (omega (arith, h.queued refl))
by_bits row top (running a n) false false false g h = still-running {r = n} (omega (arith, h.not_over refl refl))
by_bits row top (running a n) true false true g h = absurd (omega (arith, h.queued refl))
by_bits row top (running a n) true false false g h = finished
by_bits row top (running a n) true true false g h = finished-released {a = a} (omega (arith, h.due refl))
by_bits row top (running a n) true true true g h = finished-released-started {a = a} (omega (arith, h.due refl))

pub step : {row : Row} {top : ℕ} {x y : Life} → WithinC row x → Next row top x y → Step row top x y
step {row} {top} {x} {y} g h =
    subst (Step row top x) h.lands (by_bits row top x h.finished h.released h.started g h.allowed)

-- The ticks that the job can still run after this state.
abbrev pub rest : Row → Life → ℕ
rest row (idle a) = 0
rest row (waiting a) = row.C
rest row (running a r) = row.C - suc r

-- The age, as far as it matters for the next release.
abbrev pub aged : Row → Life → ℕ
aged row x = min (age x) row.T

-- All that the window bounds need of a tick: without a release no work is added; with one C is, and T ticks have passed
-- since the last release.
pub data Facts (row : Row) (x y : Life) : Type 0 where
  same : runs y + rest row y ≤ rest row x → aged row y ≤ suc (aged row x) → Facts row x y
  new : runs y + rest row y ≤ rest row x + row.C → age y ≡ 0 → row.T ≤ suc (aged row x) → Facts row x y

pub facts : {row : Row} {top : ℕ} {x y : Life} → Sound row → Step row top x y → Facts row x y
facts v still-idle = same (omega arith) (omega arith)
facts v (released e) = new (omega arith) (omega arith) (omega arith)
facts v (released-started e) = new (omega arith) (omega arith) (omega arith)
facts v still-waiting = same (omega arith) (omega arith)
facts v started = same (omega arith) (omega arith)
facts v (still-running l) = same (omega arith) (omega arith)
facts v finished = same (omega arith) (omega arith)
facts v (finished-released e) = new (omega arith) (omega arith) (omega arith)
facts v (finished-released-started e) = new (omega arith) (omega arith) (omega arith)

within : {row : Row} {top : ℕ} {x y : Life} → Sound row → Step row top x y → WithinC row y
within v still-idle = tt
within v (released e) = tt
within v (released-started e) = omega arith
within v still-waiting = tt
within v started = omega arith
within v (still-running l) = l
within v finished = tt
within v (finished-released e) = tt
within v (finished-released-started e) = omega arith

pub stays_within : {row : Row} {top : ℕ} {x y : Life} → Sound row → WithinC row x → Next row top x y → WithinC row y
stays_within v g h = within v (step g h)
