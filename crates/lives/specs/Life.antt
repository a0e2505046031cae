-- One task alone: its life (idle, waiting or running; its age; how long its job has run), and what one accepted tick
-- may do to that life. This is "One tick" of document 01 with refusals 10 to 13, read for a single task.
use Rattle.std.specs.Prelude.{◌≡◌, ◌≢◌, Bool, true, false, cond, ℕ, suc, ◌+◌, ◌≤◌, ◌<◌, min}
use Rattle.maths.specs.Sums.{sum}
use Rattle.lives.specs.Report.{Row, slack}

-- neither 5, 6 nor 7 refuses the row
pub record Sound (row : Row) : Type 0 where
  pub some : 1 ≤ row.C
  pub fits : row.C ≤ row.D
  pub constrained : row.D ≤ row.T

-- each with its age; a running job also with the ticks that it has run
pub data Life : Type 0 where
  idle : ℕ → Life
  waiting : ℕ → Life
  running : ℕ → ℕ → Life

abbrev pub age : Life → ℕ
age (idle a) = a
age (waiting a) = a
age (running a r) = a

abbrev pub ran : Life → ℕ
ran (idle a) = 0
ran (waiting a) = 0
ran (running a r) = r

-- 1 or 0
abbrev pub idles : Life → ℕ
idles (idle a) = 1
idles (waiting a) = 0
idles (running a r) = 0

-- 1 or 0
abbrev pub waits : Life → ℕ
waits (idle a) = 0
waits (waiting a) = 1
waits (running a r) = 0

-- 1 or 0
abbrev pub runs : Life → ℕ
runs (idle a) = 0
runs (waiting a) = 0
runs (running a r) = 1

-- how many of the states x 0 .. x (w - 1) run
abbrev pub count : (ℕ → Life) → ℕ → ℕ
count x w = sum (λ e. runs (x e)) w

-- an age one tick later, held at top: T in the base
abbrev pub up : ℕ → ℕ → ℕ
up top a = min (suc a) top

-- step 1
abbrev pub rise : ℕ → Life → Life
rise top (idle a) = idle (up top a)
rise top (waiting a) = waiting (up top a)
rise top (running a r) = running (up top a) (suc r)

-- step 2
abbrev pub finish : Bool → Life → Life
finish f x = cond f (idle (age x)) x

-- step 4
abbrev pub release : Bool → Life → Life
release r x = cond r (waiting 0) x

-- step 5
abbrev pub start : Bool → Life → Life
start s x = cond s (running (age x) 0) x

-- Whether a task, of life x after step 1, may be finished, released and started by the rest of the tick.
pub record Allowed (row : Row) (x : Life) (finished released started : Bool) : Type 0 where
  -- 10 is not given
  pub was_running : finished ≡ true → runs x ≡ 1
  -- 11 is not given
  pub not_over : finished ≡ false → runs x ≡ 1 → ran x ≢ row.C
  -- 12 is not given
  pub due : released ≡ true → row.T ≤ age x
  -- 13 is not given
  pub free : released ≡ true → idles (finish finished x) ≡ 1
  -- step 5 starts waiting jobs
  pub queued : started ≡ true → waits (release released (finish finished x)) ≡ 1

-- An accepted tick takes life x to life y.
pub record Next (row : Row) (top : ℕ) (x y : Life) : Type 0 where
  pub finished : Bool
  pub released : Bool
  pub started : Bool
  pub allowed : Allowed row (rise top x) finished released started
  pub lands : start started (release released (finish finished (rise top x))) ≡ y

-- x 0 to x (w - 1) are states in a row of one life
abbrev pub InRow : Row → ℕ → (ℕ → Life) → ℕ → Type 0
InRow row top x w = (e : ℕ) → suc e < w → Next row top (x e) (x (suc e))

-- of the conditions of a state, the one that the theory needs: a running job has run C - 1 ticks at most
abbrev pub WithinC : Row → Life → Type 0
WithinC row (idle a) = Unit {0}
WithinC row (waiting a) = Unit {0}
WithinC row (running a r) = r < row.C

-- The job, if there is one, can still be started in time, or was.
abbrev pub InTime : Row → Life → Type 0
InTime row (idle a) = Unit {0}
InTime row (waiting a) = a ≤ slack row
InTime row (running a r) = a ≤ r + slack row

-- What the theorem promises of each life: a waiting job can wait another tick and be started before its slack is used
-- up; a running one was.
abbrev pub OnTime : Row → Life → Type 0
OnTime row (idle a) = Unit {0}
OnTime row (waiting a) = suc a < slack row
OnTime row (running a r) = a < r + slack row
