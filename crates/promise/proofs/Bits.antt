-- What the report and the answer of an accepted tick say of one task: x is its life before the tick, and f, r and s are
-- whether the tick finishes, releases and starts it.
use Prim.Native.Nat.{ℕ}
use mathlib.Core.Path.{◌≡◌, refl}
use mathlib.Core.Bool.{Bool, true, false}
use native.Mathlib.Omega.{arith}
use Rattle.lives.specs.Report.{Row}
use Rattle.lives.specs.Life.{Life, idle, waiting, running, age, idles, waits, rise, finish, release, start, Allowed}

-- the life after the tick
abbrev pub led : ℕ → Life → Bool → Bool → Bool → Life
led top x f r s = start s (release r (finish f (rise top x)))

module _ (row : Row) (top : ℕ) where
  -- released: its job is of age 0
  pub comes-age : (x : Life) (f s : Bool) → age (led top x f true s) ≡ 0
  comes-age x f true = refl
  comes-age x f false = refl

  -- waiting and not started: it waits on
  pub waits-on : (x : Life) (f r : Bool) → Allowed row (rise top x) f r false → waits x ≡ 1
      → waits (led top x f r false) ≡ 1
  waits-on (idle a) f r h w = absurd (omega arith)
  waits-on (waiting a) true r h w = absurd (omega (arith, h.was_running refl))
  waits-on (waiting a) false true h w = absurd (omega (arith, h.free refl))
  waits-on (waiting a) false false h w = refl
  waits-on (running a n) f r h w = absurd (omega arith)

  -- there after the tick and not released in it: it was there before, and is not finished
  pub was : (x : Life) (f s : Bool) → Allowed row (rise top x) f false s → idles (led top x f false s) ≡ 0
      → (idles x ≡ 0) × (f ≡ false)
  was (idle a) true s h w = absurd (omega (arith, h.was_running refl))
  was (idle a) false true h w = absurd (omega (arith, h.queued refl))
  was (idle a) false false h w = absurd (omega arith)
  was (waiting a) true s h w = absurd (omega (arith, h.was_running refl))
  was (waiting a) false s h w = (refl, refl)
  was (running a n) true true h w = absurd (omega (arith, h.queued refl))
  was (running a n) true false h w = absurd (omega arith)
  was (running a n) false s h w = (refl, refl)

  -- finished: it was there
  pub finishes-there : (x : Life) (r s : Bool) → Allowed row (rise top x) true r s → idles x ≡ 0
  finishes-there (idle a) r s h = absurd (omega (arith, h.was_running refl))
  finishes-there (waiting a) r s h = refl
  finishes-there (running a n) r s h = refl

  -- unfinished after step 2: it was there, and of the same age as after step 1
  pub unfinished : (x : Life) (f : Bool) → idles (finish f (rise top x)) ≡ 0
      → (idles x ≡ 0) × (age (finish f (rise top x)) ≡ age (rise top x))
  unfinished (idle a) true w = absurd (omega arith)
  unfinished (idle a) false w = absurd (omega arith)
  unfinished (waiting a) true w = absurd (omega arith)
  unfinished (waiting a) false w = (refl, refl)
  unfinished (running a n) true w = absurd (omega arith)
  unfinished (running a n) false w = (refl, refl)
