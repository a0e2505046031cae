-- A lane is a life on the bench, by the ticks to come: what the code reads of it and makes of it, the rehearsal reads
-- and makes of the life.
use Prim.Native.Nat.{ℕ, suc, ◌+◌, ◌-◌, ◌%◌, ◌≤◌, ◌<◌}
use mathlib.Core.Path.{◌≡◌, refl, sym, ◌∙◌}
use mathlib.Core.Bool.{Bool, true, false, cond}
use mathlib.Core.Logic.{◌≢◌}
use native.Mathlib.Omega.{arith}
use borrow.Author.Tests.{eqb-false, ne_eqb}
use lib.Dec.{eqb}
use Rattle.table.specs.declared.Task.{Task}
use Rattle.table.specs.Tasks.{T}
use Rattle.admission.specs.Test.{row}
use Rattle.lives.specs.Report.{Row}
use Rattle.lives.specs.Life.{Sound, Life, idle, waiting, running, age, idles, waits, up, rise, finish, release, start}
use Rattle.lives.specs.Life.{WithinC}
use Rattle.rehearsal.proofs.Benched.{OnBench}
use Rattle.rehearsal.proofs.OnBench.{due-now, rested}
use Rattle.rehearsal.proofs.Times.{never, times_of, NothingBefore}
use Rattle.rehearsal.proofs.TimesLaws.{is_over, over-read, due-read}
use Rattle.rehearsing.specs.declared.lanes.Lane.{Lane}
use Rattle.rehearsing.specs.Code.Lanes.{first_lane, lane_waits, settled_lane, begun_lane, next_of}
use Rattle.rehearsing.specs.Code.Events.{lane_of}

same-lane : {a b : Lane} → a.due ≡ b.due → a.late ≡ b.late → a.ends ≡ b.ends → a.started ≡ b.started → a ≡ b
same-lane d l e s = λ j. record { due = d j; late = l j; ends = e j; started = s j }

-- a fresh machine's tasks idle with age T
pub lane_first : (row : Row) → first_lane ≡ lane_of 0 row (idle row.T) 0
lane_first row = same-lane (omega arith) refl refl refl

module _ (i : ℕ) (row : Row) (s : ℕ) where
  -- the first tick that brings something
  pub next-nothing : {t : ℕ} (x : Life) → t ≤ next_of (lane_of i row x s) → NothingBefore t (times_of i row x)
  next-nothing x l = omega arith

  pub nothing-next : {t : ℕ} (x : Life) → NothingBefore t (times_of i row x) → t ≤ next_of (lane_of i row x s)
  nothing-next x n = omega arith

  -- no tick of a job that is there is as late as `never`
  pub lane-waits : i + row.D < never → row.C ≤ row.D → (x : Life)
      → lane_waits (lane_of i row x s) ≡ eqb (waits x) 1
  lane-waits l c (idle a) = refl
  lane-waits l c (waiting a) = rw (ne_eqb (i + row.D - suc a) never (omega arith))
  lane-waits l c (running a r) =
      rw (ne_eqb (i + row.D - suc a) never (omega arith), ne_eqb (i + row.C - suc r) never (omega arith))

-- step 5 of tick i
pub lane-begun : (i s : ℕ) (τ : Task) (x : Life) → waits x ≡ 1
    → begun_lane i τ (lane_of (suc i) (row τ) x s) ≡ lane_of (suc i) (row τ) (start true x) (s + 1)
lane-begun i s τ (idle a) e = absurd (omega arith)
lane-begun i s τ (waiting a) e = same-lane refl refl (omega arith) refl
lane-begun i s τ (running a r) e = absurd (omega arith)

-- steps 2 and 4 of tick i, of a life that is finished where f holds and released where r does
module _ (i s : ℕ) (row : Row) where
  -- whoever is released has no job left
  ends-rested : (f : Bool) (x : Life) → idles (finish f (rise row.T x)) ≡ 1
      → cond f never (times_of i row x).ends ≡ never
  ends-rested true x e = refl
  ends-rested false (idle a) e = refl
  ends-rested false (waiting a) e = refl
  ends-rested false (running a q) e = absurd (omega arith)

  abbrev left : Bool → Life → Lane
  left f x =
      record {
        due = (times_of i row x).due;
        late = cond f never (times_of i row x).late;
        ends = cond f never (times_of i row x).ends;
        started = s;
      }

  -- before its next release an age is below T
  unreleased : (f : Bool) (x : Life) → up row.T (age x) ≢ row.T
      → left f x ≡ lane_of (suc i) row (finish f (rise row.T x)) s
  unreleased true (idle a) e = same-lane (omega arith) refl refl refl
  unreleased true (waiting a) e = same-lane (omega arith) refl refl refl
  unreleased true (running a q) e = same-lane (omega arith) refl refl refl
  unreleased false (idle a) e = same-lane (omega arith) refl refl refl
  unreleased false (waiting a) e = same-lane (omega arith) (omega arith) refl refl
  unreleased false (running a q) e = same-lane (omega arith) (omega arith) (omega arith) refl

module _ {i s : ℕ} {τ : Task} (v : Sound (row τ)) (l : i < never) (x : Life) (w : WithinC (row τ) x)
    (b : OnBench i (row τ) x s) where
  -- nobody is late
  pub lane_settled : (f r : Bool) → f ≡ is_over (row τ) x → r ≡ eqb (i % T τ) 0
      → (idles (finish f (rise (T τ) x)) ≡ 0 → suc (age x) ≢ (row τ).D)
      → settled_lane i τ (lane_of i (row τ) x s) ≡ lane_of (suc i) (row τ) (release r (finish f (rise (T τ) x))) s
  lane_settled f true e d calm =
      rw (over-read i (row τ) l x w ∙ sym e, due-read v b ∙ sym d)
      (same-lane (omega (arith, v)) (omega arith) (ends-rested i s (row τ) f x (rested v b f calm (sym d))) refl)
  lane_settled f false e d calm =
      rw (over-read i (row τ) l x w ∙ sym e, due-read v b ∙ sym d)
      (unreleased i s (row τ) f x (eqb-false _ (T τ) (sym (due-now v b) ∙ sym d)))
