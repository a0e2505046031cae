-- The times of one life on the bench. They lie at this tick or after it, what happens at this tick is read from them,
-- and a tick that brings nothing changes none of them.
use Prim.Native.Nat.{ℕ, suc, ◌+◌, ◌-◌, ◌*◌, ◌/◌, ◌%◌, ◌≤◌, ◌<◌, ◌∣◌}
use mathlib.Core.Path.{◌≡◌, refl, sym, ◌∙◌}
use mathlib.Core.Bool.{Bool, false}
use native.Mathlib.Nat.{mul-le-mul_right, div-mul_cancel}
use native.Mathlib.Decide.{dec_le}
use native.Mathlib.Omega.{arith}
use borrow.Author.Tests.{eqb-true, eq-eqb, ne_eqb}
use lib.Dec.{eqb}
use Rattle.maths.proofs.Tests.{same_truth}
use Rattle.lives.specs.Report.{Row}
use Rattle.lives.specs.Life.{Sound, Life, idle, waiting, running, age, waits, up, rise, WithinC}
use Rattle.rehearsal.proofs.Benched.{OnBench}
use Rattle.rehearsal.proofs.OnBench.{due-now}
use Rattle.rehearsal.proofs.Times.{never, Times, times_of, NothingBefore}

-- with this tick the job has run C
abbrev pub is_over : Row → Life → Bool
is_over row (idle a) = false
is_over row (waiting a) = false
is_over row (running a r) = eqb (suc r) row.C

-- with this tick the job, if it is unfinished, is as old as its deadline
abbrev pub is_late : Row → Life → Bool
is_late row (idle a) = false
is_late row (waiting a) = eqb (suc a) row.D
is_late row (running a r) = eqb (suc a) row.D

-- what grows by 1 each tick and with this one comes to u is at its limit at this tick exactly where u is the limit
at-limit : (i u limit : ℕ) → u ≤ limit → eqb (i + limit - u) i ≡ eqb u limit
at-limit i u limit l =
    same_truth _ _ (λ e. eq-eqb u limit (omega (arith, eqb-true (i + limit - u) i e)))
    (λ e. eq-eqb (i + limit - u) i (omega (arith, eqb-true u limit e)))

same-times : {a b : Times} → a.due ≡ b.due → a.late ≡ b.late → a.ends ≡ b.ends → a ≡ b
same-times d l e = λ j. record { due = d j; late = l j; ends = e j }

module _ (i : ℕ) (row : Row) where
  due-is : (x : Life) → (times_of i row x).due ≡ i + row.T - up row.T (age x)
  due-is (idle a) = refl
  due-is (waiting a) = refl
  due-is (running a r) = refl

  pub due-from : (x : Life) → i ≤ (times_of i row x).due
  due-from x = rw (due-is x) (omega arith)

  -- a tick that brings nothing
  pub still-times : (x : Life) → NothingBefore (suc i) (times_of i row x)
      → times_of (suc i) row (rise row.T x) ≡ times_of i row x
  still-times (idle a) n = same-times (omega arith) refl refl
  still-times (waiting a) n = same-times (omega arith) (omega arith) refl
  still-times (running a r) n = same-times (omega arith) (omega arith) (omega arith)

  pub still-over : (x : Life) → NothingBefore (suc i) (times_of i row x) → is_over row x ≡ false
  still-over (idle a) n = refl
  still-over (waiting a) n = refl
  still-over (running a r) n = ne_eqb (suc r) row.C (omega arith)

  pub still-late : (x : Life) → NothingBefore (suc i) (times_of i row x) → is_late row x ≡ false
  still-late (idle a) n = refl
  still-late (waiting a) n = ne_eqb (suc a) row.D (omega arith)
  still-late (running a r) n = ne_eqb (suc a) row.D (omega arith)

  -- what is read at a tick of a rehearsal
  pub over-read : i < never → (x : Life) → WithinC row x → eqb (times_of i row x).ends i ≡ is_over row x
  over-read l (idle a) w = ne_eqb never i (omega arith)
  over-read l (waiting a) w = ne_eqb never i (omega arith)
  over-read l (running a r) w = at-limit i (suc r) row.C w

  pub ends-from : i < never → (x : Life) → WithinC row x → i ≤ (times_of i row x).ends
  ends-from l (idle a) w = omega arith
  ends-from l (waiting a) w = omega arith
  ends-from l (running a r) w = omega arith

  module _ {s : ℕ} (l : i < never) where
    pub late-read : (x : Life) → OnBench i row x s → eqb (times_of i row x).late i ≡ is_late row x
    late-read (idle a) b = ne_eqb never i (omega arith)
    late-read (waiting a) b = at-limit i (suc a) row.D (b.young refl)
    late-read (running a r) b = at-limit i (suc a) row.D (b.young refl)

    pub late-from : (x : Life) → OnBench i row x s → i ≤ (times_of i row x).late
    late-from (idle a) b = omega arith
    late-from (waiting a) b = omega (arith, b.young refl)
    late-from (running a r) b = omega (arith, b.young refl)

module _ {i : ℕ} {row : Row} {x : Life} {s : ℕ} (sound : Sound row) (b : OnBench i row x s) where
  -- the next release is the next multiple of the period
  due-counts : (times_of i row x).due ≡ (s + waits x) * row.T
  due-counts = rw (due-is i row x) (omega (arith, b.counts))

  pub due-within : (L : ℕ) → row.T ∣ L → i ≤ L → (times_of i row x).due ≤ L
  due-within L d l = rw due-counts (by (dec_le (s + waits x) (L / row.T)))
    where
      whole : L / row.T * row.T ≡ L
      whole = div-mul_cancel row.T d

      by : Dec (s + waits x ≤ L / row.T) → (s + waits x) * row.T ≤ L
      by (yes h) = omega (arith, mul-le-mul_right row.T h, whole)
      by (no h) =
          let more : suc (L / row.T) ≤ s + waits x = omega arith in
          absurd (omega (arith, mul-le-mul_right row.T more, whole, b.counts, sound))

  pub due-read : eqb (times_of i row x).due i ≡ eqb (i % row.T) 0
  due-read = rw (due-is i row x) (at-limit i (up row.T (age x)) row.T (omega arith) ∙ sym (due-now sound b))

pub still-bench : {i : ℕ} {row : Row} {s : ℕ} (x : Life) → OnBench i row x s → NothingBefore (suc i) (times_of i row x)
    → OnBench (suc i) row (rise row.T x) s
still-bench (idle a) b n = omega arith
still-bench (waiting a) b n = omega arith
still-bench (running a r) b n = omega arith
