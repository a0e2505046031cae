-- One task on the bench, of which a tick is like any other: it is released each time that its period divides the tick,
-- and where it is, its job is finished or late.
use Prim.Native.Nat.{ℕ, zero, suc, ◌+◌, ◌*◌, ◌%◌, ◌<◌, ◌≤◌}
use mathlib.Core.Path.{◌≡◌, refl, sym, ◌∙◌, ap}
use mathlib.Core.Bool.{Bool, true, false, cond}
use mathlib.Core.Logic.{◌≢◌}
use native.Mathlib.Decide.{ℕ_discrete}
use native.Mathlib.Nat.{mod-eq_of_lt, mul-add-mod_self_right, mul-mod_left, add-mod_right, mul-le-mul}
use native.Mathlib.Omega.{arith}
use borrow.Author.Tests.{eq-eqb, eqb-true, eqb-false}
use lib.Dec.{eqb}
use Rattle.maths.proofs.Tests.{same_truth}
use Rattle.lives.specs.Report.{Row}
use Rattle.lives.specs.Life.{Sound, Life, idle, waiting, running, age, idles, waits, runs, up, rise, finish, release}
use Rattle.lives.specs.Life.{start, Allowed}
use Rattle.rehearsal.proofs.Benched.{OnBench}

-- steps 1, 2 and 5 of a life
age-finished : (T : ℕ) (f : Bool) (x : Life) → age (finish f (rise T x)) ≡ up T (age x)
age-finished T true (idle a) = refl
age-finished T true (waiting a) = refl
age-finished T true (running a r) = refl
age-finished T false (idle a) = refl
age-finished T false (waiting a) = refl
age-finished T false (running a r) = refl

-- who is finished ran
waits-finished : (T : ℕ) (f : Bool) (x : Life) → (f ≡ true → runs (rise T x) ≡ 1)
    → waits (finish f (rise T x)) ≡ waits x
waits-finished T true (idle a) h = refl
waits-finished T true (waiting a) h = absurd (omega (arith, h refl))
waits-finished T true (running a r) h = refl
waits-finished T false (idle a) h = refl
waits-finished T false (waiting a) h = refl
waits-finished T false (running a r) h = refl

unfinished : (T : ℕ) (f : Bool) (x : Life) → idles (finish f (rise T x)) ≡ 0 → idles x ≡ 0
unfinished T true x e = absurd (omega arith)
unfinished T false (idle a) e = e
unfinished T false (waiting a) e = e
unfinished T false (running a r) e = e

idles_or_not : (x : Life) → idles x ≢ 0 → idles x ≡ 1
idles_or_not (idle a) h = refl
idles_or_not (waiting a) h = absurd (h refl)
idles_or_not (running a r) h = absurd (h refl)

waits-not-idles : (x : Life) → waits x ≡ 1 → idles x ≡ 0
waits-not-idles (idle a) e = absurd (omega arith)
waits-not-idles (waiting a) e = refl
waits-not-idles (running a r) e = refl

pub idles-not-waits : (x : Life) → idles x ≡ 1 → waits x ≡ 0
idles-not-waits (idle a) e = refl
idles-not-waits (waiting a) e = absurd (omega arith)
idles-not-waits (running a r) e = refl

-- a start is of a job that waited, and counts it
starts : {i s : ℕ} {row : Row} {x : Life} (st : Bool) → OnBench i row x s → (st ≡ true → waits x ≡ 1)
    → OnBench i row (start st x) (s + cond st 1 0)
starts {i} {s} {row} {x} true h q =
    let c : (s + 1) * row.T + up row.T (age x) ≡ i + row.T = rw (q refl) at h.counts in
    record { counts = omega arith; young = λ e. h.young (waits-not-idles x (q refl)) }
starts false h q = record { counts = omega (arith, h.counts); young = h.young }

-- q periods and u ticks, at most one more period, are i ticks and one period: u is a whole period where T divides i
whole-period : (q u i T : ℕ) → 1 ≤ u → u ≤ T → q * T + u ≡ i + T → i % T ≡ 0 → u ≡ T
whole-period q u i T some most e z = by (ℕ_discrete u T)
  where
    by : Dec (u ≡ T) → u ≡ T
    by (yes d) = d
    by (no d) =
        let less : u < T = omega arith in
        let same : (q * T + u) % T ≡ (i + T) % T = ap (λ (z : ℕ). z % T) e in
        absurd (omega (arith, mul-add-mod_self_right q T u, mod-eq_of_lt less, same, add-mod_right i T))

module _ {i s : ℕ} {row : Row} {x : Life} (v : Sound row) (h : OnBench i row x s) where
  abbrev T : ℕ
  T = row.T

  -- T divides i exactly where the age comes to T
  pub due-now : eqb (i % T) 0 ≡ eqb (up T (age x)) T
  due-now =
      same_truth _ _
      (λ e. eq-eqb _ T
      (whole-period (s + waits x) (up T (age x)) i T (omega arith) (omega arith) h.counts (eqb-true (i % T) 0 e)))
      (λ e. eq-eqb _ 0 (now (eqb-true (up T (age x)) T e)))
    where
      now : up T (age x) ≡ T → i % T ≡ 0
      now e =
          let whole : (s + waits x) * T ≡ i = omega (arith, h.counts) in
          ap (λ (z : ℕ). z % T) (sym whole) ∙ mul-mod_left (s + waits x) T

  pub due-age : eqb (i % T) 0 ≡ true → up T (age x) ≡ T
  due-age e = eqb-true (up T (age x)) T (sym due-now ∙ e)

  -- a task starts no more jobs than ticks have passed
  pub started-most : s ≤ i
  started-most = by s h.counts
    where
      by : (q : ℕ) → (q + waits x) * T + up T (age x) ≡ i + T → q ≤ i
      by zero e = omega arith
      by (suc q) e =
          let few : q * 1 ≤ (q + waits x) * T = mul-le-mul (omega arith) (omega (arith, v)) in
          omega arith

  module _ (f : Bool) (calm : idles (finish f (rise T x)) ≡ 0 → suc (age x) ≢ row.D) where
    -- a job that is not late is finished where the next release is due
    pub rested : eqb (i % T) 0 ≡ true → idles (finish f (rise T x)) ≡ 1
    rested e =
        idles_or_not (finish f (rise T x)) (λ u. calm u (omega (arith, due-age e, h.young (unfinished T f x u))))

    -- and every job that was released was started
    pub all-started : (f ≡ true → runs (rise T x) ≡ 1) → eqb (i % T) 0 ≡ true → s * T ≡ i
    all-started w e =
        let none : waits (finish f (rise T x)) ≡ 0 = idles-not-waits (finish f (rise T x)) (rested e) in
        let c : (s + 0) * T + up T (age x) ≡ i + T = rw (sym (waits-finished T f x w) ∙ none) at h.counts in
        omega (arith, due-age e)

    -- step 4 of the bench
    readies : (r : Bool) → (f ≡ true → runs (rise T x) ≡ 1) → r ≡ eqb (i % T) 0
        → OnBench (suc i) row (release r (finish f (rise T x))) s
    readies true w e = record { counts = omega (arith, all-started w (sym e)); young = λ u. omega arith }
    readies false w e =
        let early : up T (age x) ≢ T = eqb-false _ T (sym due-now ∙ sym e) in
        record {
          counts = rw (waits-finished T f x w, age-finished T f x) (omega (arith, h.counts));
          young = λ u. rw (age-finished T f x) (omega (arith, calm u, h.young (unfinished T f x u)));
        }

    pub one-tick : (r st : Bool) → Allowed row (rise T x) f r st → r ≡ eqb (i % T) 0
        → OnBench (suc i) row (start st (release r (finish f (rise T x)))) (s + cond st 1 0)
    one-tick r st a e = starts st (readies r a.was_running e) a.queued
