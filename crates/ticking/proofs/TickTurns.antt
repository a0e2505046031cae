-- Laws for the functions that a tick's passes call for one task.
use Prim.Native.Nat.{ℕ, suc, ◌+◌, ◌/◌, ◌^◌, ◌<◌, ◌≤◌, min}
use mathlib.Core.Path.{◌≡◌, refl, sym, ◌∙◌, ap}
use mathlib.Core.Bool.{Bool, true, false, cond, ◌&&◌, and_assoc, and-false}
use native.Mathlib.Nat.{div-eq_of_lt, div-lt_iff_lt-mul, mod-eq_of_lt, lt_of_lt_of_le}
use native.Mathlib.Omega.{arith}
use native.Mathlib.Decide.{ℕ_discrete, dec_lt, dec_le}
use borrow.Author.Tests.{eq-eqb, ne_eqb, eqb-true, lt-ltb, le-ltb}
use lib.Bits.{bit_and, bit_or, or_zero_l, or_zero_r, or_add_and, and_le_r, and_mask}
use lib.Dec.{ltb, eqb}
use lib.Pow.{pow_pos, pow_mono}
use Rattle.maths.proofs.Tests.{both}
use Rattle.table.specs.declared.Task.{Task}
use Rattle.table.specs.Good.{GoodRow}
use Rattle.table.specs.Limits.{longest_period}
use Rattle.table.specs.Tasks.{τ, D, T, C, A}
use Rattle.table.specs.Refused.{row_refusal}
use Rattle.sets.specs.Sets.{below, without}
use Rattle.table.proofs.Good.{good-row}
use Rattle.machine.specs.declared.Stage.{Stage}
use Rattle.machine.specs.declared.Job.{Job}
use Rattle.ticking.specs.declared.Busy.{Busy}
use Rattle.ticking.specs.declared.Look.{Look}
use Rattle.machine.specs.declared.Machine.{Machine}
use Rattle.ticking.specs.declared.Past.{Past}
use Rattle.machine.specs.Jobs.{is_idle, is_running, job}
use Rattle.machine.specs.Conditions.{is_no_task, is_no_job, good_job}
use Rattle.machine.specs.Code.Readied.{finished_job}
use Rattle.ticking.specs.Code.Passes.{InPeriod, or_task, or_job, past_with, past_none, admits, busy_and}
use Rattle.machine.proofs.StateParts.{ByStage, is-idle, is-waiting, is-running, GoodJob, GoodState}
use Rattle.machine.proofs.StateParts.{when_not_running}
use Rattle.machine.proofs.StateTest.{job_good}

pub one-le : (b : Bool) → cond b 1 0 ≤ 1
one-le true = omega arith
one-le false = omega arith

pub ran_on : (b : Bool) (x : ℕ) → x + cond b 1 0 ≡ cond b (x + 1) x
ran_on true x = refl
ran_on false x = omega arith

-- what is put to a count and a set where the job is not finished
pub add_kept : (f : Bool) (b : Busy) (j : Job)
    → (cond f b (busy_and b j)).cores.0 ≡ b.cores.0 + cond f 0 (cond (is_running j.stage) 1 0)
add_kept true b j = omega arith
add_kept false b j = refl

pub or_kept : (f : Bool) (b : Busy) (j : Job)
    → (cond f b (busy_and b j)).held ≡ bit_or b.held (cond f 0 j.held)
or_kept true b j = sym (or_zero_r b.held)
or_kept false b j = refl

-- a union is empty where both are
pub or_none : (x y : ℕ) → eqb (bit_or x y) 0 ≡ (eqb x 0 && eqb y 0)
or_none x y =
    elim (ℕ_discrete x 0) [
      | yes e ↦ rw (e, or_zero_l y)
      | no h ↦ rw (ne_eqb x 0 h, ne_eqb (bit_or x y) 0 (λ z. h (omega (arith, or_add_and x y, and_le_r x y))))
    ]

-- nothing stands from place n on
pub none_from : (x n : ℕ) → eqb (x / 2 ^ n) 0 ≡ ltb x (2 ^ n)
none_from x n =
    elim (dec_lt x (2 ^ n)) [
      | yes l ↦ rw (lt-ltb x (2 ^ n) l, div-eq_of_lt l)
      | no h ↦
          rw (le-ltb x (2 ^ n) (omega arith))
          (ne_eqb (x / 2 ^ n) 0
          (λ z. h (omega (arith, (div-lt_iff_lt-mul {k = 2 ^ n} {x = x} {y = 1} (pow_pos n)).0 (omega arith)))))
    ]

lt_below : (x p : ℕ) → x < 2 ^ p → without x (below p) ≡ 0
lt_below x p h = rw (and_mask x p, mod-eq_of_lt h) (omega arith)

-- a set of 64 partitions at most is within every cache of 64 or more
pub below-wide : (x p : ℕ) → x < 2 ^ 64 → without x (below (min p 64)) ≡ without x (below p)
below-wide x p h =
    elim (dec_le p 64) [
      | yes l ↦ let e : min p 64 ≡ p = omega arith in rw e
      | no l ↦
          let e : min p 64 ≡ 64 = omega arith in
          rw (e, lt_below x 64 h, lt_below x p (lt_of_lt_of_le h (pow_mono {i = 64} (omega arith))))
    ]

-- the marks of an entry
pub marks_none : (τ : Task) (j : Job)
    → eqb (bit_or (bit_or (bit_or (bit_or (bit_or (D τ) (T τ)) (C τ)) (A τ)) (bit_or (bit_or j.stage.0 j.age) j.ran))
    j.held) 0
    ≡ (is_no_task τ && is_no_job j)
marks_none τ j =
    simp or_none (and_assoc (is_no_task τ) (is_idle j.stage && eqb j.age 0 && eqb j.ran 0) (eqb j.held 0))

-- entries put together are zero where each is
merge : (a b c d : Bool) → (a && b) && (c && d) ≡ (a && c) && (b && d)
merge true true c d = refl
merge true false c d = sym (and-false c)
merge false b c d = refl

four : (a a' b b' c c' d d' : Bool)
    → (a && a') && (b && b') && (c && c') && (d && d') ≡ (a && b && c && d) && (a' && b' && c' && d')
four a a' b b' c c' d d' =
    ap (λ (x : Bool). x && (c && c') && (d && d')) (merge a a' b b')
    ∙ (ap (λ (x : Bool). x && (d && d')) (merge (a && b) (a' && b') c c')
    ∙ merge (a && b && c) (a' && b' && c') d d')

task_or : (a b : Task) → is_no_task (or_task a b) ≡ (is_no_task a && is_no_task b)
task_or a b =
    rw (or_none (D a) (D b), or_none (T a) (T b), or_none (C a) (C b), or_none (A a) (A b))
    (four (eqb (D a) 0) (eqb (D b) 0) (eqb (T a) 0) (eqb (T b) 0) (eqb (C a) 0) (eqb (C b) 0)
    (eqb (A a) 0) (eqb (A b) 0))

job_or : (a b : Job) → is_no_job (or_job a b) ≡ (is_no_job a && is_no_job b)
job_or a b =
    rw (
      or_none a.stage.0 b.stage.0,
      or_none a.age b.age,
      or_none a.ran b.ran,
      or_none a.held b.held,
    )
    (four (is_idle a.stage) (is_idle b.stage) (eqb a.age 0) (eqb b.age 0) (eqb a.ran 0) (eqb b.ran 0)
    (eqb a.held 0) (eqb b.held 0))

pub past_more : (τ : Task) (j : Job) (p : Past) → past_none (past_with τ j p)
    ≡ (past_none p && (is_no_task τ && is_no_job j))
past_more τ j p =
    ap (λ (x : Bool). x && is_no_job (or_job p.job j)) (task_or p.row τ)
    ∙ (ap (λ (x : Bool). (is_no_task p.row && is_no_task τ) && x) (job_or p.job j)
    ∙ merge (is_no_task p.row) (is_no_task τ) (is_no_job p.job) (is_no_job j))

-- a good job's numbers are small
ran_of : {p : ℕ} (τ : Task) (j : Job) → GoodRow p τ → (s : Stage) → ByStage p τ j s → j.ran ≤ longest_period
ran_of τ j r s (is-idle q g) = omega arith
ran_of τ j r s (is-waiting q g) = omega arith
ran_of τ j r s (is-running q g) = omega arith

in_period : {p : ℕ} (τ : Task) (j : Job) → GoodRow p τ → GoodJob p τ j → InPeriod τ j
in_period τ j r g = (omega (arith, g.age), ran_of τ j r j.stage g.stage, r.deadline)

-- what is asked of a task that the first pass admits
pub record Admitted (p : ℕ) (τ : Task) (j : Job) (l : Look) : Type 0 where
  pub row : row_refusal p τ ≡ 0
  pub good : good_job p τ j ≡ true
  pub apart : bit_and l.running.held j.held ≡ 0

module _ (p : ℕ) (τ : Task) (j : Job) (l : Look) where
  pub admitted : admits p τ j l ≡ true → Admitted p τ j l
  admitted e =
      let all = both (eqb (row_refusal p τ) 0 && good_job p τ j) _ e in
      let one = both (eqb (row_refusal p τ) 0) _ all.0 in
      record { row = eqb-true _ _ one.0; good = one.1; apart = eqb-true _ _ all.1 }

  pub admits-test : Admitted p τ j l → admits p τ j l ≡ true
  admits-test a = rw (
    eq-eqb (row_refusal p τ) 0 a.row,
    a.good,
    eq-eqb (bit_and l.running.held j.held) 0 a.apart,
  )

  module _ (a : Admitted p τ j l) where
    pub admitted-period : InPeriod τ j
    admitted-period = in_period τ j (good-row p τ a.row) (job_good p τ j a.good)

    pub admitted-none : is_running j.stage ≡ false → j.held ≡ 0
    admitted-none n = (when_not_running (job_good p τ j a.good) n).none

-- an age that rises by 1, held at t, is d where it rose to d, if d is not above t
pub rose : (a d t : ℕ) → d ≤ t → eqb (a + 1) d ≡ (eqb (a + 1) d && eqb (min (a + 1) t) d)
rose a d t l = by (eqb (a + 1) d) refl
  where
    by : (b : Bool) → eqb (a + 1) d ≡ b → b ≡ (b && eqb (min (a + 1) t) d)
    by true e = let is : a + 1 ≡ d = eqb-true (a + 1) d e in sym (eq-eqb (min (a + 1) t) d (omega arith))
    by false e = refl

pub finished-age : (τ : Task) (finished : Bool) (j : Job) → (finished_job τ finished j).age ≡ min (j.age + 1) (T τ)
finished-age τ true j = refl
finished-age τ false j = refl

pub good-period : {m : Machine} → GoodState m → (i : ℕ) → i < m.table.n
    → InPeriod (τ m.table (suc i)) (job m (suc i))
good-period {m} g i l = in_period (τ m.table (suc i)) (job m (suc i)) (g.table.row i l) (g.each i l)
