-- The theorem, over any style: in every state of a course every job has run less than C ticks and every life is on
-- time. By induction over the ticks: a job that is not on time has waited for its whole slack, and then the test was
-- not passed.
use mathlib.Core.Path.{◌≡◌, refl, ap}
use Prim.Native.Nat.{ℕ, zero, suc, ◌+◌, ◌≤◌, ◌<◌}
use native.Mathlib.Omega.{arith}
use native.Mathlib.Nat.{add-zero, add-suc}
use native.Mathlib.Decide.{dec_le, dec_lt}
use Rattle.maths.proofs.Sums.{sum_const}
use Rattle.maths.specs.Tasks.{Each}
use Rattle.lives.specs.Report.{Row, slack}
use Rattle.lives.specs.Life.{Life, idle, waiting, running, waits, runs, WithinC, InTime, OnTime}
use Rattle.lives.specs.Style.{Problem, Style, Course}
use Rattle.lives.proofs.Steps.{Step, still-idle, released, released-started, still-waiting, started}
use Rattle.lives.proofs.Steps.{still-running, finished, finished-released, finished-released-started, step}
use Rattle.lives.proofs.Steps.{stays_within}
use Rattle.lives.proofs.Window.{runs-le}
use Rattle.lives.proofs.OnTime.{Soon, soon, soon_in_time, on_time_in_time}

module _ {n : ℕ} {rows : ℕ → Row} {top : ℕ → ℕ} {style : Style n rows top} {x : ℕ → ℕ → Life} {N : ℕ}
    (c : Course style x N) where
  -- Task k, released in tick `first`, has waited for a ticks up to state t.
  record Waited (t k a : ℕ) : Type 0 where
    first : ℕ
    lasts : suc (first + a) ≡ t
    all : (e : ℕ) → e ≤ a → x (suc (first + e)) k ≡ waiting e
    within : Each n (λ i. WithinC (rows i) (x (suc first) i))
    in_time : Each n (λ i. InTime (rows i) (x (suc first) i))

  abbrev WaitedIn : ℕ → ℕ → Life → Type 0
  WaitedIn t k (idle a) = Unit {0}
  WaitedIn t k (waiting a) = Waited t k a
  WaitedIn t k (running a r) = Unit {0}

  -- The test is not passed by a task without slack.
  some-slack : (k : ℕ) → 1 ≤ k → k ≤ n → 0 < slack (rows k)
  some-slack k p q =
      elim (dec_lt 0 (slack (rows k))) [
        | yes h ↦ h
        | no h ↦ absurd (style.passed k p q (λ e i. 0) (λ e i l m. omega arith)
            (λ i l m. omega (arith, sum_const 0 (slack (rows k)))) (λ e l. absurd (omega arith)))
      ]

  problem : {t k a : ℕ} → t ≤ N → 1 ≤ k → k ≤ n → slack (rows k) ≤ suc a → (w : Waited t k a)
      → Problem n rows top style.Starts k (λ e. x (suc (w.first + e)))
  problem {t} {k} {a} b p q s w =
      record {
        waited = λ e l. w.all e (omega arith);
        next = λ i u v e l. rw add-suc (c.next (suc (w.first + e)) (omega arith) i u v);
        starts = λ e l. c.starts (w.first + e) (omega arith) k p q (ap waits (w.all e (omega arith)));
        within = λ i u v. rw add-zero (w.within i u v);
        in_time = λ i u v. rw add-zero (w.in_time i u v);
      }

  -- A job that has waited is on time: else its window was full, and the test not passed.
  waited_on_time : {t k a : ℕ} → t ≤ N → 1 ≤ k → k ≤ n → Waited t k a → OnTime (rows k) (waiting a)
  waited_on_time {t} {k} {a} b p q w =
      elim (dec_lt (suc a) (slack (rows k))) [
        | yes h ↦ omega arith
        | no h ↦
            absurd (style.passed k p q (λ e i. runs (x (suc (w.first + e)) i))
            (λ e i u v. runs-le (x (suc (w.first + e)) i))
            (style.charged k p q (λ e. x (suc (w.first + e))) (problem b p q (omega arith) w))
            (λ e l. c.full (w.first + e) (omega arith) k p q (ap waits (w.all e (omega arith)))))
      ]

  now_on_time : {t k : ℕ} → t ≤ N → 1 ≤ k → k ≤ n → (y : Life) → Soon (rows k) y → WaitedIn t k y → OnTime (rows k) y
  now_on_time b p q (idle a) s w = tt
  now_on_time b p q (waiting a) s w = waited_on_time b p q w
  now_on_time b p q (running a r) s w = s

  just_released : {t k : ℕ} → x (suc t) k ≡ waiting 0 → Each n (λ i. WithinC (rows i) (x (suc t) i))
      → Each n (λ i. InTime (rows i) (x (suc t) i)) → Waited (suc t) k 0
  just_released {t} {k} e g i = record { first = t; lasts = omega arith; all = all; within = g; in_time = i }
    where
      all : (d : ℕ) → d ≤ 0 → x (suc (t + d)) k ≡ waiting d
      all zero l = rw add-zero e
      all (suc d) l = absurd (omega arith)

  at : (t k a : ℕ) → x (suc t) k ≡ waiting a → (s b : ℕ) → s ≡ t → b ≡ a → x (suc s) k ≡ waiting b
  at t k a e s b d f = rw (d, f) e

  waited-on : {t k a b : ℕ} → x (suc t) k ≡ waiting b → b ≡ suc a → Waited t k a → Waited (suc t) k b
  waited-on {t} {k} {a} {b} e d w =
      record { first = w.first; lasts = omega arith; all = all; within = w.within; in_time = w.in_time }
    where
      all : (f : ℕ) → f ≤ b → x (suc (w.first + f)) k ≡ waiting f
      all f l =
          elim (dec_le f a) [
            | yes h ↦ w.all f h
            | no h ↦ at t k b e (w.first + f) f (omega arith) (omega arith)
          ]

  record Invariant (t : ℕ) : Type 0 where
    within : Each n (λ i. WithinC (rows i) (x t i))
    on_time : Each n (λ i. OnTime (rows i) (x t i))
    waited : Each n (λ i. WaitedIn t i (x t i))

  waited-next : {t k : ℕ} {y z : Life} → (rows k).D ≤ top k → Each n (λ i. WithinC (rows i) (x (suc t) i))
      → Each n (λ i. InTime (rows i) (x (suc t) i))
      → Step (rows k) (top k) y z → x (suc t) k ≡ z → OnTime (rows k) y → WaitedIn t k y → WaitedIn (suc t) k z
  waited-next h g i still-idle e o w = tt
  waited-next h g i (released d) e o w = just_released e g i
  waited-next h g i (released-started d) e o w = tt
  waited-next h g i still-waiting e o w = waited-on e (omega arith) w
  waited-next h g i started e o w = tt
  waited-next h g i (still-running d) e o w = tt
  waited-next h g i finished e o w = tt
  waited-next h g i (finished-released d) e o w = just_released e g i
  waited-next h g i (finished-released-started d) e o w = tt

  next : (t : ℕ) → t < N → Invariant t → Invariant (suc t)
  next t l v = record {
    within = within;
    on_time = λ i p q. now_on_time l p q (x (suc t) i) (near i p q) (waited i p q);
    waited = waited;
  }
    where
      within : Each n (λ i. WithinC (rows i) (x (suc t) i))
      within i p q = stays_within (style.sound i p q) (v.within i p q) (c.next t l i p q)

      near : Each n (λ i. Soon (rows i) (x (suc t) i))
      near i p q = soon (some-slack i p q) (step (v.within i p q) (c.next t l i p q)) (v.on_time i p q)

      waited : Each n (λ i. WaitedIn (suc t) i (x (suc t) i))
      waited i p q =
          waited-next (omega (arith, style.sound i p q, style.held i p q)) within
          (λ j u m. soon_in_time (rows j) (x (suc t) j) (near j u m))
          (step (v.within i p q) (c.next t l i p q)) refl (v.on_time i p q) (v.waited i p q)

  invariant : (t : ℕ) → t ≤ N → Invariant t
  invariant zero l = record {
    within = λ i p q. rw (c.fresh i p q) tt;
    on_time = λ i p q. rw (c.fresh i p q) tt;
    waited = λ i p q. rw (c.fresh i p q) tt;
  }
  invariant (suc t) l = next t l (invariant t (omega arith))

  pub all-within : (t : ℕ) → t ≤ N → Each n (λ i. WithinC (rows i) (x t i))
  all-within t l i p q = (invariant t l).within i p q

  pub all_on_time : (t : ℕ) → t ≤ N → Each n (λ i. OnTime (rows i) (x t i))
  all_on_time t l i p q = (invariant t l).on_time i p q

  pub all_in_time : (t : ℕ) → t ≤ N → Each n (λ i. InTime (rows i) (x t i))
  all_in_time t l i p q = on_time_in_time (rows i) (x t i) (all_on_time t l i p q)
