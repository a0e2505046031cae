-- Point 1: a job waits, and is started after, fewer ticks than its slack.
use Prim.Native.Nat.{ℕ, zero, suc, ◌+◌, ◌-◌, ◌<◌, ◌≤◌}
use mathlib.Core.Path.{◌≡◌, refl, sym, ◌∙◌, ap, subst}
use mathlib.Core.Bool.{true, false}
use mathlib.Core.List.{List}
use native.Mathlib.Decide.{ℕ_discrete}
use native.Mathlib.Omega.{arith}
use Rattle.table.specs.declared.Table.{Table}
use Rattle.admission.specs.Test.{rows}
use Rattle.lives.specs.Life.{Life, age, ran, idles, waits, runs}
use Rattle.lives.specs.Style.{Unfinished}
use Rattle.lives.proofs.Ages.{waits-below-slack, runs-below-slack}
use Rattle.promise.specs.Sequences.{Report, Sequence, sequence, count, releases, finishes, starts}
use Rattle.promise.specs.Promise.{InSlack}
use Rattle.promise.proofs.Safe.{tops, Safe}
use Rattle.promise.proofs.Bits.{led, comes-age, waits-on}
use Rattle.promise.proofs.Course.{lives, says, does, course}

-- a job that waits or runs is there
waits_there : (x : Life) → waits x ≡ 1 → idles x ≡ 0
waits_there (Life.idle a) w = absurd (omega arith)
waits_there (Life.waiting a) w = refl
waits_there (Life.running a r) w = refl

module _ (t : Table) (a : Safe t) (xs : List Report) (k : ℕ) (p : 1 ≤ k) (q : k ≤ t.n) where
  abbrev s : Sequence
  s = sequence t xs

  abbrev x : ℕ → Life
  x i = lives s i k

  -- a tick that does not start the job
  waits-still : (e : ℕ) → e < count s → waits (x e) ≡ 1 → starts s e k ≡ false → waits (x (suc e)) ≡ 1
  waits-still e l w none =
      sym (ap waits (does t a xs e l k p q))
      ∙ rw none
      (waits-on (rows t k) (tops t k) (x e) (finishes s e k) (releases s e k) (rw none at (says t a xs e l k p q)) w)

  module _ (i : ℕ) (released : releases s i k ≡ true) where
    born : i < count s → age (x (suc i)) ≡ 0
    born l = sym (ap age (does t a xs i l k p q))
        ∙ rw released (comes-age (rows t k) (tops t k) (x i) (finishes s i k) (starts s i k))

    waits-first : (e : ℕ) → i ≡ e → i < count s → starts s i k ≡ false → waits (x (suc e)) ≡ 1
    waits-first e z l none =
        subst (λ (d : ℕ). waits (x (suc d)) ≡ 1) z (sym (ap waits (does t a xs i l k p q)) ∙ rw (released, none))

    -- not started in ticks i to e
    waiting : (e : ℕ) → i ≤ e → e < count s → ((d : ℕ) → i ≤ d → d ≤ e → starts s d k ≡ false) → waits (x (suc e)) ≡ 1
    waiting zero h l none = waits-first zero (omega arith) (omega arith) (none i (omega arith) (omega arith))
    waiting (suc e) h l none =
        elim (ℕ_discrete (suc e) i) [
          | yes z ↦ waits-first (suc e) (sym z) (omega arith) (none i (omega arith) (omega arith))
          | no z ↦
              waits-still (suc e) l (waiting e (omega arith) (omega arith) (λ d u v. none d u (omega arith)))
              (none (suc e) h (omega arith))
        ]

    -- from the release to state j + 1 the job is there
    unfinished : (j : ℕ) → i ≤ j → j < count s
        → ((d : ℕ) → i ≤ d → d < j → starts s d k ≡ false) → idles (x (suc j)) ≡ 0
        → Unfinished (lives s) k (suc i) (j - i)
    unfinished j h l none last = record { released = born (omega arith); since = there }
      where
        there : (e : ℕ) → e ≤ j - i → idles (x (suc i + e)) ≡ 0
        there e m =
            let z : suc i + e ≡ suc (i + e) = omega arith in
            elim (ℕ_discrete (i + e) j) [
              | yes w ↦ rw (z, w) last
              | no w ↦ rw z (waits_there (x (suc (i + e)))
                  (waiting (i + e) (omega arith) (omega arith) (λ d u v. none d u (omega arith))))
            ]

    module _ (j : ℕ) (h : i ≤ j) (l : j < count s) where
      at : suc i + (j - i) ≡ suc j
      at = omega arith

      pub waits-short : ((e : ℕ) → i ≤ e → e ≤ j → starts s e k ≡ false) → InSlack t k (j - i + 1)
      waits-short none =
          let w : waits (x (suc j)) ≡ 1 = waiting j h l none in
          let job = unfinished j h l (λ d u v. none d u (omega arith)) (waits_there (x (suc j)) w) in
          omega (arith, waits-below-slack (course t a xs) k p q (suc i) (j - i) (omega arith) job (rw at w))

      pub starts-short : ((e : ℕ) → i ≤ e → e < j → starts s e k ≡ false) → starts s j k ≡ true → InSlack t k (j - i)
      starts-short none go =
          let y = led (tops t k) (x j) (finishes s j k) (releases s j k) (starts s j k) in
          let is : y ≡ x (suc j) = does t a xs j l k p q in
          let r : runs (x (suc j)) ≡ 1 = sym (ap runs is) ∙ rw go in
          let z : ran (x (suc j)) ≡ 0 = sym (ap ran is) ∙ rw go in
          let z' : ran (x (suc i + (j - i))) ≡ 0 = rw at z in
          let job = unfinished j h l none (sym (ap idles is) ∙ rw go) in
          omega (arith, runs-below-slack (course t a xs) k p q (suc i) (j - i) (omega arith) job (rw at r))
