-- Point 4, second half: a job that is finished was released before, and less than D ticks ago.
use Prim.Native.Nat.{ℕ, zero, suc, ◌+◌, ◌-◌, ◌<◌, ◌≤◌}
use mathlib.Core.Path.{◌≡◌, refl, sym, ◌∙◌, ap, subst}
use mathlib.Core.Bool.{Bool, true, false}
use mathlib.Core.List.{List}
use native.Mathlib.Decide.{dec_lt}
use native.Mathlib.Omega.{arith}
use Rattle.table.specs.declared.Table.{Table}
use Rattle.admission.specs.Test.{rows}
use Rattle.lives.specs.Life.{Life, age, idles}
use Rattle.lives.specs.Style.{Unfinished}
use Rattle.lives.proofs.Ages.{ends-below-deadline}
use Rattle.promise.specs.Sequences.{Report, Sequence, sequence, count, releases, finishes, starts}
use Rattle.promise.specs.Promise.{InDeadline, Finished}
use Rattle.promise.proofs.Safe.{tops, Safe}
use Rattle.promise.proofs.Bits.{comes-age, was, finishes-there}
use Rattle.promise.proofs.Course.{lives, says, does, course}

module _ (t : Table) (a : Safe t) (xs : List Report) (k : ℕ) (p : 1 ≤ k) (q : k ≤ t.n) where
  abbrev s : Sequence
  s = sequence t xs

  abbrev x : ℕ → Life
  x i = lives s i k

  -- the job that task k has in state e was released in tick i
  record Job (i e : ℕ) : Type 0 where
    part : Finished s k i e
    there : (d : ℕ) → i < d → d ≤ e → idles (x d) ≡ 0

  job-new : (e : ℕ) → releases s e k ≡ true → idles (x (suc e)) ≡ 0 → Job e (suc e)
  job-new e r w =
      record {
        part = record { later = omega arith; released = r; between = λ d u v. absurd (omega arith) };
        there = λ d u v. let z : suc e ≡ d = omega arith in subst (λ (n : ℕ). idles (x n) ≡ 0) z w;
      }

  job-more : (i e : ℕ) → Job i e → finishes s e k ≡ false → idles (x (suc e)) ≡ 0 → Job i (suc e)
  job-more i e j f w = record {
    part = record { later = omega (arith, j.part.later); released = j.part.released; between = between };
    there = there;
  }
    where
      between : (d : ℕ) → i < d → d < suc e → finishes s d k ≡ false
      between d u v =
          elim (dec_lt d e) [
            | yes l ↦ j.part.between d u l
            | no l ↦ let z : e ≡ d = omega arith in subst (λ (n : ℕ). finishes s n k ≡ false) z f
          ]

      there : (d : ℕ) → i < d → d ≤ suc e → idles (x d) ≡ 0
      there d u v =
          elim (dec_lt d (suc e)) [
            | yes l ↦ j.there d u (omega arith)
            | no l ↦ let z : suc e ≡ d = omega arith in subst (λ (n : ℕ). idles (x n) ≡ 0) z w
          ]

  origin : (e : ℕ) → e ≤ count s → idles (x e) ≡ 0 → (i : ℕ) × Job i e
  origin zero l w = absurd (omega (arith, ap idles ((course t a xs).fresh k p q)))
  origin (suc e) l w = by (releases s e k) refl (λ v. origin e (omega arith) v)
    where
      by : (r : Bool) → releases s e k ≡ r → (idles (x e) ≡ 0 → (i : ℕ) × Job i e) → (i : ℕ) × Job i (suc e)
      by true r rest = (e, job-new e r w)
      by false r rest =
          let b = was (rows t k) (tops t k) (x e) (finishes s e k) (starts s e k)
          (rw r at (says t a xs e l k p q)) (rw r at (ap idles (does t a xs e l k p q) ∙ w)) in
          let o = rest b.0 in
          (o.0, job-more o.0 e o.1 b.1 w)

  -- its age is the number of ticks since
  unfinished : (i e : ℕ) → e ≤ count s → Job i e → Unfinished (lives s) k (suc i) (e - suc i)
  unfinished i e l j =
      record {
        released =
            sym (ap age (does t a xs i (omega (arith, j.part.later)) k p q))
            ∙ rw j.part.released (comes-age (rows t k) (tops t k) (x i) (finishes s i k) (starts s i k));
        since = λ d m. j.there (suc i + d) (omega arith) (omega (arith, j.part.later));
      }

  pub ends-short : (j : ℕ) → j < count s → finishes s j k ≡ true → (i : ℕ) × (Finished s k i j) × InDeadline t k (j - i)
  ends-short j l f =
      let o = origin j (omega arith)
      (finishes-there (rows t k) (tops t k) (x j) (releases s j k) (starts s j k) (rw f at (says t a xs j l k p q))) in
      let i = o.0 in
      let later : i < j = o.1.part.later in
      let short : suc (j - suc i) < (rows t k).D =
      ends-below-deadline (course t a xs) k p q (suc i) (j - suc i) (omega arith)
      (unfinished i j (omega arith) o.1) in
      (i, o.1.part, omega arith)
