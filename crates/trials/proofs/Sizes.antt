-- What the program "rehearse" writes has room in its buffer.
use Prim.Native.Nat.{ℕ, ◌≤◌}
use mathlib.Core.Path.{◌≡◌, sym, ap, ◌∙◌}
use mathlib.Core.Logic.{◌≢◌}
use native.Mathlib.Decide.{ℕ_discrete}
use native.Mathlib.Omega.{arith}
use lib.ListN.{length}
use Rattle.table.specs.declared.Table.{Table}
use Rattle.table.specs.Limits.{most_tasks}
use Rattle.table.specs.Refused.{no_refusal, refusal}
use Rattle.table.proofs.Good.{good_of}
use Rattle.table.proofs.Refusals.{refusal_carries}
use Rattle.writers.specs.Outputs.{refused_text}
use Rattle.texts.proofs.Sizes.{refused-most, listed-most}
use Rattle.rehearsal.specs.declared.Rehearsal.{Rehearsal}
use Rattle.rehearsal.specs.Multiple.{multiple, most_multiple}
use Rattle.rehearsal.specs.Rehearsal.{rehearsal, rehearsed}
use Rattle.rehearsal.proofs.Answers.{went, Answered, own, large, ticked, answered}
use Rattle.rehearsal.proofs.Sizes.{bounded-rehearsal}
use Rattle.trials.specs.Rehearse.{trial_text, tried, rehearse_text, rehearse_most, RehearseFits}
use Rattle.trials.proofs.Trials.{tried-refused, tried-listed, Narrow, trial_most}

-- no number of a rehearsal has more than ten digits
narrow : (t : Table) → multiple t ≤ most_multiple → Narrow (went no_refusal (rehearsal t))
narrow t most =
    let b = bounded-rehearsal t in
    record { tick = omega (arith, b.tick); started = λ k l. omega (arith, b.starts k l) }

-- at most 32 tasks, whose listing has room in the buffer
pub record Fits (n : ℕ) (r : Rehearsal) : Type 0 where
  pub few : n ≤ most_tasks
  pub room : length (trial_text n r) ≤ rehearse_most

module _ (t : Table) (len : length t.rows ≡ most_tasks) where
  fits_by : Answered t → (rehearsed t).refused.number ≡ 0 → Fits t.n (rehearsed t)
  fits_by (own some e) h = absurd (some (ap (λ (r : Rehearsal). r.refused.number) (sym e) ∙ h))
  fits_by (large e) h = absurd (omega (arith, ap (λ (r : Rehearsal). r.refused.number) (sym e) ∙ h))
  fits_by (ticked none small e) h =
      let few = (good_of t len none).sizes.few in
      rw e record { few = few; room = trial_most t.n (went no_refusal (rehearsal t)) few (narrow t small) }

  pub fits_of : (rehearsed t).refused.number ≡ 0 → Fits t.n (rehearsed t)
  fits_of = fits_by (answered t)

  refusal-most : Answered t → (rehearsed t).refused.number ≢ 0 → length (refused_text (rehearsed t).refused) ≤ 23
  refusal-most (own some e) h =
      let c = refusal_carries t len in
      rw e (refused-most (refusal t) (omega (arith, c.number)) (omega (arith, c.row)))
  refusal-most (large e) h = rw e (refused-most _ (omega arith) (omega arith))
  refusal-most (ticked none small e) h = absurd (h (ap (λ (r : Rehearsal). r.refused.number) e))

  tried-most : length (tried t) ≤ rehearse_most
  tried-most = elim (ℕ_discrete (rehearsed t).refused.number 0) [
    | yes h ↦ rw (tried-listed t.n (rehearsed t) h) (fits_of h).room
    | no h ↦ rw (tried-refused t.n (rehearsed t) h) (omega (arith, refusal-most (answered t) h))
  ]

pub rehearse_fits : RehearseFits
unfolding rehearse_text
rehearse_fits = listed-most tried rehearse_most (omega arith) tried-most
