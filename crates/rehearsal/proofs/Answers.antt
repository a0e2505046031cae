-- What is answered: the table's own refusal; 17, where that is none and L is above the limit; else how the rehearsal
-- went.
use Prim.Native.Nat.{◌<◌, ◌≤◌}
use mathlib.Core.Path.{◌≡◌, ap}
use mathlib.Core.Logic.{◌≢◌}
use native.Mathlib.Decide.{ℕ_discrete, dec_le}
use native.Mathlib.Omega.{arith}
use borrow.Author.Tests.{eq-eqb, ne_eqb, le-ltb, lt-ltb}
use Rattle.table.specs.declared.Refusal.{Refusal}
use Rattle.table.specs.declared.Table.{Table}
use Rattle.table.specs.Refused.{no_refusal, refusal}
use Rattle.rehearsal.specs.declared.Rehearsal.{Rehearsal}
use Rattle.rehearsal.specs.Multiple.{multiple, most_multiple}
use Rattle.rehearsal.specs.Rehearsal.{none_started, Outcome, rehearsal, bench_refusal, rehearsed}

abbrev pub went : Refusal → Outcome → Rehearsal
went r x = record { refused = r; tick = x.tick; task = x.task; started = x.started }

abbrev pub refused_by : Refusal → Rehearsal
refused_by r = record { refused = r; tick = 0; task = 0; started = none_started }

module _ (t : Table) where
  pub answer-refused : (refusal t).number ≢ 0 → rehearsed t ≡ refused_by (refusal t)
  unfolding rehearsed
  answer-refused some =
      let own : bench_refusal t ≡ refusal t = rw (ne_eqb (refusal t).number 0 some) in
      rw (own, ne_eqb (refusal t).number 0 some, rehearsed) (ap refused_by own)

  module _ (ok : (refusal t).number ≡ 0) where
    pub answer_17 : most_multiple < multiple t → rehearsed t ≡ refused_by (record { number = 17; row = 0 })
    unfolding rehearsed
    answer_17 l =
        let large : bench_refusal t ≡ record { number = 17; row = 0 } =
        rw (eq-eqb (refusal t).number 0 ok, lt-ltb most_multiple (multiple t) l) in
        rw (large, rehearsed) (ap refused_by large)

    pub answer-went : multiple t ≤ most_multiple → rehearsed t ≡ went no_refusal (rehearsal t)
    unfolding rehearsed
    answer-went l =
        let none : bench_refusal t ≡ no_refusal =
        rw (eq-eqb (refusal t).number 0 ok, le-ltb most_multiple (multiple t) l) in
        rw (none, rehearsed) (ap (λ (r : Refusal). went r (rehearsal t)) none)

-- which of the three it is
pub data Answered (t : Table) : Type 0 where
  own : (refusal t).number ≢ 0 → rehearsed t ≡ refused_by (refusal t) → Answered t
  large : rehearsed t ≡ refused_by (record { number = 17; row = 0 }) → Answered t
  ticked : (refusal t).number ≡ 0 → multiple t ≤ most_multiple → rehearsed t ≡ went no_refusal (rehearsal t)
      → Answered t

pub answered : (t : Table) → Answered t
answered t = by (ℕ_discrete (refusal t).number 0) (dec_le (multiple t) most_multiple)
  where
    by : Dec ((refusal t).number ≡ 0) → Dec (multiple t ≤ most_multiple) → Answered t
    by (no some) d = own some (answer-refused t some)
    by (yes none) (yes small) = ticked none small (answer-went t none small)
    by (yes none) (no above) = large (answer_17 t none (omega arith))
