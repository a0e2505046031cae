-- What a tick answers is below 10 ^ 20, whatever the machine: sets of at most 32 tasks, and numbers of refusals.
use Prim.Native.Nat.{ℕ, ◌<◌, ◌≤◌}
use mathlib.Core.Path.{◌≡◌, refl, ap, ◌∙◌}
use mathlib.Core.Bool.{Bool, true, false, cond}
use mathlib.Core.List.{List, [], ◌∷◌}
use native.Mathlib.Nat.{lt_of_lt_of_le}
use native.Mathlib.Omega.{arith}
use borrow.Author.Tests.{eqb-true, eqb-false}
use lib.Dec.{eqb}
use lib.Pow.{pow_mono}
use Rattle.maths.specs.Rules.{Rule}
use Rattle.maths.specs.Tasks.{lowest}
use Rattle.maths.proofs.Tests.{both}
use Rattle.table.specs.declared.Refusal.{Refusal}
use Rattle.table.specs.declared.Table.{Table}
use Rattle.table.specs.Limits.{most_tasks}
use Rattle.table.specs.Refused.{refusal, sizes_refusal, rows_refusal}
use Rattle.table.proofs.Good.{good-sizes}
use Rattle.sets.specs.Sets.{set_where}
use Rattle.sets.proofs.Wheres.{where_lt}
use Rattle.machine.specs.declared.Machine.{Machine}
use Rattle.machine.specs.Conditions.{good_state}
use Rattle.machine.specs.Tick.{Ticked, tick_rules, first_given, tick_refusal, readied}
use Rattle.machine.specs.Tick.{accepted, accepted_tick, refused_tick, tick}
use Rattle.machine.proofs.Jobs.{finished-table, readied-table}
use Rattle.machine.proofs.Queue.{step-table}
use Rattle.machine.specs.declared.Report.{Report}
use Rattle.writers.proofs.Listings.{big}
use Rattle.runs.specs.Ticks.{tick_with}

few-tasks : (t : Table) → (refusal t).number ≡ 0 → t.n ≤ most_tasks
unfolding refusal
few-tasks t e = by (eqb (sizes_refusal t) 0) refl e
  where
    by : (b : Bool) → eqb (sizes_refusal t) 0 ≡ b
        → (cond b (rows_refusal t) (record { number = sizes_refusal t; row = 0 })).number ≡ 0 → t.n ≤ most_tasks
    by true w e = (good-sizes t (eqb-true (sizes_refusal t) 0 w)).few
    by false w e = absurd (eqb-false (sizes_refusal t) 0 w e)

most : (b : Bool) (x y : Refusal) → x.number ≤ 14 → y.number ≤ 14 → (cond b x y).number ≤ 14
most true x y h g = h
most false x y h g = g

given-most : (r : Rule ℕ) (rs : List (Rule ℕ)) → r.number ≤ 14 → (first_given rs).number ≤ 14
    → (first_given (r ∷ rs)).number ≤ 14
unfolding first_given
given-most r rs h g = most (eqb (lowest most_tasks r.given) 0) (first_given rs)
    (record { number = r.number; row = lowest most_tasks r.given }) g h

none-given : (first_given []).number ≤ 14
unfolding first_given
none-given = omega arith

number-most : (m : Machine) (released finished : ℕ) → (tick_refusal m released finished).number ≤ 14
unfolding tick_refusal tick_rules
number-most m released finished =
    let nine : 9 ≤ 14 = omega arith in
    let ten : 10 ≤ 14 = omega arith in
    let eleven : 11 ≤ 14 = omega arith in
    let twelve : 12 ≤ 14 = omega arith in
    let thirteen : 13 ≤ 14 = omega arith in
    most (good_state m) (first_given (tick_rules m released finished)) (record { number = 14; row = 0 })
    (given-most _ _ nine
    (given-most _ _ ten (given-most _ _ eleven (given-most _ _ twelve (given-most _ _ thirteen none-given)))))
    (omega arith)

pub record Small (t : Ticked) : Type 0 where
  pub number : t.answer.refused.number < big
  pub finished : t.answer.finished < big
  pub late : t.answer.late < big
  pub started : t.answer.started < big

set-small : (f : ℕ → Bool) (n : ℕ) → n ≤ most_tasks → set_where f n < big
set-small f n h = let l = lt_of_lt_of_le (where_lt f n) (pow_mono {i = n} {j = 32} h) in omega arith

accepted-good : (m : Machine) (released finished : ℕ) → accepted m released finished ≡ true → good_state m ≡ true
unfolding tick_refusal
accepted-good m released finished e = by (good_state m) (eqb-true _ 0 e)
  where
    by : (b : Bool)
        → (cond b (first_given (tick_rules m released finished)) (record { number = 14; row = 0 })).number ≡ 0 → b
        ≡ true
    by true e = refl
    by false e = absurd (omega arith)

good-few : (m : Machine) → good_state m ≡ true → m.table.n ≤ most_tasks
unfolding good_state
good-few m e = few-tasks m.table (eqb-true _ 0 (both _ _ (both _ _ (both _ _ (both _ _ e).0).0).0).0)

pub tick-small : (m : Machine) (k : Report) → k.finished < big → Small (tick_with m k)
unfolding tick
tick-small m k h = by (accepted m k.released k.finished) refl
  where
    by : (b : Bool) → accepted m k.released k.finished ≡ b
        → Small (cond b (accepted_tick m k.released k.finished)
        (refused_tick m (tick_refusal m k.released k.finished)))
    by true e =
        let few : m.table.n ≤ most_tasks = good-few m (accepted-good m k.released k.finished e) in
        let number = number-most m k.released k.finished in
        let same = ap (λ (t : Table). t.n)
        (step-table (readied m k.released k.finished) ∙ readied-table m k.released k.finished) in
        record {
          number = omega arith;
          finished = h;
          late = set-small _ _ (rw (finished-table m k.released k.finished) few);
          started = set-small _ _ (omega arith);
        }
    by false e =
        let number = number-most m k.released k.finished in
        record { number = omega arith; finished = omega arith; late = omega arith; started = omega arith }
