-- An admitted table is never late on the bench: its machines are states of a sequence of ticks, and demand 3 holds of
-- every sequence. Before tick i the report that releases nothing and finishes what has run C is accepted, as it always
-- is, and it would be late exactly where the bench's own tick is.
use Prim.Native.Nat.{ℕ, zero, suc, ◌<◌}
use mathlib.Core.Path.{◌≡◌, refl, sym, ◌∙◌, ap, subst}
use mathlib.Core.Bool.{Bool, true, false}
use mathlib.Core.List.{List, [], ◌∷◌, ◌++◌}
use mathlib.Core.Logic.{◌≢◌}
use native.Mathlib.Omega.{arith}
use lib.ListN.{length}
use Rattle.table.specs.declared.Table.{Table}
use Rattle.machine.specs.declared.Machine.{Machine}
use Rattle.machine.specs.Fresh.{fresh}
use Rattle.machine.proofs.StateParts.{GoodState}
use Rattle.conduct.proofs.GoOn.{goes_on_lem}
use Rattle.conduct.proofs.Laws.{tick-refusal, tick-refused, tick-late}
use Rattle.promise.specs.Sequences.{Report, told, accepts, Step, step, counted, steps, nth}
use Rattle.promise.specs.Promise.{Admitted}
use Rattle.promise.proofs.Demand3.{demand_3}
use Rattle.promise.proofs.Test.{safe}
use Rattle.rehearsal.specs.declared.Rehearsal.{Rehearsal}
use Rattle.rehearsal.specs.Multiple.{multiple}
use Rattle.rehearsal.specs.Rehearsal.{released_at, full, late_now, Outcome, rehearsal, rehearsed}
use Rattle.rehearsal.specs.Bench.{bench_at, NeverLate}
use Rattle.rehearsal.proofs.ByTick.{bench-fresh, bench-next, bench-good}
use Rattle.rehearsal.proofs.Ends.{calm-outcome}
use Rattle.rehearsal.proofs.Answers.{Answered, own, large, ticked, answered}

-- the machine after all the reports, accepted or not
abbrev end_of : Machine → List Report → Machine
end_of m [] = m
end_of m (x ∷ xs) = end_of (told m x).machine xs

-- one accepted report more is the sequence's next tick
record Next (m : Machine) (before after : List Step) (st : Step) : Type 0 where
  longer : length before < length after
  last : nth m after (length before) ≡ st

-- also after a tick that came first, or a report that was refused and left the machine as it was
after_one : (b : Bool) (m : Machine) (st : Step) {before after : List Step} {x : Step} → (b ≡ false → st.after ≡ m)
    → Next st.after before after x → Next m (counted b st before) (counted b st after) x
after_one true m st same n = record { longer = omega (arith, n.longer); last = n.last }
after_one false m st {before} {after} {x} same n = subst (λ (z : Machine). Next z before after x) (same refl) n

next : (m : Machine) (xs : List Report) (x : Report) → accepts (told (end_of m xs) x).answer ≡ true
    → Next m (steps m xs) (steps m (xs ++ (x ∷ []))) (step x (told (end_of m xs) x))
unfolding steps
next m [] x ok = rw ok (record { longer = omega arith; last = refl })
next m (y ∷ ys) x ok =
    after_one (accepts (told m y).answer) m (step y (told m y))
    (λ e. tick-refused m y.released y.finished (rw (tick-refusal m y.released y.finished) at e))
    (next (told m y).machine ys x ok)

-- what the bench reports at tick i, and at ticks 0 to i - 1
abbrev report_at : Table → ℕ → Report
report_at t i =
    record { released = released_at (multiple t) (bench_at t i).table i; finished = full (bench_at t i) }

reports : Table → ℕ → List Report
reports t zero = []
reports t (suc i) = reports t i ++ (report_at t i ∷ [])

end_more : (m : Machine) (xs : List Report) (x : Report) → end_of m (xs ++ (x ∷ [])) ≡ (told (end_of m xs) x).machine
end_more m [] x = refl
end_more m (y ∷ ys) x = end_more (told m y).machine ys x

is-bench : (t : Table) (i : ℕ) → end_of (fresh t) (reports t i) ≡ bench_at t i
unfolding reports
is-bench t zero = sym (bench-fresh t)
is-bench t (suc i) =
    end_more (fresh t) (reports t i) (report_at t i)
    ∙ (ap (λ (m : Machine). (told m (report_at t i)).machine) (is-bench t i) ∙ sym (bench-next t i))

admitted-calm : (t : Table) → Admitted t → (xs : List Report) → GoodState (end_of (fresh t) xs)
    → late_now (end_of (fresh t) xs) ≡ 0
admitted-calm t a xs good =
    let m = end_of (fresh t) xs in
    let x : Report = record { released = 0; finished = full m } in
    let n = next (fresh t) xs x (rw (tick-refusal m 0 (full m)) (goes_on_lem m good)) in
    sym (tick-late m 0 (full m) (goes_on_lem m good))
    ∙ (sym (ap (λ (st : Step). st.answer.late) n.last)
    ∙ (demand_3 t a (xs ++ (x ∷ []))).not_late (length (steps (fresh t) xs)) n.longer)

-- no task is named, and no tick
calm : (t : Table) → Admitted t → ((rehearsal t).tick ≡ 0) × ((rehearsal t).task ≡ 0)
calm t a =
    let s = safe t a in
    let o = calm-outcome t
    (λ j l.
    let good : GoodState (bench_at t j) = bench-good t (record { whole = s.whole; unrefused = s.unrefused }) j in
    rw (is-bench t j) at (admitted-calm t a (reports t j) (rw (is-bench t j) good))) in
    (ap (λ (x : Outcome). x.tick) o, ap (λ (x : Outcome). x.task) o)

-- the answer, by its three cases; an admitted table is not refused for itself
answer-calm : (t : Table) → Admitted t → Answered t → ((rehearsed t).tick ≡ 0) × ((rehearsed t).task ≡ 0)
answer-calm t a (own some e) = rw e (refl, refl)
answer-calm t a (large e) = rw e (refl, refl)
answer-calm t a (ticked none small e) = rw e (calm t a)

only_17 : (t : Table) → Admitted t → Answered t → (rehearsed t).refused.number ≢ 0 → (rehearsed t).refused.number ≡ 17
only_17 t a (own some e) h = absurd (some (safe t a).unrefused)
only_17 t a (large e) h = ap (λ (r : Rehearsal). r.refused.number) e
only_17 t a (ticked none small e) h = absurd (h (ap (λ (r : Rehearsal). r.refused.number) e))

pub never-late : NeverLate
never-late t a =
    record { never = (calm t a).1; answer = answer-calm t a (answered t); refused = only_17 t a (answered t) }
