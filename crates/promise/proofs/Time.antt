-- P1 is admitted and its tasks contend, by computation; and time can always go on: in a good state the report that
-- finishes exactly the jobs that have run C ticks, and releases nothing, is accepted.
use mathlib.Core.Path.{◌≡◌, refl, ◌∙◌, ap}
use mathlib.Core.Bool.{true}
use mathlib.Core.List.{List}
use borrow.Author.Tests.{eqb-true}
use Rattle.maths.specs.Sums.{sum}
use Rattle.maths.specs.Tasks.{every, lowest, tabulate}
use Rattle.table.specs.declared.Refusal.{Refusal}
use Rattle.table.specs.declared.Table.{Table}
use Rattle.table.specs.Refused.{table_rules, row_rules, rows_from, refusal}
use Rattle.admission.specs.Test.{Amax, interference, load, limit, less}
use Rattle.admission.specs.Answers.{quick_answer}
use Rattle.sets.specs.Sets.{size, members, set_of, set_where}
use Rattle.sets.specs.Families.{union_of, all_apart}
use Rattle.sets.specs.Choice.{choice}
use Rattle.machine.specs.Jobs.{running, busy}
use Rattle.machine.specs.Fresh.{fresh}
use Rattle.machine.specs.Conditions.{good_job, good_state}
use Rattle.machine.specs.Steps.{for_tasks, start_waiting}
use Rattle.machine.specs.Tick.{tick_rules, first_given, tick_refusal, tick}
use Rattle.conduct.proofs.GoOn.{over_set, goes_on_lem}
use Rattle.conduct.proofs.Laws.{tick-refusal}
use Rattle.promise.specs.Sequences.{Report, steps, sequence, state}
use Rattle.promise.specs.Promise.{Admitted}
use Rattle.promise.specs.Time.{p1, Contended, GoesOn}
use Rattle.promise.proofs.Test.{safe}
use Rattle.promise.proofs.States.{sound}

p1-verdict : (quick_answer p1).admitted ≡ true
unfolding quick_answer sum every lowest table_rules row_rules rows_from refusal Amax interference load limit less
p1-verdict = refl

pub contended : Contended
unfolding steps tick tick_refusal first_given tick_rules good_state good_job for_tasks start_waiting fresh running
    busy sum
    every lowest tabulate table_rules row_rules rows_from refusal size members set_of set_where union_of all_apart
    choice
contended =
    record { admitted = record { whole = refl; verdict = p1-verdict }; one_tick = refl; started = refl; waits = refl }

pub time_goes_on : (t : Table) → Admitted t → (reports : List Report) → GoesOn (sequence t reports)
time_goes_on t a xs i l =
    let m = state (sequence t xs) i in
    let ok = goes_on_lem m (sound t (safe t a) xs i l).good in (
      record { released = 0; finished = over_set m },
      ap (λ (r : Refusal). r.number) (tick-refusal m 0 (over_set m)) ∙ eqb-true _ 0 ok,
    )
