-- Every case of document 01 and of wish 1 holds of the definitions, by computation. `refl` is given the answers: where
-- it has to find them, it computes the long rehearsals more than once.
use mathlib.Core.Path.{◌≡◌, refl}
use mathlib.Core.List.{map, flatten}
use Rattle.maths.specs.Padded.{padded}
use Rattle.maths.specs.Sums.{sum}
use Rattle.maths.specs.Tasks.{every, lowest, tabulate}
use Rattle.forms.specs.Digits.{digits, digits_in}
use Rattle.forms.specs.Forms.{line, lines}
use Rattle.forms.specs.Reader.{run, grow, step, rows_at, read}
use Rattle.table.specs.Refused.{table_rules, row_rules, rows_from, refusal}
use Rattle.admission.specs.Test.{Amax, interference, load, limit, less}
use Rattle.admission.specs.Answers.{full_answer, quick_answer}
use Rattle.sets.specs.Sets.{size, members, set_of, set_where}
use Rattle.sets.specs.Families.{union_of, all_apart}
use Rattle.sets.specs.Choice.{choice}
use Rattle.machine.specs.Jobs.{running, busy}
use Rattle.machine.specs.Fresh.{fresh}
use Rattle.machine.specs.Conditions.{good_job, good_state}
use Rattle.machine.specs.Steps.{for_tasks, start_waiting}
use Rattle.machine.specs.Tick.{tick_rules, first_given, tick_refusal, tick}
use Rattle.multiples.specs.Gcd.{gcd_in, gcd}
use Rattle.rehearsal.specs.Multiple.{multiple_to}
use Rattle.rehearsal.specs.Rehearsal.{from, rehearsal, rehearsed}
use Rattle.writers.specs.Outputs.{listing, margin_lines, margins_text}
use Rattle.writers.specs.Signed.{margin_row}
use Rattle.texts.specs.Given.{taken}
use Rattle.texts.specs.Admit.{admit_text}
use Rattle.texts.specs.Verdict.{verdict}
use Rattle.runs.specs.Ticks.{run_rows, ticks_text}
use Rattle.shares.specs.Explain.{explain_text}
use Rattle.cases.specs.Rows.{Case, answered, ticked_rows, after}
use Rattle.cases.specs.Rows.{paper_cases, bench_cases, cases}

pub cases_hold : map (λ (c : Case). answered c.asked) cases ≡ map (λ (c : Case). c.expected) cases
unfolding padded sum every lowest tabulate digits digits_in line lines run grow step rows_at read table_rules row_rules
    rows_from refusal Amax interference load limit less full_answer quick_answer size members set_of set_where union_of
    all_apart choice running busy fresh good_job good_state for_tasks start_waiting tick_rules first_given
    tick_refusal tick
    listing margin_lines margins_text margin_row taken admit_text verdict run_rows ticks_text flatten
    explain_text gcd_in gcd multiple_to from rehearsal rehearsed ticked_rows after paper_cases bench_cases cases
cases_hold = refl {a = map (λ (c : Case). c.expected) cases}
