-- Laws of what a table's refusal comes to, for the code that tries its sizes first and then row by row.
use Prim.Native.Nat.{ℕ, ◌+◌, ◌<◌, ◌≤◌}
use mathlib.Core.Path.{◌≡◌, refl, sym, ap, ◌∙◌}
use mathlib.Core.Bool.{false}
use mathlib.Core.List.{List, [], ◌∷◌}
use borrow.Author.Tests.{eq-eqb}
use native.Mathlib.Numerals.{add-one}
use lib.Dec.{eqb}
use lib.ListN.{length, drop, get_or, drop_of_length-le}
use lib.Seq.{drop-cons}
use Rattle.std.specs.Prelude.{Result, Ok, Err}
use Rattle.table.specs.declared.Reason.{Reason}
use Rattle.table.specs.declared.Reason.TheVariants.{Count, Cores, Partitions, Period, NoRun, Run, Deadline, Need}
use Rattle.table.specs.declared.Reason.TheVariants.{Task, NotRunning, Overrun, Early, Unfinished, State, Text, Room}
use Rattle.table.specs.declared.Reason.TheVariants.{Multiple}
use Rattle.table.specs.declared.Task.{Task as Row}
use Rattle.table.specs.declared.Table.{Table}
use Rattle.table.specs.Reasons.{number, number_of, outcome, refusal_for}
use Rattle.table.specs.Tasks.{no_task}
use Rattle.table.specs.Refused.{sizes_refusal, row_refusal, rows_from, rows_refusal, refusal}

-- each reason has a number above 0
pub numbered : (r : Reason) → eqb (number r) 0 ≡ false
numbered Count = refl
numbered Cores = refl
numbered Partitions = refl
numbered Period = refl
numbered NoRun = refl
numbered Run = refl
numbered Deadline = refl
numbered Need = refl
numbered Task = refl
numbered NotRunning = refl
numbered Overrun = refl
numbered Early = refl
numbered Unfinished = refl
numbered State = refl
numbered Text = refl
numbered Room = refl
numbered Multiple = refl

-- what each number stands for, from 0 on
abbrev by_number : List (Result Unit Reason)
by_number =
    Ok tt
    ∷ Err Count
    ∷ Err Cores
    ∷ Err Partitions
    ∷ Err Period
    ∷ Err NoRun
    ∷ Err Run
    ∷ Err Deadline
    ∷ Err Need
    ∷ Err Task
    ∷ Err NotRunning
    ∷ Err Overrun
    ∷ Err Early
    ∷ Err Unfinished
    ∷ Err State
    ∷ Err Text
    ∷ Err Room
    ∷ Err Multiple
    ∷ []

abbrev reason_of : ℕ → Result Unit Reason
reason_of n = get_or by_number n (Ok tt)

reason_of-number : (r : Result Unit Reason) → reason_of (number_of r) ≡ r
reason_of-number (Ok tt) = refl
reason_of-number (Err Count) = refl
reason_of-number (Err Cores) = refl
reason_of-number (Err Partitions) = refl
reason_of-number (Err Period) = refl
reason_of-number (Err NoRun) = refl
reason_of-number (Err Run) = refl
reason_of-number (Err Deadline) = refl
reason_of-number (Err Need) = refl
reason_of-number (Err Task) = refl
reason_of-number (Err NotRunning) = refl
reason_of-number (Err Overrun) = refl
reason_of-number (Err Early) = refl
reason_of-number (Err Unfinished) = refl
reason_of-number (Err State) = refl
reason_of-number (Err Text) = refl
reason_of-number (Err Room) = refl
reason_of-number (Err Multiple) = refl

-- no two reasons have one number
pub same-number : (r s : Result Unit Reason) → number_of r ≡ number_of s → r ≡ s
same-number r s e = sym (reason_of-number r) ∙ ap reason_of e ∙ reason_of-number s

pub outcome-for : (r : Reason) (row : ℕ) → outcome (refusal_for r row) ≡ Err (refusal_for r row)
outcome-for r row = rw (numbered r) refl

pub sizes-pass : (t : Table) → 0 ≡ sizes_refusal t → refusal t ≡ rows_refusal t
unfolding refusal
sizes-pass t e = rw (eq-eqb (sizes_refusal t) 0 (sym e)) refl

pub sizes-fail : (t : Table) (r : Reason) → number r ≡ sizes_refusal t → refusal t ≡ refusal_for r 0
unfolding refusal
sizes-fail t r e = rw (← e, numbered r) refl

module _ (p : ℕ) (rows : List Row) (i : ℕ) (lt : i < length rows) where
  pub row-good : 0 ≡ row_refusal p (get_or rows i no_task)
      → rows_from p (i + 1) (drop i rows) ≡ rows_from p (i + 1 + 1) (drop (i + 1) rows)
  unfolding rows_from
  row-good h = rw (drop-cons rows i no_task lt) (simp (eq-eqb _ _ (sym h), add-one))

  pub row-bad : (r : Reason) → number r ≡ row_refusal p (get_or rows i no_task)
      → rows_from p (i + 1) (drop i rows) ≡ refusal_for r (i + 1)
  unfolding rows_from
  row-bad r e = rw (drop-cons rows i no_task lt, ← e) (simp (numbered r))

pub rows_end : (p k i : ℕ) (rows : List Row) → length rows ≤ i
    → rows_from p k (drop i rows) ≡ record { number = 0; row = 0 }
unfolding rows_from
rows_end p k i rows h = rw (drop_of_length-le rows {i = i} h) refl
