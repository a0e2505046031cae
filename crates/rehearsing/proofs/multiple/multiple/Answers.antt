use Prim.Native.Nat.{ℕ, suc, ◌+◌, ◌<◌, ◌≤◌}
use mathlib.Core.Path.{◌≡◌, refl, sym, ◌∙◌}
use native.Mathlib.Numerals.{add-one}
use native.Mathlib.Omega.{arith}
use borrow.Author.Rules.{rules}
use borrow.Author.Tests.{le-leb}
use lib.Dec.{leb}
use lib.ListN.{length, take, get_or}
use mathlib.Core.List.{List}
use Rattle.std.specs.Bool.{then_some}
use Rattle.std.specs.Prelude.{Some, None}
use Rattle.table.specs.declared.Task.{Task}
use Rattle.table.specs.declared.Table.{Table}
use Rattle.table.specs.Good.{Good}
use Rattle.table.specs.Tasks.{no_task, τ, T}
use Rattle.table.proofs.Good.{good_of}
use Rattle.table.proofs.Rows.{tasks-many, task-at}
use Rattle.multiples.specs.Gcd.{lcm}
use Rattle.multiples.proofs.Within.{is-above, was-within, was-above}
use Rattle.rehearsal.specs.Bench.{Unrefused}
use Rattle.rehearsal.specs.Multiple.{multiple_to, multiple, most_multiple}
use Rattle.rehearsal.proofs.Multiple.{multiple_to-zero, multiple_to-more, multiple_to-le}
use Rattle.rehearsing.proofs.multiple.multiple.Goals as goal

-- one turn, on so far the multiple of the first i periods
module _ (t : Table) {so_far : ℕ} (i : ℕ) (at : so_far ≡ multiple_to t i) where
  abbrev next : ℕ
  next = lcm so_far (T (τ t (suc i)))

  next-is : next ≡ multiple_to t (suc i)
  next-is = rw (multiple_to-more t i, ← at)

  goes_on_lem : (r : ℕ) → then_some (leb next most_multiple) next ≡ Some r
      → (r ≡ multiple_to t (i + 1)) × (r ≤ most_multiple)
  goes_on_lem r e =
      let was = was-within next most_multiple r e in
      (rw (add-one i) (was.0 ∙ next-is), omega (arith, was.0, was.1))

  -- where that of some of the periods is above the limit, so is that of all of them, which it divides
  stops : Good t → i < t.n → then_some (leb next most_multiple) next ≡ None
      → then_some (leb (multiple t) most_multiple) (multiple t) ≡ None
  stops g l none =
      is-above (multiple t) most_multiple
      (omega (arith, was-above next most_multiple none, next-is, multiple_to-le g (suc i) l))

module _ {t : Table} (u : Unrefused t) where
  good : Good t
  good = good_of t u.whole u.unrefused

-- task i + 1 of those that are lent
module _ {t : Table} (u : Unrefused t) (tasks : List Task) (are : tasks ≡ take t.n t.rows) where
  lent : length tasks ≡ t.n
  lent = tasks-many t tasks are u.whole ∙ omega (arith, (good u).sizes.few)

  there : (i : ℕ) → i < length tasks → get_or tasks i no_task ≡ get_or t.rows i no_task
  there i l = task-at t tasks are u.whole i l

pub loop-task-init : goal.loop-task-init
loop-task-init c = (sym (multiple_to-zero c.args.t.now), search rules)

pub returns-in_err-so_far : goal.returns-in_err-so_far
returns-in_err-so_far c =
    let t = c.args.t.now in
    let l = c.loop-task in
    let are = c.tasks-task-items.ensures.are in
    let less : l.task-index < t.n = omega (arith, c.loop-task-test.true, lent c.requires _ are) in
    let none = rw (there c.requires _ are l.task-index c.loop-task-test.true) at c.in_err-so_far.ensures in
    c.from_residual.ensures ∙ sym (stops t l.task-index l.invariant.0 (good c.requires) less (sym none))

pub loop-task-preserved : goal.loop-task-preserved
loop-task-preserved c =
    let l = c.loop-task in
    let are = c.tasks-task-items.ensures.are in
    let some = rw (there c.requires _ are l.task-index c.loop-task-test.true) at c.in_ok-so_far.ensures in
    goes_on_lem c.args.t.now l.task-index l.invariant.0 _ (sym some)

pub returns : goal.returns
returns c =
    let t = c.args.t.now in
    let l = c.loop-task in
    let are = c.tasks-task-items.ensures.are in
    let at-end : l.task-index ≡ t.n = omega (arith, c.loop-task-test.false, lent c.requires _ are) in
    let all : l.so_far ≡ multiple t = rw (l.invariant.0, at-end) refl in
    rw (← all, le-leb l.so_far most_multiple l.invariant.1) refl
