use Rattle.std.proofs.Common.{ap, ◌∙◌}
use Rattle.forms.specs.Forms.{tasks_form}
use Rattle.writers.specs.Outputs.{task_row}
use Rattle.writers.proofs.Lines.{taken_more, taken_end}
use Rattle.writers.proofs.Walks.{walk_head, walk_halt, walk_more, walk_stop, walk_end}
use Rattle.writers.proofs.Wholes.{text-split}
use Rattle.writers.proofs.TableText.put.Goals as goal

pub returns-in_err-word : goal.returns-in_err-word
returns-in_err-word g c =
    walk_halt g.met.S.Sink.laws _ _ (text-split tasks_form _) c.in_err-word.ensures.took c.from_residual.ensures

pub loop-task-init : goal.loop-task-init
loop-task-init g c =
    let is = c.into_iter-task-iterator.ensures.into_iter_gives in
    let taken = c.take-task-items.ensures in
    let n = ap (λ i. i.n) is ∙ taken.count in
    let rest = ap (λ i. i.iter.rest.now) is ∙ ap (λ i. i.rest.now) taken.source ∙ c.iter.ensures.rest in
    rw (n, rest) (walk_head g.met.S.Sink.laws _ _ (text-split tasks_form _) c.in_ok-word.ensures.took)

pub returns-in_err-put_row : goal.returns-in_err-put_row
returns-in_err-put_row g c =
    let steps = c.in-Some.ensures.steps in
    walk_stop g.met.S.Sink.laws c.loop-task.invariant _ _ (taken_more task_row _ steps.0 steps.1)
    (rw c.task_numbers.ensures at c.in_err-put_row.ensures) c.from_residual-in_err-put_row.ensures

pub loop-task-preserved : goal.loop-task-preserved
loop-task-preserved g c =
    let steps = c.in-Some.ensures.steps in
    walk_more g.met.S.Sink.laws c.loop-task.invariant _ _ (taken_more task_row _ steps.0 steps.1)
    (rw c.task_numbers.ensures at c.in_ok-put_row.ensures)

pub returns : goal.returns
returns g c =
    walk_end g.met.S.Sink.laws c.loop-task.invariant (taken_end task_row _ _ (λ h. (c.in-None.ensures.steps h).0))
