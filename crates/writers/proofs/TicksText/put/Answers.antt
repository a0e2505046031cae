use Rattle.std.proofs.Common.{ap, ◌∙◌, inl, inr, ⊎_elim}
use Rattle.forms.specs.Forms.{ticks_form}
use Rattle.writers.proofs.Lines.{ticks_more, ticks_end}
use Rattle.writers.proofs.Walks.{walk_head, walk_halt, walk_more, walk_stop, walk_end}
use Rattle.writers.proofs.Wholes.{text-split}
use Rattle.writers.proofs.TicksText.put.Goals as goal

pub returns-in_err-word : goal.returns-in_err-word
returns-in_err-word g c =
    walk_halt g.met.S.Sink.laws _ _ (text-split ticks_form _) c.in_err-word.ensures.took c.from_residual.ensures

pub loop-r-init : goal.loop-r-init
loop-r-init g c =
    let is = c.into_iter-r-iterator.ensures.into_iter_gives in
    let zipped = c.zip-r-items.ensures in
    let released = ap (λ i. i.a.rest.now) is ∙ ap (λ a. a.rest.now) zipped.first ∙ c.iter.ensures.rest in
    let finished = ap (λ i. i.b.rest.now) is ∙ zipped.second.0 in
    rw (released, finished) (walk_head g.met.S.Sink.laws _ _ (text-split ticks_form _) c.in_ok-word.ensures.took)

pub returns-in_err-put_row : goal.returns-in_err-put_row
returns-in_err-put_row g c =
    let steps = c.in-Some.ensures.steps in
    walk_stop g.met.S.Sink.laws c.loop-r.invariant _ _ (ticks_more steps.0 steps.1)
    (rw (c.from.ensures, c.from-in-loop-r.ensures) at c.in_err-put_row.ensures) c.from_residual-in_err-put_row.ensures

pub loop-r-preserved : goal.loop-r-preserved
loop-r-preserved g c =
    let steps = c.in-Some.ensures.steps in
    walk_more g.met.S.Sink.laws c.loop-r.invariant _ _ (ticks_more steps.0 steps.1)
    (rw (c.from.ensures, c.from-in-loop-r.ensures) at c.in_ok-put_row.ensures)

pub returns : goal.returns
returns g c =
    walk_end g.met.S.Sink.laws c.loop-r.invariant
    (ticks_end _ _ (⊎_elim (λ h. inl h.1.0) (λ h. inr h.1.0) c.in-None.ensures.steps))
