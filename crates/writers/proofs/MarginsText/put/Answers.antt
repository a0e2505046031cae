use Rattle.std.proofs.Common.{ap, ◌∙◌, rules}
use mir.Syntax.{w64}
use mir.Val.{SFits}
use mir.Facts.{to_z-of_z}
use Rattle.table.specs.Limits.{most_tasks}
use Rattle.writers.proofs.Lines.{margins-split, margins_more, margins_end}
use Rattle.writers.proofs.Walks.{walk_head, walk_halt, walk_more, walk_stop, walk_end}
use Rattle.writers.proofs.MarginsText.put.Goals as goal

pub returns-in_err-word : goal.returns-in_err-word
returns-in_err-word g c =
    walk_halt g.met.S.Sink.laws _ _ (margins-split most_tasks _) c.in_err-word.ensures.took c.from_residual.ensures

pub loop-i-init : goal.loop-i-init
loop-i-init g c =
    let is = c.into_iter-i-iterator.ensures.into_iter_gives in
    let all = c.enumerate-i-items.ensures in
    let taken = c.take.ensures in
    let count = ap (λ i. i.count) is ∙ all.count in
    let n = ap (λ i. i.iter.n) is ∙ ap (λ i. i.n) all.source ∙ taken.count in
    let rest =
    ap (λ i. i.iter.iter.rest.now) is ∙ ap (λ i. i.iter.rest.now) all.source
    ∙ ap (λ i. i.rest.now) taken.source ∙ c.iter.ensures.rest in
    rw (count, n, rest) (walk_head g.met.S.Sink.laws _ _ (margins-split most_tasks _) c.in_ok-word.ensures.took)

pub returns-in_err-put_row : goal.returns-in_err-put_row
returns-in_err-put_row g c =
    let fits : SFits w64 c.in-Some.z.now = search rules in
    let steps = c.in-Some.ensures.steps in
    walk_stop g.met.S.Sink.laws c.loop-i.invariant _ _ (margins_more _ steps.0.0 steps.0.1 steps.1 steps.2)
    (rw (c.of.ensures, to_z-of_z fits) at c.in_err-put_row.ensures) c.from_residual-in_err-put_row.ensures

pub loop-i-preserved : goal.loop-i-preserved
loop-i-preserved g c =
    let fits : SFits w64 c.in-Some.z.now = search rules in
    let steps = c.in-Some.ensures.steps in
    walk_more g.met.S.Sink.laws c.loop-i.invariant _ _ (margins_more _ steps.0.0 steps.0.1 steps.1 steps.2)
    (rw (c.of.ensures, to_z-of_z fits) at c.in_ok-put_row.ensures)

pub returns : goal.returns
returns g c =
    walk_end g.met.S.Sink.laws c.loop-i.invariant
    (margins_end _ _ _ (λ h. (c.in-None.ensures.steps.0 h).0))
