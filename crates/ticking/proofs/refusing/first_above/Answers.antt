use mathlib.Core.Path.{sym, ◌∙◌, ap}
use native.Mathlib.Numerals.{add-one}
use borrow.Author.Tests.{ltb-true}
use borrow.Author.Rules.{rules}
use Rattle.ticking.specs.Code.Passes.{task_or_none}
use Rattle.ticking.proofs.TickRules.{above-none, above-found, above-past, none_above}
use Rattle.ticking.proofs.refusing.first_above.Goals as goal

pub returns-then-is_within : goal.returns-then-is_within
returns-then-is_within c =
    rw (none_above c.args.n _ (ltb-true _ _ (sym c.is_within.ensures ∙ c.if-is_within.true)))

pub loop-i-init : goal.loop-i-init
loop-i-init c = above-none _ c.args.n

pub returns-then-names : goal.returns-then-names
returns-then-names c =
    let found = above-found _ c.args.n c.loop-i.i (search rules)
    c.loop-i.invariant (search rules) (sym c.names.ensures ∙ c.if-names.true) in
    rw add-one (ap task_or_none (sym (add-one c.loop-i.i) ∙ found))

pub loop-i-preserved : goal.loop-i-preserved
loop-i-preserved c =
    above-past _ c.args.n c.loop-i.i (search rules) c.loop-i.invariant (sym c.names.ensures ∙ c.if-names.false)
