use Rattle.std.proofs.Common.{refl, rules, arith}
use Rattle.writers.proofs.Cells.{spelling_start, spelling_room, spelling_more, spelling_end}
use Rattle.writers.proofs.Cell.push_digits.Goals as goal

pub loop-rest-init : goal.loop-rest-init
loop-rest-init c = spelling_start _ _ (search rules) c.requires c.args.self.now.within (search rules)

pub overflow_sub-at : goal.overflow_sub-at
overflow_sub-at c = spelling_room c.loop-rest.invariant

pub loop-rest-preserved : goal.loop-rest-preserved
loop-rest-preserved c = spelling_more c.loop-rest.invariant c.loop-rest-test.true

pub overflow_sub-at-2 : goal.overflow_sub-at-2
overflow_sub-at-2 c = spelling_room c.loop-rest.invariant

pub returns : goal.returns
returns c = spelling_end c.loop-rest.invariant (omega (arith, c.loop-rest-test.false)) refl refl
