use Rattle.maths.proofs.Tests.{tests}
use Rattle.table.specs.Refused.{row_rules}
use Rattle.table.proofs.Task.check.Goals.{then-self-lt1-via-then-self-lt1}
use Rattle.table.proofs.Task.check.Goals.{then-self-lt1-via-else-self-lt1+then-self-gt-LONGEST}
use Rattle.table.proofs.Task.check.Goals as goal

pub returns-then-self-lt1 : goal.returns-then-self-lt1
unfolding row_rules
returns-then-self-lt1 c =
    elim c.then-self-lt1.branch [
      | then-self-lt1-via-then-self-lt1 w ↦ search tests
      | then-self-lt1-via-else-self-lt1+then-self-gt-LONGEST w ↦ search tests
    ]

pub returns-then-self-eq0 : goal.returns-then-self-eq0
unfolding row_rules
returns-then-self-eq0 c = search tests

pub returns-then-self : goal.returns-then-self
unfolding row_rules
returns-then-self c = search tests

pub returns-then-self-2 : goal.returns-then-self-2
unfolding row_rules
returns-then-self-2 c = search tests

pub returns-then-p-self : goal.returns-then-p-self
unfolding row_rules
returns-then-p-self c = search tests

pub returns : goal.returns
unfolding row_rules
returns c = search tests
