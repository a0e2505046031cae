use Rattle.maths.proofs.Tests.{tests}
use Rattle.table.specs.Refused.{table_rules}
use Rattle.table.proofs.Table.check_sizes.Goals.{then-self-lt1-via-then-self-lt1}
use Rattle.table.proofs.Table.check_sizes.Goals.{then-self-lt1-via-else-self-lt1+then-self-gt-MOST}
use Rattle.table.proofs.Table.check_sizes.Goals.{then-m-lt1-via-then-m-lt1, then-m-lt1-via-else-m-lt1+then-m-gt-MOST}
use Rattle.table.proofs.Table.check_sizes.Goals.{then-p-lt1-via-then-p-lt1, then-p-lt1-via-else-p-lt1+then-p-gt-MOST}
use Rattle.table.proofs.Table.check_sizes.Goals as goal

pub returns-then-self-lt1 : goal.returns-then-self-lt1
unfolding table_rules
returns-then-self-lt1 c =
    elim c.then-self-lt1.branch [
      | then-self-lt1-via-then-self-lt1 w ↦ search tests
      | then-self-lt1-via-else-self-lt1+then-self-gt-MOST w ↦ search tests
    ]

pub returns-then-m-lt1 : goal.returns-then-m-lt1
unfolding table_rules
returns-then-m-lt1 c =
    elim c.then-m-lt1.branch [
      | then-m-lt1-via-then-m-lt1 w ↦ search tests
      | then-m-lt1-via-else-m-lt1+then-m-gt-MOST w ↦ search tests
    ]

pub returns-then-p-lt1 : goal.returns-then-p-lt1
unfolding table_rules
returns-then-p-lt1 c =
    elim c.then-p-lt1.branch [
      | then-p-lt1-via-then-p-lt1 w ↦ search tests
      | then-p-lt1-via-else-p-lt1+then-p-gt-MOST w ↦ search tests
    ]

pub returns : goal.returns
unfolding table_rules
returns c = search tests
