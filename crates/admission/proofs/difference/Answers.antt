use Rattle.maths.proofs.Signed.{difference_fits, difference_is}
use Rattle.admission.specs.Test.{less}
use Rattle.admission.proofs.difference.Goals as goal

pub overflow_sub-result : goal.overflow_sub-result
overflow_sub-result c = search difference_fits

pub returns : goal.returns
unfolding less
returns c = search difference_is
