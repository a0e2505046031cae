-- What `?` hands on: the error that its clause names.
use Rattle.std.proofs.Common.{◌≡◌, ap, ◌∙◌}
use Rattle.std.specs.Prelude.{Result, Err, IsErr}
use Rattle.std.specs.Result.{IsErrAnd}
use Rattle.std.proofs.lemmas.Result.{err_from_is_err_and}

pub handed : {T E : Type 0} {x : E} (r : Result T E) → IsErr r × IsErrAnd r (λ e. e ≡ x) → r ≡ Err x
handed r h = let given = err_from_is_err_and r h.1 in given.1 ∙ ap Err given.2
