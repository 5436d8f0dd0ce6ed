-- `roundtrip::read_back_read`: a refused request is refused as forming refused it.
use Rattle.std.proofs.lemmas.Result.{err_from_is_err_and}
use Rattle.roundtrip.proofs.Back.{back_refused}
use Rattle.roundtrip.proofs.read_back_read.Goals as goal

pub returns-in_err-form_read-clause-value : goal.returns-in_err-form_read-clause-value
returns-in_err-form_read-clause-value c =
    let e = err_from_is_err_and c.from_residual.result c.from_residual.ensures.1 in
    rw (e.1, e.2) (back_refused _ _ _ c.in_err-form_read.ensures.value)
