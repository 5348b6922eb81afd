use Rattle.reql_apply_scalar.proofs.coercing.row_coerced.Goals as goal

pub returns-in-None : goal.returns-in-None
returns-in-None c = rw c.in-None.is c.datum_coerced.ensures

pub returns-in-Some : goal.returns-in-Some
returns-in-Some c = rw c.in-Some.is c.datum_coerced-in-Some.ensures
