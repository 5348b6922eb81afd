use Rattle.reql_apply_scalar.proofs.scalars.make_array.Goals as goal

pub returns : goal.returns
returns c w calls opts = c.as_data.ensures w
