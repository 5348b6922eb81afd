use Rattle.reql_table_spec.proofs.Numbers.{numbers_rise}
use Rattle.reql_table_spec.proofs.Weaves.{subscribes_placed}
use Rattle.reql_table_spec.proofs.laws.subscribes_are_told.Goals as goal

pub returns : goal.returns
returns c = record { placed = subscribes_placed; numbers = numbers_rise }
