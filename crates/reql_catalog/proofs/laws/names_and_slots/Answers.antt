use Rattle.reql_catalog.proofs.Histories.{names_agree, slots_stay}
use Rattle.reql_catalog.proofs.laws.names_and_slots.Goals as goal

pub returns : goal.returns
returns c = record { agree = names_agree; stay = slots_stay }
