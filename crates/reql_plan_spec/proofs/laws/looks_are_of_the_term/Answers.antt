use Rattle.reql_plan_spec.proofs.Looks.{read_slots_rise, read_slots_are_looked_at, no_others_are_looked_at, each_is_seen_at_its_slot, terms_go_on_in_what_was_seen, values_are_of_what_was_seen, dropped_tables_are_told}
use Rattle.reql_plan_spec.proofs.laws.looks_are_of_the_term.Goals as goal

pub returns-clause-slots : goal.returns-clause-slots
returns-clause-slots c = read_slots_rise

pub returns-clause-looks : goal.returns-clause-looks
returns-clause-looks c = read_slots_are_looked_at

pub returns-clause-others : goal.returns-clause-others
returns-clause-others c = no_others_are_looked_at

pub returns-clause-seen : goal.returns-clause-seen
returns-clause-seen c = each_is_seen_at_its_slot

pub returns-clause-terms : goal.returns-clause-terms
returns-clause-terms c = terms_go_on_in_what_was_seen

pub returns-clause-values : goal.returns-clause-values
returns-clause-values c = values_are_of_what_was_seen

pub returns-clause-dropped : goal.returns-clause-dropped
returns-clause-dropped c = dropped_tables_are_told
