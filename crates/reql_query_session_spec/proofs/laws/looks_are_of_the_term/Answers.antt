use Rattle.reql_plan_spec.proofs.Looks.{read_slots_rise}
use Rattle.reql_query_session_spec.proofs.Looks.{all_read_slots_are_looked_at, all_look_at_no_others, all_are_seen_at_their_slots, all_terms_go_on_in_what_was_seen, all_values_are_of_what_was_seen, all_dropped_tables_are_told}
use Rattle.reql_query_session_spec.proofs.laws.looks_are_of_the_term.Goals as goal

pub returns-clause-slots : goal.returns-clause-slots
returns-clause-slots c = read_slots_rise

pub returns-clause-looks : goal.returns-clause-looks
returns-clause-looks c = all_read_slots_are_looked_at

pub returns-clause-others : goal.returns-clause-others
returns-clause-others c = all_look_at_no_others

pub returns-clause-seen : goal.returns-clause-seen
returns-clause-seen c = all_are_seen_at_their_slots

pub returns-clause-terms : goal.returns-clause-terms
returns-clause-terms c = all_terms_go_on_in_what_was_seen

pub returns-clause-values : goal.returns-clause-values
returns-clause-values c = all_values_are_of_what_was_seen

pub returns-clause-dropped : goal.returns-clause-dropped
returns-clause-dropped c = all_dropped_tables_are_told
