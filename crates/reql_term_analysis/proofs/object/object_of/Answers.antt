use Rattle.reql_rules.specs.Lists.{each}
use Rattle.reql_value_spec.specs.Meaning.{member_datum}
use Rattle.reql_operand.specs.Seen.{all_chosen}
use Rattle.reql_term_analysis.proofs.object.object_of.Goals as goal

pub returns : goal.returns
returns c w = c.object_within.ensures w (each member_datum (all_chosen w c.args.choices.now)) (c.members_of.ensures w)
