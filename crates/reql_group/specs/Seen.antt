-- What a group with its datum, and an element with its group, stand for.
use Rattle.reql_datum.specs.Plain.{Plain}
use Rattle.reql_datum.specs.View.{plain}
use Rattle.reql_group.specs.declared.grouped.Grouped.{Grouped}
use Rattle.reql_group.specs.declared.gathering.Pair.{Pair}

abbrev pub group_seen : Grouped → Plain × Plain
group_seen g = (plain g.group, plain g.datum)

abbrev pub pair_seen : Pair → Plain × Plain
pair_seen p = (plain p.group, plain p.member)
