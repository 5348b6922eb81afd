use Rattle.std.proofs.Common.{drop, map}
use Rattle.reql_datum.specs.View.{plain}
use Rattle.reql_rules.specs.Grouping.{gather}
use Rattle.reql_group.specs.Seen.{pair_seen}
use Rattle.reql_group.specs.Gathered.{Gathers}
use Rattle.reql_group.proofs.gathering.runs.Given as goal

abbrev pub invariant-loop-pair : goal.invariant-loop-pair
invariant-loop-pair l = Gathers l.groups (plain l.run.group) l.run.members (map pair_seen (drop l.pair-index l.pairs)) (gather (map pair_seen l.pairs))
