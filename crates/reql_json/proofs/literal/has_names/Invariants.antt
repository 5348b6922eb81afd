use Rattle.std.proofs.Common.{◌≡◌, map, drop}
use Rattle.serde_json.specs.View.{members_view}
use Rattle.reql_json.specs.Literal.{has_names}
use Rattle.reql_json.proofs.literal.has_names.Given as goal

abbrev pub invariant-loop-name : goal.invariant-loop-name
invariant-loop-name l = has_names (map (λ n. n.now) l.names) (members_view l.members.entries) ≡ has_names (map (λ n. n.now) (drop l.name-index l.names)) (members_view l.entries)
