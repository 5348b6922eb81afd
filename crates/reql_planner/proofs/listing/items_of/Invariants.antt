use Rattle.std.proofs.Common.{◌≡◌, map, take}
use Rattle.reql_plan_results.specs.Seen.{item}
use Rattle.reql_planner.specs.Items.{bare_of, bare_in}
use Rattle.reql_planner.proofs.listing.items_of.Given as goal

abbrev pub invariant-loop-one : goal.invariant-loop-one
invariant-loop-one l = map bare_of l.items.items ≡ map bare_in (map item (take l.one-index l.first))
