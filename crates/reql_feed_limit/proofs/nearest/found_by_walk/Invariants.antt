use Rattle.std.proofs.Common.{option_map}
use Rattle.reql_datum.specs.View.{plain}
use Rattle.reql_feed_limit.specs.Walk.{Walked, left_to_walk}
use Rattle.reql_feed_limit.specs.Order.{spot_of}
use Rattle.reql_feed_limit.specs.Seen.{seen}
use Rattle.reql_table.specs.Seen.{documents_of}
use Rattle.reql_term.specs.Views.{index_of}
use Rattle.reql_feed_limit.proofs.nearest.found_by_walk.Given as goal

abbrev pub invariant-loop-found : goal.invariant-loop-found
invariant-loop-found g l =
    Walked l.descending (plain l.pair) (spot_of (option_map index_of l.index)) (documents_of l.after) (option_map (λ m. (plain m.0.now, plain m.1.now)) l.found) (option_map seen l.best)

abbrev pub decreases-loop-found : goal.decreases-loop-found
decreases-loop-found g l = left_to_walk (documents_of l.after) (option_map (λ m. (plain m.0.now, plain m.1.now)) l.found)
