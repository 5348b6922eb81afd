-- What a feed looks for in a table stays there while indexes change.
use Rattle.std.proofs.Common.{ℕ, Option, Some, None, arith}
use Rattle.reql_term.specs.Views.{Index}
use Rattle.reql_table.specs.Seen.{Standing}
use Rattle.reql_feed_limit.specs.Feed.{Feed}
use Rattle.reql_opening.specs.Opens.{Follows}
use Rattle.reql_open_feed.specs.First.{FindsTree, FirstReads}
use Rattle.reql_open_feed.specs.Open.{Reads}
use Rattle.reql_open_feed.specs.declared.feed.OpenFeed.{OpenFeed}
use Rattle.reql_open_feed.specs.declared.feed.OpenFeed.TheVariants as feeds

tree_stays : (n : ℕ) (o : Option Index) (t u : Standing) → Follows t u → FindsTree n o t → FindsTree n o u
tree_stays n None t u f there = tt
tree_stays n (Some i) t u f there = let next = f.next in let below = there.0 in (omega (arith, next, below), f.trees n i there.0 there.1)

first_stays : (o : Option Feed) (t u : Standing) → Follows t u → FirstReads o t → FirstReads o u
first_stays None t u f there = tt
first_stays (Some x) t u f there = tree_stays x.tree x.order.index t u f there

pub reads_stay : (f : OpenFeed) (t u : Standing) → Follows t u → Reads f t → Reads f u
reads_stay (feeds.Range h) t u f there = tt
reads_stay (feeds.First x) t u f there = first_stays x.feed t u f there
