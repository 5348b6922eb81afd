use Rattle.reql_datum.proofs.Laws.{below_is, equal_is, less_total, less_irreflexive, less_transitive}
use Rattle.reql_datum.specs.Total.{order_total}
use Rattle.reql_datum.proofs.comparing.order_laws.Goals as goal

pub returns : goal.returns
returns c = record { total = less_total; irreflexive = less_irreflexive; transitive = less_transitive; below = below_is; equal = equal_is; answer = order_total }
