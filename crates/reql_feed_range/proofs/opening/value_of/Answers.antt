use Rattle.std.specs.List.{zip}
use Rattle.reql_table.specs.Seen.{documents_of}
use Rattle.reql_feed_range.proofs.Documents.{value_found}
use Rattle.reql_feed_range.proofs.opening.value_of.Goals as goal

pub returns : goal.returns
returns c =
    value_found c.args.shape.now (documents_of c.args.table.now) (zip c.in_ok-all.all.values c.in_ok-all.all.documents) c.in_ok-parts.parts c.in_ok-value.value c.in_ok-all.ensures c.in_ok-parts.ensures c.in_ok-value.ensures.items
