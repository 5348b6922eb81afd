use Rattle.std.proofs.Common.{ap}
use Rattle.reql_table_spec.specs.Table.{held}
use Rattle.reql_table_spec.specs.declared.command.FeedSpec.{FeedSpec}
use Rattle.reql_table.specs.Seen.{documents_of, indexes_of}
use Rattle.reql_tally.proofs.Tellings.{value_is}
use Rattle.reql_tally.proofs.values.value_in.Goals as goal

pub returns : goal.returns
returns g c =
    value_is (g.F.Following.held c.args.opened.now.feed) (held (indexes_of c.args.table.now) c.args.spec.now) (documents_of c.args.table.now) _ _ _ _ _ _ c.requires.keeps c.requires.opening c.in_ok-told.ensures c.kind.ensures
    (ap (λ (s : FeedSpec). s.offsets) c.spec.ensures) c.in_ok-values.ensures c.in_ok-rest.ensures
