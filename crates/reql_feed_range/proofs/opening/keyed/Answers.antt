use Rattle.reql_table.specs.Seen.{documents_of, indexes_of, entries_at}
use Rattle.reql_term.specs.Views.{entries_in}
use Rattle.reql_feed_range.proofs.Documents.{all_zipped}
use Rattle.reql_feed_range.proofs.opening.keyed.Goals as goal

pub returns-in-Ok : goal.returns-in-Ok
returns-in-Ok c =
    let t = c.args.table.now in
    all_zipped (documents_of t) (entries_in (documents_of t) (indexes_of t) (entries_at t) c.args.range.now) c.in-Ok.found.values c.in-Ok.found.documents
    (c.requires.all (documents_of t) (indexes_of t) (entries_at t)) c.in-Ok.ensures
