use Rattle.reql_table_spec.proofs.Replays.{refused_stays, docs_at_stamp, stamp_counts, later_docs, docs_stay, tables_stay, making_stays, shut_where_dropped}
use Rattle.reql_table_spec.proofs.Folding.{writes_land}
use Rattle.reql_table_spec.proofs.Records.{recorded_fit}
use Rattle.reql_table_spec.proofs.Stays.{good_stay, indexes_stay}
use Rattle.reql_table_spec.proofs.Endings.{feeds_come, unsubscribes_told, looks_tell}
use Rattle.reql_table_spec.proofs.laws.table_laws.Goals as goal

pub returns : goal.returns
returns c = record { refused = refused_stays; recorded = recorded_fit; docs = docs_at_stamp; stamp = stamp_counts; later = later_docs; stay = docs_stay; tables = tables_stay; writes = writes_land; good = good_stay; indexes = indexes_stay; making = making_stays; feeds = feeds_come; closed = unsubscribes_told; shut = shut_where_dropped; looks = looks_tell }
