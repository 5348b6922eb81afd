use Rattle.std.proofs.Common.{◌≡◌, map}
use Rattle.std.specs.Vec.Iter.{into_iter_items}
use Rattle.reql_table_records.specs.Records.{record_of}
use Rattle.reql_table_records.specs.Standing.{after_records}
use Rattle.reql_table_records.proofs.restores.apply_all.Given as goal

abbrev pub invariant-loop-made : goal.invariant-loop-made
invariant-loop-made g l =
    after_records (g.T.Restores.standing l.table) (map record_of (into_iter_items l.made-iterator)) ≡ after_records (g.T.Restores.standing l.initial.table) (map record_of (into_iter_items l.initial.made-iterator))
