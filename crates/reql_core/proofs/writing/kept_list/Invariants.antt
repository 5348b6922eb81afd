use Rattle.std.proofs.Common.{◌≡◌, ◌++◌, drop, map}
use Rattle.reql_table_spec.specs.Engines.{kept_of}
use Rattle.reql_table_spec.specs.Table.{at_key}
use Rattle.reql_feeds.specs.Turn.{told}
use Rattle.reql_core.proofs.writing.kept_list.Given as goal

abbrev pub invariant-loop-change : goal.invariant-loop-change
invariant-loop-change l = map kept_of l.list.items ++ map at_key (map told (drop l.change-index l.changes)) ≡ map at_key (map told l.changes)
