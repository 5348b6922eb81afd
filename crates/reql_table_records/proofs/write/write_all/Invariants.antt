use Rattle.std.proofs.Common.{◌≡◌, ◌++◌, drop, map, false}
use Rattle.serde_json.specs.Written.{items_text}
use Rattle.reql_table_spec.specs.Engines.{kept_of}
use Rattle.reql_table_records.specs.Records.{changes_items}
use Rattle.reql_table_records.proofs.write.write_all.Given as goal

abbrev pub invariant-loop-change : goal.invariant-loop-change
invariant-loop-change l =
    l.out.items ++ items_text l.later (changes_items (map kept_of (drop l.change-index l.changes))) ≡ l.initial.out.items ++ items_text false (changes_items (map kept_of l.changes))
