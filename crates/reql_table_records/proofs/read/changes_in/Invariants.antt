use Rattle.std.proofs.Common.{◌≡◌, ◌++◌, drop, map, option_map}
use Rattle.serde_json.specs.View.{items_view}
use Rattle.reql_table_spec.specs.Engines.{kept_of}
use Rattle.reql_table_records.specs.Reading.{changes_in}
use Rattle.reql_table_records.proofs.read.changes_in.Given as goal

abbrev pub invariant-loop-item : goal.invariant-loop-item
invariant-loop-item l =
    changes_in (items_view l.items) ≡ option_map (λ cs. map kept_of l.changes.items ++ cs) (changes_in (items_view (drop l.item-index l.items)))
