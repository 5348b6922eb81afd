use Rattle.std.proofs.Common.{◌≡◌, ◌++◌, drop, map, option_map}
use Rattle.serde_json.specs.View.{items_view}
use Rattle.reql_table_records.specs.Reading.{all_in}
use Rattle.reql_table_records.specs.Records.{record_of}
use Rattle.reql_table_records.proofs.read.all_in.Given as goal

abbrev pub invariant-loop-item : goal.invariant-loop-item
invariant-loop-item l =
    all_in (items_view l.items) ≡ option_map (λ rs. map record_of l.records.items ++ rs) (all_in (items_view (drop l.item-index l.items)))
