use Rattle.std.proofs.Common.{◌≡◌, ◌++◌, ◌-◌, length, drop, true}
use Rattle.std.specs.Map.{keys_of}
use Rattle.reql_datum.specs.Kinds.{are_storable, are_members_storable}
use Rattle.reql_datum.specs.Plain.{items_of, pairs_of, weight, list_weight, members_weight}
use Rattle.reql_datum.specs.View.{plain}
use Rattle.reql_json.specs.Inverse.{all_in_range, pairs_in_range}
use Rattle.reql_json.specs.Showing.{items_shown, members_shown}
use Rattle.reql_json.proofs.Rising.{names}
use Rattle.reql_json.proofs.Shown.{items_with, members_with}
use Rattle.reql_json.proofs.show.+value.Given as goal

abbrev pub decreases-value_of : goal.decreases-value_of
decreases-value_of l = weight (plain l.d.now)

abbrev pub decreases-array : goal.decreases-array
decreases-array l = list_weight l.items.now

abbrev pub decreases-map : goal.decreases-map
decreases-map l = members_weight l.fields.now

abbrev pub invariant-array-loop-item : goal.invariant-array-loop-item
invariant-array-loop-item l = record {
  rest : items_shown (items_of l.items) ≡ items_with l.out.items (items_shown (items_of (drop l.place l.items)));
  in_range : all_in_range (items_of l.items) ≡ all_in_range (items_of (drop l.place l.items));
  storable : are_storable (items_of (drop l.place l.items)) ≡ true;
}

abbrev pub decreases-array-loop-item : goal.decreases-array-loop-item
decreases-array-loop-item l = length l.items - l.place

abbrev pub invariant-map-loop-name : goal.invariant-map-loop-name
invariant-map-loop-name l = record {
  rest : members_shown (pairs_of l.fields) ≡ members_with l.out.entries (members_shown (pairs_of (drop l.place l.fields)));
  names : names l.out.entries ++ keys_of (drop l.place l.fields) ≡ keys_of l.fields;
  in_range : pairs_in_range (pairs_of l.fields) ≡ pairs_in_range (pairs_of (drop l.place l.fields));
  storable : are_members_storable (pairs_of (drop l.place l.fields)) ≡ true;
}

abbrev pub decreases-map-loop-name : goal.decreases-map-loop-name
decreases-map-loop-name l = length l.fields - l.place
