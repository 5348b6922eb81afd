use Rattle.std.proofs.Common.{◌≡◌, ◌≤◌, ◌+◌, ◌*◌, ◌++◌, drop}
use Rattle.std.specs.Map.{keys_of}
use Rattle.serde_json.specs.View.{view, items_view, members_view}
use Rattle.reql_json.proofs.Rising.{names}
use Rattle.reql_read.specs.Seen.{optional}
use Rattle.reql_read.specs.Weight.{weight, items_weight, members_weight}
use Rattle.reql_read.proofs.Steps.{AllGoOn, NamedGoOn}
use Rattle.reql_read.proofs.read.+read.Given as goal

abbrev pub invariant-read_all-loop-item : goal.invariant-read_all-loop-item
invariant-read_all-loop-item l = AllGoOn (items_view l.items) (items_view (drop l.item-index l.items)) l.terms

abbrev pub invariant-read_named-loop-key : goal.invariant-read_named-loop-key
invariant-read_named-loop-key l = record {
  rest : NamedGoOn (members_view l.members.entries) (members_view l.key-iterator) l.fields;
  names : keys_of l.fields ++ names l.key-iterator ≡ names l.members.entries;
  weighs : members_weight (members_view l.key-iterator) ≤ members_weight (members_view l.members.entries);
}

abbrev pub decreases-read : goal.decreases-read
decreases-read l = 8 * weight (view l.v.now)

abbrev pub decreases-read_all : goal.decreases-read_all
decreases-read_all l = 8 * items_weight (items_view l.items.now) + 1

abbrev pub decreases-read_named : goal.decreases-read_named
decreases-read_named l = 8 * members_weight (members_view l.members.now.entries) + 1

abbrev pub decreases-read_object : goal.decreases-read_object
decreases-read_object l = 8 * members_weight (members_view l.members.now.entries) + 2

abbrev pub decreases-read_options : goal.decreases-read_options
decreases-read_options l = 8 * members_weight (optional l.options) + 3

abbrev pub decreases-read_term : goal.decreases-read_term
decreases-read_term l = 8 * items_weight (items_view l.term.now) + 3

abbrev pub decreases-read_written : goal.decreases-read_written
decreases-read_written l = 8 * (items_weight (items_view l.args.now) + members_weight (optional l.options)) + 7

abbrev pub decreases-read_array : goal.decreases-read_array
decreases-read_array l = 8 * (items_weight (items_view l.args.now) + members_weight (optional l.options)) + 6

abbrev pub decreases-read_members : goal.decreases-read_members
decreases-read_members l = 8 * (items_weight (items_view l.args.now) + members_weight (optional l.options)) + 6

abbrev pub decreases-read_variable : goal.decreases-read_variable
decreases-read_variable l = 8 * (items_weight (items_view l.args.now) + members_weight (optional l.options)) + 6

abbrev pub decreases-read_row : goal.decreases-read_row
decreases-read_row l = 8 * (items_weight (items_view l.args.now) + members_weight (optional l.options)) + 6

abbrev pub decreases-read_function : goal.decreases-read_function
decreases-read_function l = 8 * (items_weight (items_view l.args.now) + members_weight (optional l.options)) + 6

abbrev pub decreases-read_call : goal.decreases-read_call
decreases-read_call l = 8 * (items_weight (items_view l.args.now) + members_weight (optional l.options)) + 5
