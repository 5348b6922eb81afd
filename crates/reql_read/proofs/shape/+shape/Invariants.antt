use Rattle.std.proofs.Common.{◌≡◌, ◌≤◌, ◌+◌, ◌*◌, drop}
use Rattle.serde_json.specs.View.{view, items_view, members_view}
use Rattle.reql_read.specs.Apart.{done}
use Rattle.reql_read.specs.Seen.{optional}
use Rattle.reql_read.specs.Shape.{shaped_all, shaped_named}
use Rattle.reql_read.specs.Weight.{weight, items_weight, members_weight}
use Rattle.reql_read.proofs.shape.+shape.Given as goal

abbrev pub invariant-shaped_all-loop-item : goal.invariant-shaped_all-loop-item
invariant-shaped_all-loop-item l = done (shaped_all (items_view l.items)) ≡ done (shaped_all (items_view (drop l.item-index l.items)))

abbrev pub invariant-shaped_named-loop-member : goal.invariant-shaped_named-loop-member
invariant-shaped_named-loop-member l = record {
  rest : done (shaped_named (members_view l.members.entries)) ≡ done (shaped_named (members_view l.member-iterator));
  weighs : members_weight (members_view l.member-iterator) ≤ members_weight (members_view l.members.entries);
}

abbrev pub decreases-shaped : goal.decreases-shaped
decreases-shaped l = 8 * weight (view l.v.now)

abbrev pub decreases-shaped_all : goal.decreases-shaped_all
decreases-shaped_all l = 8 * items_weight (items_view l.items.now) + 1

abbrev pub decreases-shaped_named : goal.decreases-shaped_named
decreases-shaped_named l = 8 * members_weight (members_view l.members.now.entries) + 1

abbrev pub decreases-shaped_term : goal.decreases-shaped_term
decreases-shaped_term l = 8 * items_weight (items_view l.term.now) + 3

abbrev pub decreases-shaped_options : goal.decreases-shaped_options
decreases-shaped_options l = 8 * members_weight (optional l.options) + 3
