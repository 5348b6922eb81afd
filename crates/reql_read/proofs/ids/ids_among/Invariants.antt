use Rattle.std.proofs.Common.{◌≡◌, drop, [], ℕ, not}
use Rattle.std.specs.Ordering.{nat_cmp}
use Rattle.std.specs.BTreeSet.{contains}
use Rattle.serde_json.specs.View.{items_view}
use Rattle.reql_read.specs.Apart.{ids_among}
use Rattle.reql_read.specs.Shape.{is_new}
use Rattle.reql_read.proofs.ids.ids_among.Given as goal

abbrev pub invariant-loop-item : goal.invariant-loop-item
invariant-loop-item l = record {
  rest : ids_among [] (items_view l.items) ≡ ids_among l.ids (items_view (drop l.item-index l.items));
  seen : (x : ℕ) → contains nat_cmp l.seen x ≡ not (is_new x l.ids);
}
