use Rattle.std.proofs.Common.{◌≡◌, ◌++◌, drop, Ok}
use Rattle.std.specs.Map.{keys_of}
use Rattle.serde_json.specs.View.{items_view, members_view}
use Rattle.reql_datum.specs.Answer.{◌>>=◌}
use Rattle.reql_json.specs.Reading.{documents, members}
use Rattle.reql_json.proofs.Rising.{names}
use Rattle.reql_json.proofs.read.+document.Given as goal

abbrev pub invariant-list-loop-item : goal.invariant-list-loop-item
invariant-list-loop-item l = documents (items_view l.item-items) ≡ (documents (items_view (drop l.item-index l.item-items)) >>= λ vs. Ok (l.out ++ vs))

abbrev pub invariant-object-loop-key : goal.invariant-object-loop-key
invariant-object-loop-key l = record {
  rest : members (members_view l.held.entries) ≡ (members (members_view l.key-iterator) >>= λ ms. Ok (l.out ++ ms));
  names : keys_of l.out ++ names l.key-iterator ≡ names l.held.entries;
}
