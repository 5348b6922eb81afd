use Rattle.std.proofs.Common.{◌≡◌, ◌++◌, ◌-◌, length, drop, map, nat_lt, false}
use Rattle.serde_json.specs.Written.{items_text}
use Rattle.serde_json.specs.View.{items_of}
use Rattle.reql_datum.specs.View.{plain}
use Rattle.reql_json.specs.Showing.{shown}
use Rattle.reql_bodies.proofs.results.write_list.Given as goal

abbrev pub invariant-loop-document : goal.invariant-loop-document
invariant-loop-document l =
    l.out.items ++ items_text (nat_lt 0 l.place) (items_of (map shown (map plain (drop l.place l.documents)))) ≡ l.initial.out.items ++ items_text false (items_of (map shown (map plain l.documents)))

abbrev pub decreases-loop-document : goal.decreases-loop-document
decreases-loop-document l = length l.documents - l.place
