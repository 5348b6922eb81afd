use Rattle.std.proofs.Common.{◌≡◌, map, drop}
use Rattle.reql_datum.specs.View.{plain}
use Rattle.reql_load.specs.Folded.{folded_by}
use Rattle.reql_load.proofs.fold.take_all.Given as goal

abbrev pub invariant-loop-item : goal.invariant-loop-item
invariant-loop-item l = folded_by l.way (map plain l.list.items) (map (λ i. plain i.1) (drop l.item-index l.items)) ≡ folded_by l.way (map plain l.fn.list.items) (map (λ i. plain i.1) l.items)
