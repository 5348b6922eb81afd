use Rattle.std.proofs.Common.{◌-◌, length, drop}
use Rattle.reql_datum.specs.Plain.{items_of, items_depth, weight, list_weight}
use Rattle.reql_datum.specs.View.{plain}
use Rattle.reql_rules.specs.Patterns.{part_of_items}
use Rattle.reql_path.proofs.Gathered.{More}
use Rattle.reql_path.proofs.gathering.+add.Given as goal

abbrev pub decreases-add : goal.decreases-add
decreases-add l = weight (plain l.pattern.now)

abbrev pub decreases-add_all : goal.decreases-add_all
decreases-add_all l = list_weight l.patterns.now

abbrev pub invariant-add_all-loop-pattern : goal.invariant-add_all-loop-pattern
invariant-add_all-loop-pattern l =
    More l.initial.named.entries l.named.entries (λ k. part_of_items k (items_of (drop l.place l.patterns))) (items_depth (items_of (drop l.place l.patterns)))
    (λ k. part_of_items k (items_of l.patterns)) (items_depth (items_of l.patterns))

abbrev pub decreases-add_all-loop-pattern : goal.decreases-add_all-loop-pattern
decreases-add_all-loop-pattern l = length l.patterns - l.place
