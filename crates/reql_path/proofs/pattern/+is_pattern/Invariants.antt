use Rattle.std.proofs.Common.{◌≡◌, ◌-◌, length, drop}
use Rattle.reql_datum.specs.Plain.{items_of, pairs_of, weight, list_weight, members_weight}
use Rattle.reql_datum.specs.View.{plain}
use Rattle.reql_rules.specs.Patterns.{are_patterns, are_field_patterns}
use Rattle.reql_path.proofs.pattern.+is_pattern.Given as goal

abbrev pub decreases-is_pattern : goal.decreases-is_pattern
decreases-is_pattern l = weight (plain l.d.now)

abbrev pub decreases-are_patterns : goal.decreases-are_patterns
decreases-are_patterns l = list_weight l.patterns.now

abbrev pub decreases-are_field_patterns : goal.decreases-are_field_patterns
decreases-are_field_patterns l = members_weight l.named.now

abbrev pub invariant-are_patterns-loop-pattern : goal.invariant-are_patterns-loop-pattern
invariant-are_patterns-loop-pattern l = are_patterns (items_of (drop l.place l.patterns)) ≡ are_patterns (items_of l.patterns)

abbrev pub decreases-are_patterns-loop-pattern : goal.decreases-are_patterns-loop-pattern
decreases-are_patterns-loop-pattern l = length l.patterns - l.place

abbrev pub invariant-are_field_patterns-loop-name : goal.invariant-are_field_patterns-loop-name
invariant-are_field_patterns-loop-name l = are_field_patterns (pairs_of (drop l.place l.named)) ≡ are_field_patterns (pairs_of l.named)

abbrev pub decreases-are_field_patterns-loop-name : goal.decreases-are_field_patterns-loop-name
decreases-are_field_patterns-loop-name l = length l.named - l.place
