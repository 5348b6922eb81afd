use Rattle.std.proofs.Common.{◌≡◌, ◌+◌, ◌*◌, ◌-◌, length, drop}
use Rattle.reql_datum.specs.Plain.{pairs_of, weight, members_weight}
use Rattle.reql_datum.specs.View.{plain}
use Rattle.reql_value_spec.specs.Matching.{match_all}
use Rattle.reql_operand.proofs.matching.+matching.Given as goal

abbrev pub decreases-matches : goal.decreases-matches
decreases-matches l = 3 * weight (plain l.pattern.now)

abbrev pub decreases-found_matches : goal.decreases-found_matches
decreases-found_matches l = 3 * weight (plain l.pattern.now) + 1

abbrev pub decreases-match_all : goal.decreases-match_all
decreases-match_all l = 3 * members_weight l.named.now

abbrev pub decreases-all_inside : goal.decreases-all_inside
decreases-all_inside l = 3 * members_weight l.named.now + 1

abbrev pub invariant-match_all-loop-name : goal.invariant-match_all-loop-name
invariant-match_all-loop-name l = match_all (pairs_of (drop l.place l.named)) l.object ≡ match_all (pairs_of l.named) l.object

abbrev pub decreases-match_all-loop-name : goal.decreases-match_all-loop-name
decreases-match_all-loop-name l = length l.named - l.place
