use Rattle.std.proofs.Common.{suc, ◌-◌, length, drop}
use Rattle.reql_datum.specs.Plain.{pairs_of, pairs_depth}
use Rattle.reql_rules.specs.Patterns.{part_of_pairs}
use Rattle.reql_path.proofs.Gathered.{More}
use Rattle.reql_path.proofs.gathering.add_fields.Given as goal

abbrev pub invariant-loop-name : goal.invariant-loop-name
invariant-loop-name l =
    More l.initial.named.entries l.named.entries (λ k. part_of_pairs k (pairs_of (drop l.place l.fields))) (suc (pairs_depth (pairs_of (drop l.place l.fields))))
    (λ k. part_of_pairs k (pairs_of l.fields)) (suc (pairs_depth (pairs_of l.fields)))

abbrev pub decreases-loop-name : goal.decreases-loop-name
decreases-loop-name l = length l.fields - l.place
