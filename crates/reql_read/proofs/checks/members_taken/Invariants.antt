use Rattle.std.proofs.Common.{◌≡◌}
use Rattle.serde_json.specs.View.{members_view}
use Rattle.reql_read.specs.Apart.{names_in}
use Rattle.reql_read.specs.Reading.{all_taken}
use Rattle.reql_read.proofs.checks.members_taken.Given as goal

abbrev pub invariant-loop-key : goal.invariant-loop-key
invariant-loop-key l = all_taken l.op (names_in (members_view l.members.entries)) ≡ all_taken l.op (names_in (members_view l.key-iterator))
