use Rattle.std.proofs.Common.{◌≡◌, ◌≤◌, ◌+◌, ◌-◌, drop, length}
use Rattle.reql_plan_spec.specs.Writes.{lacking}
use Rattle.reql_plan_commands.proofs.documents.lacking.Given as goal

abbrev pub decreases-loop-document : goal.decreases-loop-document
decreases-loop-document l = length l.docs - l.place

abbrev pub invariant-loop-document : goal.invariant-loop-document
invariant-loop-document l = record {
  whole : l.count + lacking l.field (drop l.place l.docs) ≡ lacking l.field l.docs;
  within : l.count ≤ l.place;
}
