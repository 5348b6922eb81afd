use Rattle.std.proofs.Common.{◌≡◌, ◌<◌, ◌≤◌, ◌^◌, ◌-◌, drop}
use Rattle.reql_plan_spec.specs.Keys.{number_from}
use Rattle.reql_plan_results.proofs.keys.number_of.Given as goal

abbrev pub decreases-loop-place : goal.decreases-loop-place
decreases-loop-place l = 16 - l.place

abbrev pub invariant-loop-place : goal.invariant-loop-place
invariant-loop-place l = record {
  whole : number_from l.number (drop l.place l.bytes) ≡ number_from 0 l.bytes;
  fits : l.number < 256 ^ l.place;
  within : l.place ≤ 16;
}
