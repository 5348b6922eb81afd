use Rattle.std.proofs.Common.{◌≡◌, ◌++◌, ◌-◌, length, drop}
use Rattle.std.specs.List.{flat_map, zip}
use Rattle.reql_feed_spec.specs.Value.{contribution}
use Rattle.reql_feed_read.specs.Follows.{shape_of}
use Rattle.reql_feed_range.proofs.opening.parts_of.Given as goal

abbrev pub invariant-loop-key : goal.invariant-loop-key
invariant-loop-key l =
    l.parts ++ flat_map (contribution (shape_of l.shape)) (drop l.place (zip l.all.values l.all.documents))
    ≡ flat_map (contribution (shape_of l.shape)) (zip l.all.values l.all.documents)

abbrev pub decreases-loop-key : goal.decreases-loop-key
decreases-loop-key l = length (zip l.all.values l.all.documents) - l.place
