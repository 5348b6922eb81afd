use Rattle.std.proofs.Common.{◌≡◌, map, drop}
use Rattle.reql_datum.specs.Shapes.{members_shape, beside}
use Rattle.reql_datum.specs.View.{member}
use Rattle.reql_datum.proofs.shape.shape_of_all.Given as goal

abbrev pub invariant-loop-field : goal.invariant-loop-field
invariant-loop-field l = beside l.shape (members_shape (map member (drop l.field-index l.fields))) ≡ members_shape (map member l.fields)
