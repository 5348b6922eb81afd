use Rattle.std.proofs.Common.{map}
use Rattle.reql_datum.specs.Shapes.{members_shape}
use Rattle.reql_datum.specs.View.{member}
use Rattle.reql_datum.proofs.Shaped.{looked}
use Rattle.reql_datum.proofs.shape.shape_of_all.Goals as goal

pub loop-field-preserved : goal.loop-field-preserved
loop-field-preserved c =
    rw (c.beside-shape.ensures, c.member_shape.ensures)
    (looked c.args.fields.now c.loop-field.field-index c.field-item.result c.loop-field.shape (members_shape (map member c.args.fields.now)) c.loop-field-test.true c.field-item.is c.loop-field.invariant)
