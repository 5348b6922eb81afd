use Rattle.reql_operand.specs.Tables.{seen}
use Rattle.reql_apply.proofs.operators.apply.Goals as goal

pub returns-in-Scalar : goal.returns-in-Scalar
returns-in-Scalar g c calls h = rw c.in-Scalar.is (c.by_scalar.ensures calls h)

pub returns-in-OnArray : goal.returns-in-OnArray
returns-in-OnArray g c calls h =
    let w = seen g.V.TableView.documents g.V.TableView.indexes g.V.TableView.entries c.args.world.now in
    rw c.in-OnArray.is (c.by_array.ensures w calls)

pub returns-in-OnSequence : goal.returns-in-OnSequence
returns-in-OnSequence g c calls h = rw c.in-OnSequence.is (c.by_sequence.ensures calls h)

pub returns-in-OnPart : goal.returns-in-OnPart
returns-in-OnPart g c calls h = rw c.in-OnPart.is (c.by_part.ensures calls)

pub returns-in-OnFields : goal.returns-in-OnFields
returns-in-OnFields g c calls h = rw c.in-OnFields.is (c.by_fields.ensures calls h)

pub returns-in-OnTable : goal.returns-in-OnTable
returns-in-OnTable g c calls h = rw c.in-OnTable.is (c.by_table.ensures calls)

pub returns-in-OnGroups : goal.returns-in-OnGroups
returns-in-OnGroups g c calls h = rw c.in-OnGroups.is (c.by_grouping.ensures calls h)
