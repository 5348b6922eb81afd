use Rattle.reql_operand.specs.Tables.{seen}
use Rattle.reql_apply_scalar.proofs.coercing.array_of.Goals as goal

pub returns-in-One : goal.returns-in-One
returns-in-One g c =
    let told = c.refused.ensures (seen g.V.TableView.documents g.V.TableView.indexes g.V.TableView.entries c.args.world.now) in
    rw c.in-One.is (rw c.in-One.is at told)

pub returns-in-Row : goal.returns-in-Row
returns-in-Row g c =
    let told = c.refused-in-Row.ensures (seen g.V.TableView.documents g.V.TableView.indexes g.V.TableView.entries c.args.world.now) in
    rw c.in-Row.is (rw c.in-Row.is at told)

pub returns-in-Grouped : goal.returns-in-Grouped
returns-in-Grouped g c =
    let told = c.refused-in-Grouped.ensures (seen g.V.TableView.documents g.V.TableView.indexes g.V.TableView.entries c.args.world.now) in
    rw c.in-Grouped.is (rw c.in-Grouped.is at told)

pub returns-in-Database : goal.returns-in-Database
returns-in-Database g c =
    let told = c.refused-in-Database.ensures (seen g.V.TableView.documents g.V.TableView.indexes g.V.TableView.entries c.args.world.now) in
    rw c.in-Database.is (rw c.in-Database.is at told)

pub returns-in-Function : goal.returns-in-Function
returns-in-Function g c =
    let told = c.refused-in-Function.ensures (seen g.V.TableView.documents g.V.TableView.indexes g.V.TableView.entries c.args.world.now) in
    rw c.in-Function.is (rw c.in-Function.is at told)
