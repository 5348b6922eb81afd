use Rattle.reql_operand.specs.Tables.{seen}
use Rattle.reql_apply_path.proofs.subjects.subject_in.Goals as goal

pub returns-in-Function : goal.returns-in-Function
returns-in-Function g c = rw c.in-Function.is (c.no_subject.ensures.which (seen g.V.TableView.documents g.V.TableView.indexes g.V.TableView.entries c.args.world.now))

pub returns-in-Directed : goal.returns-in-Directed
returns-in-Directed g c = rw c.in-Directed.is (c.no_subject-in-Directed.ensures.which (seen g.V.TableView.documents g.V.TableView.indexes g.V.TableView.entries c.args.world.now))

pub returns-in-Late : goal.returns-in-Late
returns-in-Late g c = rw c.in-Late.is (c.no_subject-in-Late.ensures.which (seen g.V.TableView.documents g.V.TableView.indexes g.V.TableView.entries c.args.world.now))
