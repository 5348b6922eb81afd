use Rattle.reql_value_spec.specs.Meant.{meant_of}
use Rattle.reql_operand.specs.Seen.{shown}
use Rattle.reql_operand.specs.Tables.{seen}
use Rattle.reql_apply_seq.proofs.Indexes.{distinct_seen}
use Rattle.reql_apply_seq.proofs.distinguishing.distinct_by_index.Goals as goal

pub returns : goal.returns
returns g c =
    let w = seen g.V.TableView.documents g.V.TableView.indexes g.V.TableView.entries c.args.world.now in
    rw (distinct_seen w c.args.name.now (meant_of (shown w c.args.source.now))) c.distinct_values.ensures
