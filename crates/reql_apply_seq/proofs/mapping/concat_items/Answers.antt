use Rattle.std.proofs.Common.{rules}
use Rattle.reql_value_spec.specs.Called.{answer_items}
use Rattle.reql_operand.specs.Seen.{shown}
use Rattle.reql_operand.specs.Tables.{seen}
use Rattle.reql_apply_seq.proofs.mapping.concat_items.Goals as goal

pub returns : goal.returns
returns g c = λ calls h.
    let w = seen g.V.TableView.documents g.V.TableView.indexes g.V.TableView.entries c.args.world.now in
    c.concat_map.ensures (answer_items w calls (shown w c.args.f.now)) (search rules)
