use Rattle.std.proofs.Common.{List}
use Rattle.reql_datum.specs.Plain.{Plain}
use Rattle.reql_rules.specs.Mapping.{concat_all}
use Rattle.reql_value_spec.specs.Called.{answer_items}
use Rattle.reql_value_spec.specs.Wanted.{as_sequence}
use Rattle.reql_operand.specs.Seen.{shown}
use Rattle.reql_operand.specs.Tables.{seen}
use Rattle.reql_apply_seq.proofs.Onwards.{then_gives}
use Rattle.reql_apply_seq.proofs.mapping.all_joined.Goals as goal

pub returns : goal.returns
returns g c = λ calls h opts.
    let w = seen g.V.TableView.documents g.V.TableView.indexes g.V.TableView.entries c.args.world.now in
    then_gives (λ items. items) c.concat_items.result (as_sequence w (shown w c.args.source.now)) c.in_ok-all.all
    (λ (ds : List Plain). concat_all (answer_items w calls (shown w c.args.f.now)) ds) c.in_ok-all.ensures (c.concat_items.ensures calls h)
