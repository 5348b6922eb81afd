use Rattle.std.proofs.Common.{◌∷◌}
use Rattle.reql_value_spec.specs.Sequences.{slice_rule}
use Rattle.reql_operand.specs.Seen.{shown, all_shown, all_chosen}
use Rattle.reql_operand.specs.Tables.{seen}
use Rattle.reql_apply_seq.proofs.slicing.slice_in.Goals as goal

pub returns : goal.returns
returns g c = λ calls.
    let w = seen g.V.TableView.documents g.V.TableView.indexes g.V.TableView.entries c.args.world.now in
    c.part_alike.ensures w (slice_rule w calls (shown w c.args.source.now ∷ shown w c.args.from.now ∷ all_shown w c.args.rest.now) (all_chosen w c.args.opts.now)) (c.slice_of-kept.ensures calls)
