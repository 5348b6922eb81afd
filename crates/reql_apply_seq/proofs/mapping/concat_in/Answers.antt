use Rattle.std.proofs.Common.{[], ◌∷◌}
use Rattle.reql_value_spec.specs.Sequences.{concat_map}
use Rattle.reql_operand.specs.Seen.{shown}
use Rattle.reql_operand.specs.Tables.{seen}
use Rattle.reql_apply_seq.proofs.mapping.concat_in.Goals as goal

pub returns : goal.returns
returns g c = λ calls h opts.
    let w = seen g.V.TableView.documents g.V.TableView.indexes g.V.TableView.entries c.args.world.now in
    c.liked.ensures w (concat_map w calls (shown w c.args.source.now ∷ shown w c.args.f.now ∷ []) opts) (c.all_joined-joined.ensures calls h opts)
