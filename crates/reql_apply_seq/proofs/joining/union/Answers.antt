use Rattle.std.proofs.Common.{◌≡◌, ◌∙◌, ap}
use Rattle.std.specs.List.{list_all}
use Rattle.reql_rules.specs.Lists.{joined}
use Rattle.reql_operand.specs.Tables.{seen}
use Rattle.reql_apply_seq.specs.Sources.{is_plain, kind_of}
use Rattle.reql_apply_seq.proofs.Arrays.{union_is}
use Rattle.reql_apply_seq.proofs.joining.union.Goals as goal

pub returns : goal.returns
returns g c = λ calls opts.
    let w = seen g.V.TableView.documents g.V.TableView.indexes g.V.TableView.entries c.args.world.now in
    union_is w calls c.args.args.now opts c.in_ok-sequences.sequences.items _ c.in_ok-sequences.ensures
    (c.in_kind.ensures w ∙ ap (kind_of (list_all is_plain c.args.args.now)) (c.in_ok-all.ensures ∙ ap joined c.deref.ensures.value))
