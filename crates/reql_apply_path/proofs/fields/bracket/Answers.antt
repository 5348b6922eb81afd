use Rattle.std.proofs.Common.{◌≡◌, length, sym, subst, arith}
use Rattle.reql_datum.specs.Answer.{Answer}
use Rattle.reql_datum.specs.Outcome.{Gives}
use Rattle.reql_value_spec.specs.Meant.{Meant}
use Rattle.reql_operand.specs.Seen.{meant, shown}
use Rattle.reql_operand.specs.Tables.{seen}
use Rattle.reql_apply_path.proofs.Bracketed.{bracket_is}
use Rattle.reql_apply_path.proofs.fields.bracket.Goals as goal

pub returns-in-len2 : goal.returns-in-len2
returns-in-len2 g c calls opts =
    let w = seen g.V.TableView.documents g.V.TableView.indexes g.V.TableView.entries c.args.world.now in
    let two : length c.args.args.now ≡ 2 = omega (arith, c.in-len2.len_at_least, c.in-len2.len_below) in
    subst (λ (r : Answer Meant). Gives (meant w) c.bracket_at.result r) (sym (bracket_is (shown w) c.args.args.now c.by-item.result w calls opts two c.by-item.is)) (c.bracket_at.ensures calls opts)
