use Rattle.std.proofs.Common.{Option, subst}
use Rattle.reql_datum.specs.Outcome.{Gives}
use Rattle.reql_rules.specs.Lists.{Bytes}
use Rattle.reql_operand.specs.Seen.{meant, shown, all_shown}
use Rattle.reql_operand.specs.Tables.{seen}
use Rattle.reql_apply_path.specs.Brackets.{bracket_named}
use Rattle.reql_apply_path.proofs.fields.bracket_named.Goals as goal

pub returns-in-Some : goal.returns-in-Some
returns-in-Some g c calls opts =
    let w = seen g.V.TableView.documents g.V.TableView.indexes g.V.TableView.entries c.args.world.now in
    subst (λ (s : Option Bytes). Gives (meant w) c.get_field_rule.result (bracket_named s w calls (all_shown w c.args.args.now) (shown w c.args.by.now) opts))
    (c.in-Some.ensures w) (c.get_field_rule.ensures calls opts)
