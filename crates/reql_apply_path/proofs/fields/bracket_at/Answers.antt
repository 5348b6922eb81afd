use Rattle.std.proofs.Common.{Option, option_and_then, subst, ℤ}
use Rattle.reql_datum.specs.Outcome.{Gives}
use Rattle.reql_rules.specs.Types.{text_in}
use Rattle.reql_value_spec.specs.Wanted.{seen as seen_of}
use Rattle.reql_operand.specs.Seen.{meant, shown, all_shown}
use Rattle.reql_operand.specs.Tables.{seen}
use Rattle.reql_apply_path.specs.Brackets.{bracket_at}
use Rattle.reql_apply_path.proofs.fields.bracket_at.Goals as goal

pub returns-in-Some : goal.returns-in-Some
returns-in-Some g c calls opts =
    let w = seen g.V.TableView.documents g.V.TableView.indexes g.V.TableView.entries c.args.world.now in
    subst (λ (n : Option ℤ). Gives (meant w) c.nth_value.result (bracket_at n (option_and_then text_in (seen_of (shown w c.args.by.now))) w calls (all_shown w c.args.args.now) (shown w c.args.by.now) opts))
    (c.in-Some.ensures w) (c.nth_value.ensures calls opts)

pub returns-in-None : goal.returns-in-None
returns-in-None g c calls opts =
    let w = seen g.V.TableView.documents g.V.TableView.indexes g.V.TableView.entries c.args.world.now in
    subst (λ (n : Option ℤ). Gives (meant w) c.bracket_named.result (bracket_at n (option_and_then text_in (seen_of (shown w c.args.by.now))) w calls (all_shown w c.args.args.now) (shown w c.args.by.now) opts))
    (c.in-None.ensures w) (c.bracket_named.ensures calls opts)
