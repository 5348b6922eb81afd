use Rattle.std.proofs.Common.{refl, rules, sym, subst}
use Rattle.reql_datum.specs.Answer.{Answer}
use Rattle.reql_datum.specs.Outcome.{Gives}
use Rattle.reql_rules.specs.Patterns.{pluck}
use Rattle.reql_value_spec.specs.Meant.{Meant}
use Rattle.reql_operand.specs.Seen.{meant, shown}
use Rattle.reql_operand.specs.Tables.{seen}
use Rattle.reql_apply_path.specs.Merged.{named_in}
use Rattle.reql_apply_path.specs.Subjects.{seen_subject}
use Rattle.reql_apply_path.proofs.Patterned.{by_patterns_is, by_patterns_fails}
use Rattle.reql_apply_path.proofs.parts.pluck_rule.Goals as goal

pub returns-in_err-pattern-in-len1-up : goal.returns-in_err-pattern-in-len1-up
returns-in_err-pattern-in-len1-up g c calls opts =
    let w = seen g.V.TableView.documents g.V.TableView.indexes g.V.TableView.entries c.args.world.now in
    let fails = by_patterns_fails w calls opts (shown w) c.args.args.now _ c.arg-item.result c.in-len1-up.len_at_least c.arg-item.is refl pluck (seen_subject c.in_ok-of-in-len1-up.of) c.in_err-pattern-in-len1-up.field-0.0
    (c.in_ok-of-in-len1-up.ensures) (c.in_err-pattern-in-len1-up.ensures.patterns w) in
    search (rules, fails)

pub returns-in_ok-pattern-in-len1-up : goal.returns-in_ok-pattern-in-len1-up
returns-in_ok-pattern-in-len1-up g c calls opts =
    let w = seen g.V.TableView.documents g.V.TableView.indexes g.V.TableView.entries c.args.world.now in
    let ps = named_in c.in_ok-pattern-in-len1-up.pattern in
    let is = by_patterns_is w calls opts (shown w) c.args.args.now _ c.arg-item.result c.in-len1-up.len_at_least c.arg-item.is refl pluck (seen_subject c.in_ok-of-in-len1-up.of) ps
    (c.in_ok-of-in-len1-up.ensures) (c.in_ok-pattern-in-len1-up.ensures.patterns w) in
    subst (λ (r : Answer Meant). Gives (meant w) c.plucked.result r) (sym is) (c.plucked.ensures w ps c.in_ok-pattern-in-len1-up.ensures.array)
