use Rattle.std.proofs.Common.{rules, ap, ◌∙◌}
use Rattle.std.proofs.lemmas.Fn.{filter_same}
use Rattle.reql_session_api.specs.Meant.{arms_of}
use Rattle.reql_plan_driver.proofs.Keeping.{is_other, others_of}
use Rattle.reql_plan_driver.proofs.finding.forget.Goals as goal

pub returns : goal.returns
returns c = ap arms_of (filter_same _ (is_other c.args.slot c.args.feed) _ (λ x b f k. search rules) _ _ c.retain.ensures.filtered) ∙ others_of c.args.slot c.args.feed c.args.opened.now.items
