use Rattle.std.proofs.Common.{ap, ◌∙◌}
use Rattle.std.specs.Cmp.Lexicographic.{texts_ties}
use Rattle.reql_json.specs.Literal.{is_text}
use Rattle.reql_json.proofs.literal.has_type.Goals as goal

pub returns-in-Some : goal.returns-in-Some
returns-in-Some c = c.eq.ensures ∙ texts_ties c.args.name.now c.in-Some.text.now ∙ ap (is_text c.args.name.now) c.in-Some.ensures
