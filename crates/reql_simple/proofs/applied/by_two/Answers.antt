use Rattle.reql_simple.specs.Found.{document}
use Rattle.reql_simple.proofs.Rules.{bracket_found, field_found}
use Rattle.reql_simple.proofs.applied.by_two.Goals as goal

pub returns-in-Bracket : goal.returns-in-Bracket
returns-in-Bracket c =
    rw c.in-Bracket.is (bracket_found c.args.limit (document c.args.x.now) (document c.args.y.now) c.field_of.result c.field_of.ensures.found c.field_of.ensures.kept)

pub returns-in-Field : goal.returns-in-Field
returns-in-Field c =
    rw c.in-Field.is (field_found c.args.limit (document c.args.x.now) (document c.args.y.now) c.field_of-in-Field.result c.field_of-in-Field.ensures.found c.field_of-in-Field.ensures.kept)
