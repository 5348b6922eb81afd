use Rattle.std.proofs.Common.{◌≡◌, ◌∷◌, refl, ap, ◌∙◌, rules}
use Rattle.json.specs.Token.{Token}
use Rattle.json.specs.Json.{value}
use Rattle.json.specs.Json as json
use Rattle.reql_read.proofs.Tokens.{boolean_first}
use Rattle.reql_read.proofs.quick_options.boolean.Goals as goal

pub returns-in-Some-Bool : goal.returns-in-Some-Bool
returns-in-Some-Bool c = λ depth.
    let first : c.args.reader.now ≡ Token.boolean c.in-Some-Bool.b ∷ c.next.new.self = search rules in
    record { j = json.boolean c.in-Some-Bool.b; tokens = ap (value depth) first ∙ boolean_first depth c.in-Some-Bool.b c.next.new.self; seen = refl }
