use Rattle.std.proofs.Common.{◌≡◌, ◌<◌, ◌∷◌, sym, ap, subst, ◌∙◌, arith, rules}
use Rattle.json.specs.Token.{begin_array, end_array}
use Rattle.reql_term.specs.Form.{variable}
use Rattle.reql_read.specs.Quick.{ReadsNumber, ReadsNumbered}
use Rattle.reql_read.proofs.Straight.{variable_numbered}
use Rattle.reql_read.proofs.quick_leaves.read_variable.Goals as goal

pub returns : goal.returns
returns c = λ n is.
    let r = c.close_array-2.new.reader in
    let id = c.in_ok-id.id in
    let some : 0 < c.args.depth = omega arith in
    let first : c.args.reader.now ≡ begin_array ∷ c.open_array.new.reader = search rules in
    let closed : c.number.new.reader ≡ end_array ∷ c.close_array.new.reader = search rules in
    let closed_again : c.close_array.new.reader ≡ end_array ∷ r = search rules in
    let read = subst (ReadsNumber c.open_array.new.reader id) (closed ∙ ap (λ ts. end_array ∷ ts) closed_again) c.in_ok-id.ensures in
    subst (λ ts. ReadsNumbered c.args.depth n ts (variable id) r) (sym first) (variable_numbered c.args.depth n id c.open_array.new.reader r some is read)
