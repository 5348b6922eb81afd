use Rattle.std.proofs.Common.{◌≡◌, ◌<◌, ◌∷◌, sym, subst, refl, arith, rules}
use Rattle.json.specs.Token.{begin_array, end_array}
use Rattle.reql_term.specs.Form.{implicit}
use Rattle.reql_read.specs.Quick.{ReadsNumbered}
use Rattle.reql_read.proofs.Straight.{row_numbered}
use Rattle.reql_read.proofs.quick_leaves.read_row.Goals as goal

pub returns : goal.returns
returns c = λ n is.
    let r = c.close_array-2.new.reader in
    let some : 0 < c.args.depth = omega arith in
    let first : c.args.reader.now ≡ begin_array ∷ c.open_array.new.reader = search rules in
    let second : c.open_array.new.reader ≡ end_array ∷ c.close_array.new.reader = search rules in
    let third : c.close_array.new.reader ≡ end_array ∷ r = search rules in
    let all : c.args.reader.now ≡ begin_array ∷ end_array ∷ end_array ∷ r = rw (first, second, third) refl in
    subst (λ ts. ReadsNumbered c.args.depth n ts implicit r) (sym all) (row_numbered c.args.depth n r some is)
