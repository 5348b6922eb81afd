use Rattle.std.proofs.Common.{◌≡◌, ◌-◌, ◌≤◌, ◌∷◌, [], sym, subst, arith, rules}
use Rattle.json.specs.Token.{begin_array, end_array}
use Rattle.reql_read.specs.Quick.{ReadsNumber, ReadsIds, ReadsParams}
use Rattle.reql_read.specs.Shape.{kind_of}
use Rattle.reql_read.specs.declared.shape.Kind.TheVariants as kind
use Rattle.reql_read.proofs.Straight.{params_read}
use Rattle.reql_read.proofs.quick_params.read_params.Goals as goal

pub returns : goal.returns
returns c =
    let n = c.in_ok-number.number in
    let r = c.close_array.new.reader in
    let some : 2 ≤ c.args.depth = omega arith in
    let is : kind_of n ≡ kind.Array = search rules in
    let first : c.args.reader.now ≡ begin_array ∷ c.open_array.new.reader = search rules in
    let second : c.number.new.reader ≡ begin_array ∷ c.open_array-2.new.reader = search rules in
    let closed : c.read_ids.new.reader ≡ end_array ∷ r = search rules in
    let number = subst (ReadsNumber c.open_array.new.reader n) second c.in_ok-number.ensures in
    let ids = subst (ReadsIds (c.args.depth - 1 - 1) c.open_array-2.new.reader [] c.in_ok-ids.ids) closed (c.in_ok-ids.ensures (c.args.depth - 1 - 1)) in
    subst (λ ts. ReadsParams c.args.depth ts c.in_ok-ids.ids r) (sym first) (params_read c.args.depth n c.open_array.new.reader c.open_array-2.new.reader r c.in_ok-ids.ids some is number ids)
