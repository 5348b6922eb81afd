use Rattle.std.proofs.Common.{◌≡◌, ◌++◌, ◌∷◌, [], Some, true, sym, subst, arith, rules}
use Rattle.json.specs.Json.{after_end_array}
use Rattle.json.proofs.Grammar.{closed_array}
use Rattle.reql_read.specs.Quick.{ReadsNumber, ReadsIds}
use Rattle.reql_read.specs.Shape.{is_new}
use Rattle.reql_read.proofs.NewIds.{new_of}
use Rattle.reql_read.proofs.Straight.{ids_first, ids_over}
use Rattle.reql_read.proofs.quick_params.read_ids.Goals as goal

pub push-requires : goal.push-requires
push-requires c = record { new = new_of c.in_ok-id.id c.ids.ids (sym c.if-not-is_new.ensures) }

pub ids-preserved : goal.ids-preserved
ids-preserved c = λ depth all r rest.
    let id = c.in_ok-id.id in
    let before = c.ids.ids in
    let going : c.take_end_array.new.self ≡ c.ids.reader = grind arith in
    let added : c.push.new.self ≡ before ++ id ∷ [] = search rules in
    let first : is_new id before ≡ true = sym c.if-not-is_new.ensures in
    let one = subst (λ ts. ReadsNumber ts id c.number.new.reader) going c.in_ok-id.ensures in
    c.ids.invariant depth all r (ids_first depth id c.ids.reader c.number.new.reader r before all one first (subst (λ ids. ReadsIds depth c.number.new.reader ids all r) added rest))

pub returns : goal.returns
returns c = λ depth.
    let r = c.take_end_array.new.self in
    let ended : after_end_array c.ids.reader ≡ Some r = grind arith in
    c.ids.invariant depth c.ids.ids r (subst (λ ts. ReadsIds depth ts c.ids.ids c.ids.ids r) (sym (closed_array c.ids.reader r ended)) (ids_over depth c.ids.ids r))
