use Rattle.std.proofs.Common.{◌≡◌, ◌<◌, ◌∷◌, Some, None, option_map, length, sym, ap, subst, ◌∙◌, arith, rules}
use Rattle.json.specs.Token.{Token}
use Rattle.json.specs.Json.{read_key}
use Rattle.json.proofs.Grammar.{read_key_is, read_key-shorter, key_token}
use Rattle.reql_read.specs.Quick.{ReadsMembers, two_options}
use Rattle.reql_read.proofs.Settled.{options_over}
use Rattle.reql_read.proofs.Straight.{was_ok}
use Rattle.reql_read.proofs.quick_options.read_chosen.Goals as goal

pub options-smaller : goal.options-smaller
options-smaller c =
    let s = c.next_key.new.self in
    let old = c.options.reader in
    let key = was_ok (λ k. read_key old ≡ Some (option_map (λ x. x.now) k, s)) (λ e. read_key old ≡ None) c.next_key.result c.in_ok-key.field-0 c.next_key.ensures.value (sym c.ok.ensures.value ∙ c.in_ok-key.was) in
    let less : length c.with_option.new.reader < length old = omega (arith, read_key-shorter old _ s key, c.in_ok-chosen.ensures.shorter) in
    less

pub options-preserved : goal.options-preserved
options-preserved c = λ depth all r some rest.
    let s = c.next_key.new.self in
    let old = c.options.reader in
    let before = two_options (option_map (λ x. x.now) c.options.chosen.db) c.options.chosen.noreply in
    let key = was_ok (λ k. read_key old ≡ Some (option_map (λ x. x.now) k, s)) (λ e. read_key old ≡ None) c.next_key.result c.in_ok-key.field-0 c.next_key.ensures.value (sym c.ok.ensures.value ∙ c.in_ok-key.was) in
    let first : old ≡ Token.key c.in-Some.key.now ∷ s = read_key_is old _ s key ∙ ap (λ o. key_token (option_map (λ x. x.now) o) ∷ s) c.in-Some.is in
    c.options.invariant depth all r some (subst (λ us. ReadsMembers depth us before all r) (sym first) (c.in_ok-chosen.ensures.read depth all r some rest))

pub returns : goal.returns
returns c = λ depth some.
    let r = c.next_key.new.self in
    let old = c.options.reader in
    let all = two_options (option_map (λ x. x.now) c.options.chosen.db) c.options.chosen.noreply in
    let key = was_ok (λ k. read_key old ≡ Some (option_map (λ x. x.now) k, r)) (λ e. read_key old ≡ None) c.next_key.result c.in_ok-key.field-0 c.next_key.ensures.value (sym c.ok.ensures.value ∙ c.in_ok-key.was) in
    let none : c.in_ok-key.field-0 ≡ None = search rules in
    let over : old ≡ Token.end_object ∷ r = read_key_is old _ r key ∙ ap (λ o. key_token (option_map (λ x. x.now) o) ∷ r) none in
    c.options.invariant depth all r some (subst (λ ts. ReadsMembers depth ts all all r) (sym over) (options_over depth all r))
