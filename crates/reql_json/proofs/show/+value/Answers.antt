use Rattle.std.proofs.Common.{◌≡◌, List, ◌+◌, ◌++◌, drop, true, string_bytes, rules, refl, sym, ap, subst, ◌∙◌}
use Rattle.std.specs.Map.{keys_of}
use Rattle.std.specs.List.Sorted.{IsStrictlySortedBy}
use Rattle.serde_json.specs.Data.{item, member}
use Rattle.serde_json.specs.declared.value.Value.{Value}
use Rattle.reql_datum.specs.Kinds.{is_storable, are_storable, are_members_storable}
use Rattle.reql_datum.specs.Members.{text_order}
use Rattle.reql_datum.specs.Plain.{items_of, pairs_of}
use Rattle.reql_datum.specs.View.{plain}
use Rattle.reql_json.specs.Inverse.{all_in_range, pairs_in_range}
use Rattle.reql_json.specs.Showing.{shown, items_shown, members_shown}
use Rattle.reql_json.proofs.Rising.{names, put_last, names_step}
use Rattle.reql_json.proofs.Shown.{items_with, items_next, items_end, members_with, members_next, members_end, second}
use Rattle.reql_json.proofs.show.+value.Goals as goal

pub array-loop-item-preserved : goal.array-loop-item-preserved
array-loop-item-preserved t c =
    let out = c.loop-item.out.items in
    let left = drop (c.loop-item.place + 1) c.args.items.now in
    let more = items_shown (items_of left) in
    let known = c.loop-item.invariant.rest ∙ ap (λ vs. items_with out (items_shown (items_of vs))) c.in-Some.ensures.rest in
    record {
      rest = known ∙ ap (λ d. items_with out (item d more)) (sym c.in_ok-value.ensures.value) ∙ items_next out c.in_ok-value.value more ∙ ap (λ vs. items_with vs more) (sym {A = List Value} c.in_ok-push.ensures.items);
      in_range = c.loop-item.invariant.in_range ∙ ap (λ vs. all_in_range (items_of vs)) c.in-Some.ensures.rest ∙ rw c.in_ok-value.ensures.in_range refl;
      storable = second (is_storable (plain c.in-Some.item.now)) (are_storable (items_of left)) (subst (λ vs. are_storable (items_of vs) ≡ true) c.in-Some.ensures.rest c.loop-item.invariant.storable);
    }

pub array-returns-clause-value : goal.array-returns-clause-value
array-returns-clause-value t c =
    let out = c.loop-item.out.items in
    sym (c.loop-item.invariant.rest ∙ ap (λ vs. items_with out (items_shown (items_of vs))) c.in_default.ensures.rest ∙ items_end out)

pub map-loop-name-preserved : goal.map-loop-name-preserved
map-loop-name-preserved t c =
    let es = c.loop-name.out.entries in
    let left = drop (c.loop-name.place + 1) c.args.fields.now in
    let more = members_shown (pairs_of left) in
    let k = c.in-Some.name.now in
    let key = c.in_ok-key.key in
    let v = c.in_ok-value.value in
    let known = c.loop-name.invariant.rest ∙ ap (λ ms. members_with es (members_shown (pairs_of ms))) c.in-Some.ensures.rest in
    let named : string_bytes key ≡ k = search rules in
    let whole = ap (λ ms. names es ++ keys_of ms) (sym c.in-Some.ensures.rest) ∙ c.loop-name.invariant.names in
    let up = subst (IsStrictlySortedBy text_order) (sym whole) c.in-Some.ensures.rising in
    let last = c.in_ok-insert.ensures.entries ∙ put_last string_bytes es key v (keys_of left) (rw named up) in
    let entry = ap (λ n. members_with es (member n (shown (plain c.in-Some.datum.now)) more)) (sym named) ∙ ap (λ d. members_with es (member (string_bytes key) d more)) (sym c.in_ok-value.ensures.value) in
    record {
      rest = known ∙ entry ∙ members_next es key v more ∙ ap (λ xs. members_with xs more) (sym last);
      names = ap (λ xs. names xs ++ keys_of left) last ∙ names_step string_bytes es key v (keys_of left) ∙ rw named whole;
      in_range = c.loop-name.invariant.in_range ∙ ap (λ ms. pairs_in_range (pairs_of ms)) c.in-Some.ensures.rest ∙ rw c.in_ok-value.ensures.in_range refl;
      storable = second (is_storable (plain c.in-Some.datum.now)) (are_members_storable (pairs_of left)) (subst (λ ms. are_members_storable (pairs_of ms) ≡ true) c.in-Some.ensures.rest c.loop-name.invariant.storable);
    }

pub map-returns-clause-value : goal.map-returns-clause-value
map-returns-clause-value t c =
    let es = c.loop-name.out.entries in
    sym (c.loop-name.invariant.rest ∙ ap (λ ms. members_with es (members_shown (pairs_of ms))) c.in_default.ensures.rest ∙ members_end es)
