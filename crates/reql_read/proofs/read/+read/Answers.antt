use Rattle.std.proofs.Common.{◌≡◌, ◌+◌, ◌∷◌, ◌++◌, [], Ok, drop, string_bytes, arith, sym, ap, subst, ◌∙◌}
use Rattle.std.specs.Map.{keys_of}
use Rattle.std.specs.List.Sorted.{IsStrictlySortedBy}
use Rattle.serde_json.specs.View.{view, items_view, members_view}
use Rattle.serde_json.proofs.Views.{view-Object}
use Rattle.reql_datum.specs.Members.{text_order}
use Rattle.reql_json.proofs.Rising.{Entry, names, put_last, names_step, rising_names}
use Rattle.reql_term.specs.View.{form_of}
use Rattle.reql_read.specs.Apart.{names_in}
use Rattle.reql_read.specs.Outcome.{Understands}
use Rattle.reql_read.specs.Reading.{read}
use Rattle.reql_read.specs.Seen.{optional, parts_seen, ids_seen}
use Rattle.reql_read.specs.Shape.{shaped, shaped_all}
use Rattle.reql_read.specs.Weight.{members_weight}
use Rattle.reql_read.proofs.Shapes.{split_at}
use Rattle.reql_read.proofs.Steps.{AllGoOn, NamedGoOn, all_next, all_fail, named_begin, named_next, named_fail}
use Rattle.reql_read.proofs.Taken.{rest, len_rest, no_item, one_item, two_items, count_is, array_fails, row_fails, variable_id_fails, variable_fails, op_fails, args_fail, opts_fail, call_read, ids_fail, names_fail, id_names_fail, body_of, function_end, some_object, some_row, no_variable, no_function, term_read}
use Rattle.reql_read.proofs.Understood.{failed_on, bound, inside}
use Rattle.reql_read.proofs.Weights.{left_weighs, count_seen}
use Rattle.reql_read.proofs.read.+read.Goals as goal

pub read-returns-in-Object : goal.read-returns-in-Object
read-returns-in-Object t c = λ w h.
    let ms = members_view c.in-Object.members.entries in
    let a = bound _ _ w (sym (ap (λ v. shaped (view v)) c.in-Object.is ∙ ap shaped (view-Object c.in-Object.members)) ∙ h) in
    subst (λ x. Understands form_of c.read_object.result (read x)) (inside _ w a.2) (c.read_object.ensures a.0 a.1)

pub read_all-returns-in_err-term : goal.read_all-returns-in_err-term
read_all-returns-in_err-term t c = λ all h.
    let split = split_at c.args.items.now c.loop-item.item-index c.item-item.result c.loop-item-test.true c.item-item.is in
    let on = subst (λ ds. AllGoOn (items_view c.args.items.now) ds c.loop-item.terms) split c.loop-item.invariant in
    let a = all_fail (items_view c.args.items.now) (items_view (drop (c.loop-item.item-index + 1) c.args.items.now)) (view c.item-item.result) c.loop-item.terms all c.in_err-term.field-0.0 on h in
    failed_on form_of (λ fs. fs) _ _ c.from_residual-in_err-term.result _ c.from_residual-in_err-term.ensures (c.in_err-term.ensures a.0 a.1) a.2

pub read_all-loop-item-preserved : goal.read_all-loop-item-preserved
read_all-loop-item-preserved t c =
    let split = split_at c.args.items.now c.loop-item.item-index c.item-item.result c.loop-item-test.true c.item-item.is in
    let on = subst (λ ds. AllGoOn (items_view c.args.items.now) ds c.loop-item.terms) split c.loop-item.invariant in
    all_next (items_view c.args.items.now) (items_view (drop (c.loop-item.item-index + 1) c.args.items.now)) (view c.item-item.result) (form_of c.in_ok-term.term) c.loop-item.terms c.push.new.self on c.in_ok-term.ensures c.in_ok-push.ensures.items

pub read_array-returns-in_err-all_taken : goal.read_array-returns-in_err-all_taken
read_array-returns-in_err-all_taken t c = λ args opts all named.
    failed_on (λ u. u) form_of _ _ c.from_residual.result _ c.from_residual.ensures c.in_err-all_taken.ensures
    (λ h. array_fails c.args.number (items_view c.args.args.now) (optional c.args.options) args opts _ named h)

pub read_call-returns-in_err-op : goal.read_call-returns-in_err-op
read_call-returns-in_err-op t c = λ args opts all named.
    failed_on (λ op. op) form_of _ _ c.from_residual.result _ c.from_residual.ensures c.in_err-op.ensures
    (λ h. op_fails c.args.number (items_view c.args.args.now) (optional c.args.options) args opts all named _ (count_is c.args.args.now c.args.number (names_in (optional c.args.options)) _ h))

pub read_call-returns-in_err-args : goal.read_call-returns-in_err-args
read_call-returns-in_err-args t c = λ args opts all named.
    failed_on (λ fs. fs) form_of _ _ c.from_residual-in_err-args.result _ c.from_residual-in_err-args.ensures (c.in_err-args.ensures args all)
    (λ h. args_fail c.args.number (items_view c.args.args.now) (optional c.args.options) args opts all named c.in_ok-op.op (count_is c.args.args.now c.args.number (names_in (optional c.args.options)) _ c.in_ok-op.ensures) _ h)

pub read_call-returns-in_err-opts : goal.read_call-returns-in_err-opts
read_call-returns-in_err-opts t c = λ args opts all named.
    failed_on (λ ms. ms) form_of _ _ c.from_residual-in_err-opts.result _ c.from_residual-in_err-opts.ensures (c.in_err-opts.ensures opts named)
    (λ h. opts_fail c.args.number (items_view c.args.args.now) (optional c.args.options) args opts all named c.in_ok-op.op (count_is c.args.args.now c.args.number (names_in (optional c.args.options)) _ c.in_ok-op.ensures) c.in_ok-args.args _ (c.in_ok-args.ensures args all) h)

pub read_call-returns : goal.read_call-returns
read_call-returns t c = λ args opts all named.
    call_read c.args.number (items_view c.args.args.now) (optional c.args.options) args opts all named c.in_ok-op.op (count_is c.args.args.now c.args.number (names_in (optional c.args.options)) _ c.in_ok-op.ensures) c.in_ok-args.args c.in_ok-opts.opts (c.in_ok-args.ensures args all) (c.in_ok-opts.ensures opts named)

pub read_function-returns-in_default : goal.read_function-returns-in_default
read_function-returns-in_default t c =
    let below = c.in_default.len_below in
    no_function c.read_call.result c.args.number (items_view c.args.args.now) (optional c.args.options) (λ e. let l = count_seen c.args.args.now in omega (arith, l, e)) c.read_call.ensures

pub read_function-returns-in_default-rest : goal.read_function-returns-in_default-rest
read_function-returns-in_default-rest t c =
    let below = c.in_default-rest.len_below in
    no_function c.read_call-in_default-rest.result c.args.number (items_view c.args.args.now) (optional c.args.options) (λ e. let l = count_seen c.args.args.now in let m = len_rest c.args.args.now in omega (arith, l, m, e)) c.read_call-in_default-rest.ensures

pub read_function-returns-in_default-rest-2 : goal.read_function-returns-in_default-rest-2
read_function-returns-in_default-rest-2 t c =
    let below = c.in_default-rest-2.len_at_least in
    no_function c.read_call-in_default-rest-2.result c.args.number (items_view c.args.args.now) (optional c.args.options)
    (λ e. let l = count_seen c.args.args.now in let m = len_rest c.args.args.now in let k = len_rest (rest c.args.args.now) in omega (arith, l, m, k, e)) c.read_call-in_default-rest-2.ensures

pub read_function-returns-in_err-params : goal.read_function-returns-in_err-params
read_function-returns-in_err-params t c = λ args opts all named.
    let two = two_items c.args.args.now c.ids-item.result c.body-item.result c.in-len1-up.len_at_least c.in-len1-up-rest.len_at_least c.in-empty.len_below c.ids-item.is c.body-item.is in
    failed_on ids_seen form_of _ _ c.from_residual.result _ c.from_residual.ensures c.in_err-params.ensures (λ h. ids_fail c.args.number (view c.ids-item.result) (view c.body-item.result) (optional c.args.options) args opts (subst (λ ds. shaped_all ds ≡ Ok args) two all) named _ h)

pub read_function-returns-in_err-all_taken : goal.read_function-returns-in_err-all_taken
read_function-returns-in_err-all_taken t c = λ args opts all named.
    let two = two_items c.args.args.now c.ids-item.result c.body-item.result c.in-len1-up.len_at_least c.in-len1-up-rest.len_at_least c.in-empty.len_below c.ids-item.is c.body-item.is in
    failed_on (λ u. u) form_of _ _ c.from_residual-in_err-all_taken.result _ c.from_residual-in_err-all_taken.ensures c.in_err-all_taken.ensures (λ h. names_fail c.args.number (view c.ids-item.result) (view c.body-item.result) (optional c.args.options) args opts (subst (λ ds. shaped_all ds ≡ Ok args) two all) named (ids_seen (c.in_ok-params.params, c.in_ok-params.names)) c.in_ok-params.ensures _ h)

pub read_function-returns-in_err-all_taken-2 : goal.read_function-returns-in_err-all_taken-2
read_function-returns-in_err-all_taken-2 t c = λ args opts all named.
    let two = two_items c.args.args.now c.ids-item.result c.body-item.result c.in-len1-up.len_at_least c.in-len1-up-rest.len_at_least c.in-empty.len_below c.ids-item.is c.body-item.is in
    failed_on (λ u. u) form_of _ _ c.from_residual-in_err-all_taken-2.result _ c.from_residual-in_err-all_taken-2.ensures c.in_err-all_taken-2.ensures (λ h. id_names_fail c.args.number (view c.ids-item.result) (view c.body-item.result) (optional c.args.options) args opts (subst (λ ds. shaped_all ds ≡ Ok args) two all) named (ids_seen (c.in_ok-params.params, c.in_ok-params.names)) c.in_ok-params.ensures c.in_ok-all_taken.ensures _ h)

pub read_function-returns-in_err-body : goal.read_function-returns-in_err-body
read_function-returns-in_err-body t c = λ args opts all named.
    let two = two_items c.args.args.now c.ids-item.result c.body-item.result c.in-len1-up.len_at_least c.in-len1-up-rest.len_at_least c.in-empty.len_below c.ids-item.is c.body-item.is in
    let b = body_of c.args.number (view c.ids-item.result) (view c.body-item.result) (optional c.args.options) args opts (subst (λ ds. shaped_all ds ≡ Ok args) two all) named (ids_seen (c.in_ok-params.params, c.in_ok-params.names)) c.in_ok-params.ensures c.in_ok-all_taken.ensures c.in_ok-all_taken-2.ensures in
    failed_on form_of form_of _ _ c.from_residual-in_err-body.result _ c.from_residual-in_err-body.ensures (c.in_err-body.ensures b.0 b.1) (λ h. b.2 _ h)

pub read_function-returns : goal.read_function-returns
read_function-returns t c = λ args opts all named.
    let two = two_items c.args.args.now c.ids-item.result c.body-item.result c.in-len1-up.len_at_least c.in-len1-up-rest.len_at_least c.in-empty.len_below c.ids-item.is c.body-item.is in
    let b = body_of c.args.number (view c.ids-item.result) (view c.body-item.result) (optional c.args.options) args opts (subst (λ ds. shaped_all ds ≡ Ok args) two all) named (ids_seen (c.in_ok-params.params, c.in_ok-params.names)) c.in_ok-params.ensures c.in_ok-all_taken.ensures c.in_ok-all_taken-2.ensures in
    let g = b.3 (form_of c.in_ok-body.body) (c.in_ok-body.ensures b.0 b.1) in
    function_end _ c.in_ok-params.params _ (form_of c.in_ok-body.body) c.in_ok-new.field-0 g (sym c.params.view_is) c.in_ok-new.ensures.ok

pub read_members-returns-then-args-gt0 : goal.read_members-returns-then-args-gt0
read_members-returns-then-args-gt0 t c =
    some_object c.read_call.result c.args.number (items_view c.args.args.now) (optional c.args.options) (λ e. let l = count_seen c.args.args.now in omega (arith, l, e)) c.read_call.ensures

pub read_named-loop-key-init : goal.read_named-loop-key-init
read_named-loop-key-init t c =
    let whole = members_view c.args.members.now.entries in
    let same : c.into_iter-key-iterator.result ≡ c.args.members.now.entries = c.into_iter-key-iterator.ensures.into_iter_gives ∙ c.iter-key-items.ensures.rest in
    let none = c.in_ok-fields.ensures in
    record {
      rest = subst (λ es. NamedGoOn whole (members_view es) c.in_ok-fields.fields) (sym same) (subst (NamedGoOn whole whole) (sym none) (named_begin whole));
      names = ap (λ fs. keys_of fs ++ names c.into_iter-key-iterator.result) none ∙ ap names same;
      weighs = let e = ap (λ es. members_weight (members_view es)) same in omega (arith, e);
    }

pub read_named-returns-in_err-term : goal.read_named-returns-in_err-term
read_named-returns-in_err-term t c = λ all h.
    let ms = members_view c.args.members.now.entries in
    let e : Entry = (c.in-Some.key.now, c.in-Some.member.now) in
    let left = c.next.new.self in
    let on = subst (λ es. NamedGoOn ms (members_view es) c.loop-key.fields) c.in-Some.ensures.steps c.loop-key.invariant.rest in
    let a = named_fail ms (members_view left) (string_bytes e.0) (view e.1) c.loop-key.fields all c.in_err-term.field-0.0 on h in
    failed_on form_of (λ fs. fs) _ _ c.from_residual-in_err-term.result _ c.from_residual-in_err-term.ensures (c.in_err-term.ensures a.0 a.1) a.2

pub read_named-loop-key-preserved : goal.read_named-loop-key-preserved
read_named-loop-key-preserved t c =
    let whole_ms = members_view c.args.members.now.entries in
    let out = c.loop-key.fields in
    let e : Entry = (c.in-Some.key.now, c.in-Some.member.now) in
    let left = c.next.new.self in
    let k = string_bytes e.0 in
    let f = form_of c.in_ok-term.term in
    let on = subst (λ es. NamedGoOn whole_ms (members_view es) out) c.in-Some.ensures.steps c.loop-key.invariant.rest in
    let whole : keys_of out ++ k ∷ names left ≡ names c.args.members.now.entries = ap (λ es. keys_of out ++ names es) (sym c.in-Some.ensures.steps) ∙ c.loop-key.invariant.names in
    let up = subst (IsStrictlySortedBy text_order) (sym whole) (rising_names c.args.members.now.entries c.iter-key-items.ensures.ordered) in
    let last = put_last (λ x. x) out k f (names left) up in
    let added : c.put.new.self ≡ out ++ (k, f) ∷ [] = c.in_ok-put.ensures.members ∙ rw (c.in_ok-name.ensures, c.as_str.ensures.value) last in
    record {
      rest = named_next whole_ms (members_view left) k (view e.1) f out c.put.new.self on c.in_ok-term.ensures added;
      names = ap (λ ms. keys_of ms ++ names left) added ∙ names_step (λ x. x) out k f (names left) ∙ whole;
      weighs = left_weighs _ left e _ c.in-Some.ensures.steps c.loop-key.invariant.weighs;
    }

pub read_row-returns-then-args-gt0 : goal.read_row-returns-then-args-gt0
read_row-returns-then-args-gt0 t c =
    some_row c.read_call.result c.args.number (items_view c.args.args.now) (optional c.args.options) (λ e. let l = count_seen c.args.args.now in omega (arith, l, e)) c.read_call.ensures

pub read_row-returns-in_err-all_taken : goal.read_row-returns-in_err-all_taken
read_row-returns-in_err-all_taken t c = λ args opts all named.
    let none = no_item c.args.args.now c.if-args-gt0.false in
    failed_on (λ u. u) form_of _ _ c.from_residual.result _ c.from_residual.ensures c.in_err-all_taken.ensures
    (λ h. row_fails c.args.number (optional c.args.options) args opts _ (subst (λ ds. shaped_all ds ≡ Ok args) none all) named h)

pub read_term-returns : goal.read_term-returns
read_term-returns t c = λ w h. term_read c.read_written.result _ (parts_seen (c.in_ok-number.number, (c.in_ok-number.args, c.in_ok-number.options))) w c.in_ok-number.ensures c.read_written.ensures h

pub read_variable-returns-in_default : goal.read_variable-returns-in_default
read_variable-returns-in_default t c =
    let below = c.in_default.len_below in
    no_variable c.read_call.result c.args.number (items_view c.args.args.now) (optional c.args.options) (λ e. let l = count_seen c.args.args.now in omega (arith, l, e)) c.read_call.ensures

pub read_variable-returns-in_default-rest : goal.read_variable-returns-in_default-rest
read_variable-returns-in_default-rest t c =
    let below = c.in_default-rest.len_at_least in
    no_variable c.read_call-in_default-rest.result c.args.number (items_view c.args.args.now) (optional c.args.options) (λ e. let l = count_seen c.args.args.now in let m = len_rest c.args.args.now in omega (arith, l, m, e)) c.read_call-in_default-rest.ensures

pub read_variable-returns-in_err-id : goal.read_variable-returns-in_err-id
read_variable-returns-in_err-id t c = λ args opts all named.
    let one = one_item c.args.args.now c.id-item.result c.in-len1-up.len_at_least c.in-empty.len_below c.id-item.is in
    failed_on (λ n. n) form_of _ _ c.from_residual.result _ c.from_residual.ensures c.in_err-id.ensures (λ h. variable_id_fails c.args.number (view c.id-item.result) (optional c.args.options) args opts _ (subst (λ ds. shaped_all ds ≡ Ok args) one all) h)

pub read_variable-returns-in_err-all_taken : goal.read_variable-returns-in_err-all_taken
read_variable-returns-in_err-all_taken t c = λ args opts all named.
    let one = one_item c.args.args.now c.id-item.result c.in-len1-up.len_at_least c.in-empty.len_below c.id-item.is in
    failed_on (λ u. u) form_of _ _ c.from_residual-in_err-all_taken.result _ c.from_residual-in_err-all_taken.ensures c.in_err-all_taken.ensures (λ h. variable_fails c.args.number (view c.id-item.result) (optional c.args.options) args opts c.in_ok-id.id _ (subst (λ ds. shaped_all ds ≡ Ok args) one all) named c.in_ok-id.ensures h)
