use Rattle.std.proofs.Common.{◌≡◌, ◌-◌, ◌<◌, ◌++◌, ◌∷◌, [], length, map, Some, None, option_map, Ok, sym, ap, subst, ◌∙◌, append_assoc, arith, rules}
use Rattle.std.specs.Prelude.{⊤}
use Rattle.std.proofs.lemmas.List.{append-nil}
use Rattle.json.specs.Token.{Token}
use Rattle.json.specs.Json.{after_end_array, read_key}
use Rattle.json.specs.Reads.{token_of}
use Rattle.json.proofs.Grammar.{closed_array, read_key_is, read_key-shorter, key_token}
use Rattle.reql_datum.specs.Members.{put}
use Rattle.reql_datum.specs.Plain.{boolean, null}
use Rattle.reql_term.specs.Form.{literal, function}
use Rattle.reql_term.specs.View.{form_of}
use Rattle.reql_read.specs.Quick.{ReadsForm, ReadsForms, ReadsArgs, ReadsNamed, ReadsOptions, ReadsNumbered}
use Rattle.reql_read.specs.Reading.{checked}
use Rattle.reql_read.proofs.Tokens.{shorter}
use Rattle.reql_read.proofs.Straight.{was_ok, if_some, literal_read, boolean_form, null_form, forms_over, forms_first, args_read, array_numbered, function_numbered, call_numbered, numbered_form, object_form, named_over, named_first, no_options, options_read}
use Rattle.reql_read.proofs.quick_terms.+quick.Goals as goal

pub read-returns-in-String : goal.read-returns-in-String
read-returns-in-String t c =
    let first : c.args.reader.now ≡ token_of c.in_ok-token.token ∷ c.next.new.self = grind arith in
    literal_read (Token.string c.in-String.text.now) c.text_term.result c.args.depth c.args.reader.now c.next.new.self (first ∙ ap (λ k. token_of k ∷ c.next.new.self) c.in-String.is) c.text_term.ensures

pub read-returns-in-Number : goal.read-returns-in-Number
read-returns-in-Number t c =
    let first : c.args.reader.now ≡ token_of c.in_ok-token.token ∷ c.next.new.self = grind arith in
    literal_read (Token.number c.in-Number.text.now) c.number_term.result c.args.depth c.args.reader.now c.next.new.self (first ∙ ap (λ k. token_of k ∷ c.next.new.self) c.in-Number.is) c.number_term.ensures

pub read-returns-in-Bool : goal.read-returns-in-Bool
read-returns-in-Bool t c =
    let first : c.args.reader.now ≡ token_of c.in_ok-token.token ∷ c.next.new.self = grind arith in
    let is : c.args.reader.now ≡ Token.boolean c.in-Bool.b ∷ c.next.new.self = first ∙ ap (λ k. token_of k ∷ c.next.new.self) c.in-Bool.is in
    subst (λ ts. ReadsForm c.args.depth ts (literal (boolean c.in-Bool.b)) c.next.new.self) (sym is) (boolean_form c.args.depth c.in-Bool.b c.next.new.self)

pub read-returns-in-Null : goal.read-returns-in-Null
read-returns-in-Null t c =
    let first : c.args.reader.now ≡ token_of c.in_ok-token.token ∷ c.next.new.self = grind arith in
    let is : c.args.reader.now ≡ Token.null ∷ c.next.new.self = first ∙ ap (λ k. token_of k ∷ c.next.new.self) c.in-Null.is in
    subst (λ ts. ReadsForm c.args.depth ts (literal null) c.next.new.self) (sym is) (null_form c.args.depth c.next.new.self)

pub read_all-items-init : goal.read_all-items-init
read_all-items-init t c = λ fs r all.
    let none : c.in_ok-terms.terms ≡ [] = search rules in
    subst (λ before. ReadsForms c.args.depth c.args.reader.now (before ++ fs) r) (sym none) all

pub read_all-items-smaller : goal.read_all-items-smaller
read_all-items-smaller t c =
    let going : c.take_end_array.new.self ≡ c.items.reader = grind arith in
    let read = subst (λ ts. ReadsForm c.args.depth ts (form_of c.in_ok-term.term) c.read.new.reader) going c.in_ok-term.ensures in
    shorter c.args.depth c.items.reader c.read.new.reader read.j read.tokens

pub read_all-items-preserved : goal.read_all-items-preserved
read_all-items-preserved t c = λ fs r rest.
    let f = form_of c.in_ok-term.term in
    let before = c.items.terms in
    let going : c.take_end_array.new.self ≡ c.items.reader = grind arith in
    let added : c.push.new.self ≡ before ++ f ∷ [] = search rules in
    let read = subst (λ ts. ReadsForm c.args.depth ts f c.read.new.reader) going c.in_ok-term.ensures in
    let all = c.items.invariant (f ∷ fs) r (forms_first c.args.depth f fs c.items.reader c.read.new.reader r read rest) in
    subst (λ gs. ReadsForms c.args.depth c.args.reader.now gs r) (sym (append_assoc before (f ∷ []) fs) ∙ ap (λ gs. gs ++ fs) (sym added)) all

pub read_all-returns : goal.read_all-returns
read_all-returns t c =
    let r = c.take_end_array.new.self in
    let ended : after_end_array c.items.reader ≡ Some r = grind arith in
    let all = c.items.invariant [] r (subst (λ ts. ReadsForms c.args.depth ts [] r) (sym (closed_array c.items.reader r ended)) (forms_over c.args.depth r)) in
    subst (λ fs. ReadsForms c.args.depth c.args.reader.now fs r) (append-nil c.items.terms) all

pub read_args-returns : goal.read_args-returns
read_args-returns t c =
    let r = c.read_all.new.reader in
    let ts = c.open_array.new.reader in
    let some : 0 < c.args.depth = omega arith in
    let first : c.args.reader.now ≡ Token.begin_array ∷ ts = search rules in
    if_some (λ fs. ReadsForms (c.args.depth - 1) ts fs r) (λ fs. ReadsArgs c.args.depth c.args.reader.now fs r) c.read_all.result
    (λ fs read. subst (λ us. ReadsArgs c.args.depth us fs r) (sym first) (args_read c.args.depth ts r fs some read)) c.read_all.ensures

pub read_array-returns : goal.read_array-returns
read_array-returns t c = λ n is.
    let closed : c.read_args.new.reader ≡ Token.end_array ∷ c.close_array.new.reader = search rules in
    array_numbered c.args.depth n c.args.reader.now c.close_array.new.reader c.in_ok-terms.terms is (subst (ReadsArgs c.args.depth c.args.reader.now c.in_ok-terms.terms) closed c.in_ok-terms.ensures)

pub read_numbered-returns : goal.read_numbered-returns
read_numbered-returns t c =
    let r = c.read_kind.new.reader in
    let n = c.in_ok-number.number in
    let some : 0 < c.args.depth = omega arith in
    if_some (λ u. ReadsNumbered (c.args.depth - 1) n c.number.new.reader (form_of u) r) (λ u. ReadsForm c.args.depth (Token.begin_array ∷ c.args.reader.now) (form_of u) r) c.read_kind.result
    (λ u read. numbered_form c.args.depth n c.args.reader.now c.number.new.reader r (form_of u) some c.in_ok-number.ensures read) c.read_kind.ensures

pub read_object-returns-in-None : goal.read_object-returns-in-None
read_object-returns-in-None t c =
    let some : 0 < c.args.depth = omega arith in
    object_form c.args.depth c.args.reader.now c.read_named.new.reader c.in_ok-fields.fields some c.in_ok-fields.ensures (sym c.in-None.ensures)

pub read_call-returns : goal.read_call-returns
read_call-returns t c = λ is.
    let n = c.args.number in
    let args = c.in_ok-args.args in
    let opts = c.in_ok-opts.opts in
    let op = c.in_ok-op.op in
    let right = subst (λ k. checked n k (map (λ m. m.0) opts) ≡ Ok op) c.len.ensures c.in_ok-op.ensures in
    call_numbered c.args.depth n c.args.reader.now c.read_args.new.reader c.read_options.new.reader args opts op is c.in_ok-args.ensures c.in_ok-opts.ensures right

pub read_function-returns : goal.read_function-returns
read_function-returns t c = λ n is.
    let r = c.close_array-2.new.reader in
    let ids = c.in_ok-params.params in
    let f = form_of c.in_ok-body.body in
    let some : 0 < c.args.depth = omega arith in
    let first : c.args.reader.now ≡ Token.begin_array ∷ c.open_array.new.reader = search rules in
    let closed : c.read.new.reader ≡ Token.end_array ∷ c.close_array.new.reader = search rules in
    let closed_again : c.close_array.new.reader ≡ Token.end_array ∷ r = search rules in
    let held : c.in_ok-body-2.body ≡ f = was_ok (λ b. b ≡ f) (λ e. ⊤) c.new.result c.in_ok-body-2.body c.new.ensures.ok (sym c.ok.ensures.value ∙ c.in_ok-body-2.was) in
    let body = subst (ReadsForm (c.args.depth - 1) c.read_params.new.reader f) (closed ∙ ap (λ ts. Token.end_array ∷ ts) closed_again) c.in_ok-body.ensures in
    let read = function_numbered c.args.depth n c.open_array.new.reader c.read_params.new.reader r ids f some is c.in_ok-params.ensures body in
    subst (λ ts. ReadsNumbered c.args.depth n ts (function ids c.in_ok-body-2.body) r) (sym first)
    (subst (λ g. ReadsNumbered c.args.depth n (Token.begin_array ∷ c.open_array.new.reader) (function ids g) r) (sym held) read)

pub read_named-members-smaller : goal.read_named-members-smaller
read_named-members-smaller t c =
    let s = c.next_key.new.self in
    let key = was_ok (λ k. read_key c.members.reader ≡ Some (option_map (λ x. x.now) k, s)) (λ e. read_key c.members.reader ≡ None) c.next_key.result c.in_ok-key.field-0 c.next_key.ensures.value (sym c.ok.ensures.value ∙ c.in_ok-key.was) in
    let read = c.in_ok-name.ensures.1 in
    let less : length c.read_member.new.reader < length c.members.reader = omega (arith, read_key-shorter c.members.reader _ s key, shorter c.args.depth s c.read_member.new.reader read.j read.tokens) in
    less

pub read_named-members-preserved : goal.read_named-members-preserved
read_named-members-preserved t c = λ all r rest.
    let s = c.next_key.new.self in
    let ts = c.read_member.new.reader in
    let k = c.in-Some.key.now in
    let f = form_of c.in_ok-name.term in
    let before = c.members.fields in
    let key = was_ok (λ o. read_key c.members.reader ≡ Some (option_map (λ x. x.now) o, s)) (λ e. read_key c.members.reader ≡ None) c.next_key.result c.in_ok-key.field-0 c.next_key.ensures.value (sym c.ok.ensures.value ∙ c.in_ok-key.was) in
    let first : c.members.reader ≡ Token.key k ∷ s = read_key_is c.members.reader _ s key ∙ ap (λ o. key_token (option_map (λ x. x.now) o) ∷ s) c.in-Some.is in
    let added : c.set.new.self ≡ put c.in_ok-name.name f before = search rules in
    let member = c.in_ok-name.ensures in
    let later = subst (λ ms. ReadsNamed c.args.depth ts ms all r) (added ∙ ap (λ x. put x f before) member.0) rest in
    c.members.invariant all r (subst (λ us. ReadsNamed c.args.depth us before all r) (sym first) (named_first c.args.depth k f s ts r before all member.1 later))

pub read_named-returns : goal.read_named-returns
read_named-returns t c =
    let r = c.next_key.new.self in
    let all = c.members.fields in
    let key = was_ok (λ o. read_key c.members.reader ≡ Some (option_map (λ x. x.now) o, r)) (λ e. read_key c.members.reader ≡ None) c.next_key.result c.in_ok-key.field-0 c.next_key.ensures.value (sym c.ok.ensures.value ∙ c.in_ok-key.was) in
    let none : c.in_ok-key.field-0 ≡ None = search rules in
    let over : c.members.reader ≡ Token.end_object ∷ r = read_key_is c.members.reader _ r key ∙ ap (λ o. key_token (option_map (λ x. x.now) o) ∷ r) none in
    c.members.invariant all r (subst (λ ts. ReadsNamed c.args.depth ts all all r) (sym over) (named_over c.args.depth all r))

pub read_options-returns-then-take_end_array : goal.read_options-returns-then-take_end_array
read_options-returns-then-take_end_array t c =
    let r = c.take_end_array.new.self in
    let ended : after_end_array c.args.reader.now ≡ Some r = grind arith in
    subst (λ ms. ReadsOptions c.args.depth c.args.reader.now ms r) (sym c.new.ensures)
    (subst (λ ts. ReadsOptions c.args.depth ts [] r) (sym (closed_array c.args.reader.now r ended)) (no_options c.args.depth r))

pub read_options-returns : goal.read_options-returns
read_options-returns t c =
    let r = c.close_array.new.reader in
    let ts = c.open_object.new.reader in
    let ms = c.in_ok-options.options in
    let some : 0 < c.args.depth = omega arith in
    let going : c.take_end_array.new.self ≡ c.args.reader.now = grind arith in
    let opened : c.take_end_array.new.self ≡ Token.begin_object ∷ ts = search rules in
    let closed : c.read_named.new.reader ≡ Token.end_array ∷ r = search rules in
    subst (λ us. ReadsOptions c.args.depth us ms r) (sym opened ∙ going) (options_read c.args.depth ts r ms some (subst (ReadsNamed (c.args.depth - 1) ts [] ms) closed c.in_ok-options.ensures))
