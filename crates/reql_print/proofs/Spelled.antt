-- What is printed of a term has a text.
use Rattle.std.proofs.Common.{◌≡◌, ℕ, suc, ◌<◌, ◌≤◌, ◌^◌, ℤ, pos, negsuc, List, [], ◌∷◌, codes, map, slice_index, Bool, true, false, ◌&&◌, int_le, Less, refl, sym, ap, subst, arith}
use Rattle.std.specs.Prelude.{IsAscii}
use Rattle.std.specs.Str.{IsUtf8}
use Rattle.std.specs.Map.{keys_of}
use Rattle.std.specs.List.Sorted.{IsStrictlySortedBy}
use Rattle.std.proofs.lemmas.Int.{ints}
use Rattle.std.proofs.lemmas.Str.{IsUtf8-from_ascii}
use Rattle.json.proofs.Printed.Utf8.{IsUtf8-are_ascii}
use Rattle.serde_json.specs.Data as json
use Rattle.serde_json.specs.Find.{of_integer}
use Rattle.base64.specs.Engines.{standard}
use Rattle.base64.specs.GeneralPurpose.{encode_of}
use Rattle.base64.proofs.EngineFacts.{IsAscii-encode_of}
use Rattle.reql_datum.specs.Members.{AreRising, text_order}
use Rattle.reql_datum.specs.Whole.{is_in}
use Rattle.reql_datum.specs.Zone.{zone_text}
use Rattle.reql_json.specs.Literal.{binary_shown, time_shown}
use Rattle.reql_json.specs.Reading.{reserved}
use Rattle.reql_term.specs.Form.{Form, several, keyed, variable, implicit, function, operation, Forms, NamedForms, named_of}
use Rattle.reql_term.specs.Table.{number_of}
use Rattle.reql_term.specs.declared.op.Op.{Op}
use Rattle.reql_term.specs.declared.op.Op.TheVariants as op
use Rattle.reql_term.proofs.Numbers.{byte}
use Rattle.reql_read.specs.Spelling.{call, one, spelled_number, spelled_ids, spelled, spelled_all, spelled_named, IsWord, HasText, HaveText, MembersHaveText, members_list}

both : (a b : Bool) → (a && b) ≡ true → (a ≡ true) × (b ≡ true)
both true true h = (refl, refl)
both true false h = cc
both false b h = cc

-- ---- literals

pub integer_word : (z : ℤ) → is_in z ≡ true → IsWord (of_integer z)
integer_word (pos n) h =
    let most : int_le (pos n) (pos 9007199254740992) ≡ true = (both (int_le (negsuc 9007199254740991) (pos n)) (int_le (pos n) (pos 9007199254740992)) h).1 in
    omega (arith, ints)
integer_word (negsuc n) h =
    let least : int_le (negsuc 9007199254740991) (negsuc n) ≡ true = (both (int_le (negsuc 9007199254740991) (negsuc n)) (int_le (negsuc n) (pos 9007199254740992)) h).0 in
    omega (arith, ints)

encoded_utf8 : (s : List ℕ) → IsUtf8 (encode_of standard s)
encoded_utf8 s = IsUtf8-from_ascii (encode_of standard s) (IsAscii-encode_of standard s)

pub binary_text : (s : List ℕ) → HasText (binary_shown s)
unfolding IsStrictlySortedBy
binary_text s =
    (((refl, tt), (tt, tt)), (IsUtf8-are_ascii reserved refl, IsUtf8-are_ascii (codes "BINARY") refl, (IsUtf8-are_ascii (codes "data") refl, encoded_utf8 s, tt)))

pub time_text : (t : ℤ × ℤ) → is_in t.0 ≡ true → IsAscii (zone_text t.1) → HasText (time_shown t)
unfolding IsStrictlySortedBy
time_text t h ascii = (
  ((refl, (refl, tt)), ((refl, tt), (tt, tt))),
  (
    IsUtf8-are_ascii reserved refl,
    IsUtf8-are_ascii (codes "TIME") refl,
    (
      IsUtf8-are_ascii (codes "epoch_time") refl,
      integer_word t.0 h,
      (IsUtf8-are_ascii (codes "timezone") refl, IsUtf8-from_ascii (zone_text t.1) ascii, tt),
    ),
  ),
)

pub ruleset literals = (integer_word, binary_text, time_text)

-- ---- terms

none_rise : AreRising (members_list json.no_members)
unfolding IsStrictlySortedBy
none_rise = tt

call_text : (n : ℕ) (args : json.Items) (opts : json.Members) → n < 2 ^ 64 → HaveText args → AreRising (members_list opts) → MembersHaveText opts → HasText (call n args opts)
call_text n json.no_items json.no_members small all up given = (small, tt)
call_text n (json.item d ds) json.no_members small all up given = (small, (all, tt))
call_text n json.no_items (json.member k e ms) small all up given = (small, (all, ((up, given), tt)))
call_text n (json.item d ds) (json.member k e ms) small all up given = (small, (all, ((up, given), tt)))

number_small : (o : Op) → number_of o < 2 ^ 64
number_small o = let bound = (byte o).1 in omega (arith, bound)

pub several_text : (fs : Forms) → HaveText (spelled_all fs) → HasText (spelled (several fs))
several_text fs all = call_text (number_of op.MakeArray) (spelled_all fs) json.no_members (number_small op.MakeArray) all none_rise tt

pub keyed_text : (ms : NamedForms) → AreRising (members_list (spelled_named ms)) → MembersHaveText (spelled_named ms) → HasText (spelled (keyed ms))
keyed_text ms up given = (up, given)

pub variable_text : (n : ℕ) → n < 2 ^ 64 → HasText (spelled (variable n))
variable_text n small = call_text (number_of op.Var) (one (spelled_number n)) json.no_members (number_small op.Var) (small, tt) none_rise tt

pub implicit_text : HasText (spelled implicit)
implicit_text = call_text (number_of op.ImplicitVar) json.no_items json.no_members (number_small op.ImplicitVar) tt none_rise tt

pub function_text : (ids : List ℕ) (f : Form) → HaveText (spelled_ids ids) → HasText (spelled f) → HasText (spelled (function ids f))
function_text ids f all body =
    call_text (number_of op.Func) (json.item (call (number_of op.MakeArray) (spelled_ids ids) json.no_members) (one (spelled f))) json.no_members (number_small op.Func)
    (call_text (number_of op.MakeArray) (spelled_ids ids) json.no_members (number_small op.MakeArray) all none_rise tt, (body, tt)) none_rise tt

pub operation_text : (o : Op) (fs : Forms) (ms : NamedForms) → HaveText (spelled_all fs) → AreRising (members_list (spelled_named ms)) → MembersHaveText (spelled_named ms) → HasText (spelled (operation o fs ms))
operation_text o fs ms all up given = call_text (number_of o) (spelled_all fs) (spelled_named ms) (number_small o) all up given

pub ruleset calls = (several_text, keyed_text, variable_text, implicit_text, function_text, operation_text)

pub ids_text : (ids : List ℕ) → ((i : ℕ) → slice_index ids i < 2 ^ 64) → HaveText (spelled_ids ids)
ids_text [] h = tt
ids_text (k ∷ ks) h = (h 0, ids_text ks (λ i. h (suc i)))

-- ---- names rise in JSON as in the term

names_same : (ms : List (List ℕ × Form)) → keys_of (members_list (spelled_named (named_of ms))) ≡ keys_of ms
names_same [] = refl
names_same (m ∷ ms) = ap (λ ks. m.0 ∷ ks) (names_same ms)

pub names_rise : (ms : List (List ℕ × Form)) → AreRising ms → AreRising (members_list (spelled_named (named_of ms)))
names_rise ms h = subst (IsStrictlySortedBy text_order) (sym (names_same ms)) h

pub ruleset names = (names_rise)
