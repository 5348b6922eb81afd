-- JSON that is read token by token, a step at a time.
use Rattle.std.proofs.Common.{◌≡◌, ℕ, ◌-◌, ◌<◌, ◌∷◌, List, [], length, Bool, Some, None, refl, sym, ap, ◌∙◌, arith}
use Rattle.json.specs.Token.{Token}
use Rattle.json.specs.Json.{Json, parse_map, after_end_array, value}
use Rattle.json.specs.Json as json
use Rattle.json.proofs.Grammar.{left, value_is, value-begin_array, value-begin_object, skip_value-shorter, items_end, items_more, members_end, members_more}
use Rattle.reql_read.specs.Quick.{ItemsAre, MembersAre}

pub shorter : (depth : ℕ) (ts r : List Token) (j : Json) → value depth ts ≡ Some (j, r) → length r < length ts
shorter depth ts r j e = skip_value-shorter depth ts r (ap left e)

-- no value begins where an array ends
not_over : (depth : ℕ) (ts : List Token) (p : Json × List Token) → value depth ts ≡ Some p → after_end_array ts ≡ None
not_over depth [] p e = refl
not_over depth (Token.begin_object ∷ ts) p e = refl
not_over depth (Token.end_object ∷ ts) p e = refl
not_over depth (Token.begin_array ∷ ts) p e = refl
not_over depth (Token.end_array ∷ ts) p e = let none = sym (value_is depth (Token.end_array ∷ ts)) ∙ e in absurd (cc none)
not_over depth (Token.key s ∷ ts) p e = refl
not_over depth (Token.string s ∷ ts) p e = refl
not_over depth (Token.number s ∷ ts) p e = refl
not_over depth (Token.boolean b ∷ ts) p e = refl
not_over depth (Token.null ∷ ts) p e = refl
not_over depth (Token.bad ∷ ts) p e = refl

pub items_over : (depth : ℕ) (r : List Token) → ItemsAre depth (Token.end_array ∷ r) json.no_items r
items_over depth r = λ n enough. items_end (value depth) n (Token.end_array ∷ r) r enough refl

pub item_first : (depth : ℕ) (ts s r : List Token) (j : Json) (js : json.Items) → value depth ts ≡ Some (j, s) → ItemsAre depth s js r → ItemsAre depth ts (json.item j js) r
item_first depth ts s r j js e rest = λ n enough.
    let less = shorter depth ts s j e in
    items_more (value depth) n ts s j (omega (arith, less, enough)) (not_over depth ts (j, s) e) e ∙ ap (parse_map (json.item j)) (rest (n - 1) (omega (arith, less, enough)))

pub members_over : (depth : ℕ) (r : List Token) → MembersAre depth (Token.end_object ∷ r) json.no_members r
members_over depth r = λ n enough. members_end (value depth) n (Token.end_object ∷ r) r enough refl

pub member_first : (depth : ℕ) (k : List ℕ) (ts r : List Token) (s : List Token) (j : Json) (js : json.Members) → value depth s ≡ Some (j, ts) → MembersAre depth ts js r → MembersAre depth (Token.key k ∷ s) (json.member k j js) r
member_first depth k ts r s j js e rest = λ n enough.
    let less = shorter depth s ts j e in
    members_more (value depth) n k (Token.key k ∷ s) s ts j (omega (arith, less, enough)) refl e ∙ ap (parse_map (json.member k j)) (rest (n - 1) (omega (arith, less, enough)))

-- ---- values

pub string_first : (depth : ℕ) (s : List ℕ) (r : List Token) → value depth (Token.string s ∷ r) ≡ Some (json.string s, r)
string_first depth s r = value_is depth (Token.string s ∷ r)

pub number_first : (depth : ℕ) (s : List ℕ) (r : List Token) → value depth (Token.number s ∷ r) ≡ Some (json.number s, r)
number_first depth s r = value_is depth (Token.number s ∷ r)

pub boolean_first : (depth : ℕ) (b : Bool) (r : List Token) → value depth (Token.boolean b ∷ r) ≡ Some (json.boolean b, r)
boolean_first depth b r = value_is depth (Token.boolean b ∷ r)

pub null_first : (depth : ℕ) (r : List Token) → value depth (Token.null ∷ r) ≡ Some (json.null, r)
null_first depth r = value_is depth (Token.null ∷ r)

pub array_first : (depth : ℕ) (ts r : List Token) (js : json.Items) → 0 < depth → ItemsAre (depth - 1) ts js r → value depth (Token.begin_array ∷ ts) ≡ Some (json.array js, r)
array_first depth ts r js some are = value-begin_array depth ts some ∙ ap (parse_map json.array) (are (length ts) (omega arith))

pub object_first : (depth : ℕ) (ts r : List Token) (js : json.Members) → 0 < depth → MembersAre (depth - 1) ts js r → value depth (Token.begin_object ∷ ts) ≡ Some (json.object js, r)
object_first depth ts r js some are = value-begin_object depth ts some ∙ ap (parse_map json.object) (are (length ts) (omega arith))
