-- What is read is a term that a body can hold.
use Rattle.std.proofs.Common.{◌≡◌, ℕ, suc, ◌++◌, ℤ, pos, negsuc, List, [], ◌∷◌, Bool, true, false, nat_eq, nat_le, ◌&&◌, is_some, codes, option_map, option_and_then, ◌⊎◌, inl, inr, Option, Some, None, Less, Equal, Greater, Result, Ok, Err, refl, sym, ap, subst, ◌∙◌, if◌then◌else◌, arith}
use Rattle.std.proofs.lemmas.Bool.Decides.{nat_tests}
use Rattle.std.specs.declared.cmp.Ordering.{Ordering}
use Rattle.std.specs.Ordering.{nat_cmp, match_ordering}
use Rattle.std.specs.Cmp.Lexicographic.{slice_cmp}
use Rattle.serde_json.specs.Data as json
use Rattle.serde_json.specs.Find.{as_integer, as_number, get_member}
use Rattle.reql_datum.specs.Answer.{◌>>=◌}
use Rattle.reql_datum.specs.Plain.{Plain}
use Rattle.reql_datum.specs.Plain as plain
use Rattle.reql_datum.specs.Whole.{is_in}
use Rattle.reql_json.specs.Reading.{document, reserved, whole}
use Rattle.reql_json.specs.Literal.{has_form, binary_names, time_names, or_reserved, zone_in, text_at, binary_shown, time_shown}
use Rattle.reql_json.specs.Literal.{literal as read_literal}
use Rattle.reql_json.proofs.Back.{values_read_back, keeps_reading}
use Rattle.reql_json.specs.declared.fault.JsonFault.{JsonFault}
use Rattle.reql_json.specs.declared.fault.JsonFault.TheVariants.{OverRange}
use Rattle.reql_term.specs.Form.{Form, literal, several, keyed, variable, implicit, function, operation, forms_of, named_of}
use Rattle.reql_term.specs.Params.{AreDistinct}
use Rattle.reql_term.specs.Table.{op_of, number_of, fits, takes}
use Rattle.reql_term.specs.declared.op.Op.{Op}
use Rattle.reql_term.specs.declared.op.Op.TheVariants as op
use Rattle.reql_term.proofs.Distinct.{distinct_last}
use Rattle.reql_term.proofs.Numbers.{named}
use Rattle.reql_read.specs.Apart.{names_in}
use Rattle.reql_read.specs.Reading.{literal_of, or_left_out, op_named, counted, all_taken, checked, read, read_all, read_named}
use Rattle.reql_read.specs.Shape.{number_in, kind_of, object_of, id_of, is_new, ids_from, ids_of, term_of, shaped, shaped_term, shaped_all, shaped_named}
use Rattle.reql_read.specs.Spelling.{spelled_named, IsLiteral, count_of, takes_all, IsHeld, AreHeld, AreNamedHeld}
use Rattle.reql_read.specs.Written.{Names, Written, Parts, NamedParts, names_of}
use Rattle.reql_read.specs.Written as w
use Rattle.reql_read.specs.declared.fault.ReadFault.{ReadFault}
use Rattle.reql_read.specs.declared.shape.Kind.{Kind}
use Rattle.reql_read.specs.declared.shape.Kind.TheVariants as kind
use Rattle.reql_read.proofs.NewIds.{new_of}
use Rattle.reql_read.proofs.Shapes.{all_step, named_step, names_same}
use Rattle.reql_read.proofs.Understood.{given, inside, bound}

kept : {A : Type 0} (b : Bool) (e : ReadFault) (a : Result A ReadFault) (f : A) → (if b then a else Err e) ≡ Ok f → (b ≡ true) × (a ≡ Ok f)
kept true e a f h = (refl, h)
kept false e a f h = cc

both : (a b : Bool) → (a && b) ≡ true → (a ≡ true) × (b ≡ true)
both true true h = (refl, refl)
both true false h = cc
both false b h = cc

-- ---- what a literal is

-- a JSON value whose document, if it stands for one, is a literal
abbrev SaysLiteral : json.Data → Type 0
SaysLiteral d = (p : Plain) → document d ≡ Ok p → IsLiteral p

abbrev stands_for : Plain → Result Plain JsonFault
stands_for x = Ok x

same_plain : (x y : Plain) → stands_for x ≡ stands_for y → x ≡ y
same_plain x y h = cc

integer_back : (z : ℤ) → is_in z ≡ true → IsLiteral (plain.number z)
integer_back (pos n) h = rw h refl
integer_back (negsuc n) h = rw h refl

in_range : (z : ℤ) (b : Bool) → is_in z ≡ b → (p : Plain) → ((if b then Ok z else Err OverRange) >>= λ n. Ok (plain.number n)) ≡ Ok p → IsLiteral p
in_range z true is p h = subst IsLiteral (same_plain (plain.number z) p h) (integer_back z is)
in_range z false is p h = cc

number_by : (o : Option ℤ) (p : Plain) → (whole o >>= λ z. Ok (plain.number z)) ≡ Ok p → IsLiteral p
number_by None p h = cc
number_by (Some z) p h = in_range z (is_in z) refl p h

-- ---- the operator that was found

left : (n : ℕ) (o : Option Op) (x : Op) → or_left_out n o ≡ Ok x → o ≡ Some x
left n None x h = cc
left n (Some y) x h = ap Some (inside y x h)

op_is : (n : ℕ) (x : Op) → op_named n ≡ Ok x → op_of n ≡ Some x
unfolding op_named
op_is n x h = left n (op_of n) x (kept (nat_le 1 n && nat_le n 255) _ _ x h).1

counted_is : (x : Op) (n : ℕ) (t : Unit {0}) → counted x n ≡ Ok t → fits x n ≡ true
unfolding counted
counted_is x n t h = (kept (fits x n) _ _ t h).0

-- what is known of a term that was checked
abbrev Checked : ℕ → ℕ → Names → Op → Type 0
Checked n count names x = (op_of n ≡ Some x) × (fits x count ≡ true) × (all_taken x names ≡ Ok tt)

checked_op : (n count : ℕ) (names : Names) (x : Op) → checked n count names ≡ Ok x → Checked n count names x
checked_op n count names x h =
    let a = bound (op_named n) _ x h in
    let b = bound (counted a.0 count) _ x a.2 in
    let c = bound (all_taken a.0 names) _ x b.2 in
    let all : Checked n count names a.0 = (op_is n a.0 a.1, counted_is a.0 count b.0 b.1, c.1) in
    subst (Checked n count names) (inside a.0 x c.2) all

-- ---- numbers of a form of their own

same_number : (a b : ℕ) → nat_eq a b ≡ true → a ≡ b
same_number a b h = grind (arith, nat_tests)

abbrev by_tests : Bool → Bool → Bool → Bool → Bool → Kind
by_tests a b c d e = if a then kind.Array else (if b then kind.Object else (if c then kind.Variable else (if d then kind.Row else (if e then kind.Function else kind.Call))))

-- which test a kind comes from
abbrev Found : Bool → Bool → Bool → Bool → Kind → Type 0
Found b c d e kind.Array = Unit {0}
Found b c d e kind.Object = b ≡ true
Found b c d e kind.Variable = c ≡ true
Found b c d e kind.Row = d ≡ true
Found b c d e kind.Function = e ≡ true
Found b c d e kind.Call = Unit {0}

found : (a b c d e : Bool) → Found b c d e (by_tests a b c d e)
found true b c d e = tt
found false true c d e = refl
found false false true d e = refl
found false false false true e = refl
found false false false false true = refl
found false false false false false = tt

-- the number of a kind
abbrev HasNumber : ℕ → Kind → Type 0
HasNumber n k = Found (nat_eq n (number_of op.MakeObj)) (nat_eq n (number_of op.Var)) (nat_eq n (number_of op.ImplicitVar)) (nat_eq n (number_of op.Func)) k

kind_number : (n : ℕ) → HasNumber n (kind_of n)
unfolding kind_of
kind_number n = found (nat_eq n (number_of op.MakeArray)) (nat_eq n (number_of op.MakeObj)) (nat_eq n (number_of op.Var)) (nat_eq n (number_of op.ImplicitVar)) (nat_eq n (number_of op.Func))

-- where its operator does not take so many arguments, nothing is read of a number
no_fit : (n : ℕ) (x y : Op) (count : ℕ) (names : Names) → nat_eq n (number_of x) ≡ true → op_of (number_of x) ≡ Some x → fits x count ≡ false → Checked n count names y → ⊥
no_fit n x y count names is found fails known =
    let e : Some x ≡ Some y = sym found ∙ ap op_of (sym (same_number n (number_of x) is)) ∙ known.0 in
    let same : x ≡ y = cc in
    let fit : fits x count ≡ true = ap (λ o. fits o count) same ∙ known.1 in
    (let f : true ≡ false = sym fit ∙ fails in cc)

no_more_than_one : (n : ℕ) → fits op.Var (suc (suc n)) ≡ false
no_more_than_one n = grind (arith, nat_tests)

no_row_argument : (n : ℕ) → fits op.ImplicitVar (suc n) ≡ false
no_row_argument n = grind (arith, nat_tests)

no_object_argument : (n : ℕ) → fits op.MakeObj (suc n) ≡ false
no_object_argument n = grind (arith, nat_tests)

no_more_than_two : (n : ℕ) → fits op.Func (suc (suc (suc n))) ≡ false
no_more_than_two n = grind (arith, nat_tests)

-- ---- the name that objects may not have

-- whether it is among names
abbrev has : Names → Bool
has [] = false
has (l ∷ ls) = match_ordering (slice_cmp nat_cmp reserved l) (has ls) true (has ls)

found_in : (o : Ordering) (a b : Option json.Data) (e : json.Data) → is_some (match_ordering o a (Some e) b) ≡ match_ordering o (is_some a) true (is_some b)
found_in Less a b e = refl
found_in Equal a b e = refl
found_in Greater a b e = refl

has_by_names : (ms : json.Members) → is_some (get_member reserved ms) ≡ has (names_in ms)
has_by_names json.no_members = refl
has_by_names (json.member l e ms) = found_in (slice_cmp nat_cmp reserved l) _ _ e ∙ ap (λ b. match_ordering (slice_cmp nat_cmp reserved l) b true b) (has_by_names ms)

-- ---- what has the shape

abbrev mutual
  Good : Written → Type 0
  Good (w.value d) = SaysLiteral d
  Good (w.array ws names) = AllGood ws
  Good (w.object ws) = (has (names_of ws) ≡ false) × NamedGood ws
  Good (w.variable id names) = Unit {0}
  Good (w.row names) = Unit {0}
  Good (w.function ids id_names body names) = AreDistinct ids × Good body
  Good (w.call n args opts) = ((x : Op) → Checked n (w.count_of args) (names_of opts) x → kind_of n ≡ kind.Call) × AllGood args × NamedGood opts

  AllGood : Parts → Type 0
  AllGood w.no_parts = Unit {0}
  AllGood (w.part v vs) = Good v × AllGood vs

  NamedGood : NamedParts → Type 0
  NamedGood w.no_named = Unit {0}
  NamedGood (w.named k v vs) = Good v × NamedGood vs

ids_distinct : (before : List ℕ) (ws : Parts) (ids : List ℕ) → AreDistinct before → ids_from before ws ≡ Ok ids → AreDistinct ids
ids_distinct before w.no_parts ids distinct h = subst AreDistinct (inside before ids h) distinct
ids_distinct before (w.part v vs) ids distinct h =
    let a = bound (id_of v) _ ids h in
    let b = kept (is_new a.0 before) _ _ ids a.2 in
    ids_distinct (before ++ a.0 ∷ []) vs ids (distinct_last before a.0 distinct (new_of a.0 before b.0)) b.1

function_ids : (v : Written) (ks : List ℕ × Names) → ids_of v ≡ Ok ks → AreDistinct ks.0
function_ids (w.array ws names) ks h = let a = bound (ids_from [] ws) _ ks h in subst (λ x. AreDistinct x.0) (inside _ ks a.2) (ids_distinct [] ws a.0 tt a.1)
function_ids (w.value d) ks h = cc
function_ids (w.object ws) ks h = cc
function_ids (w.variable id names) ks h = cc
function_ids (w.row names) ks h = cc
function_ids (w.function ids id_names body names) ks h = cc
function_ids (w.call n args opts) ks h = cc

-- an object with the reserved name that stands for a document is a binary or a time
abbrev IsTyped : Plain → Type 0
IsTyped p = ((s : List ℕ) × (p ≡ plain.binary s)) ⊎ ((t : ℤ × ℤ) × (p ≡ plain.time t))

binary_typed : (o : Option (List ℕ)) (p : Plain) → or_reserved (option_map plain.binary o) ≡ Ok p → IsTyped p
binary_typed None p h = cc
binary_typed (Some s) p h = inl (s, sym (same_plain (plain.binary s) p h))

time_typed : (at : ℤ) (o : Option ℤ) (p : Plain) → or_reserved (option_map (λ zone. plain.time (at, zone)) o) ≡ Ok p → IsTyped p
time_typed at None p h = cc
time_typed at (Some z) p h = inr ((at, z), sym (same_plain (plain.time (at, z)) p h))

after_seconds : (r : Result ℤ JsonFault) (o : Option ℤ) (p : Plain) → (r >>= λ at. or_reserved (option_map (λ zone. plain.time (at, zone)) o)) ≡ Ok p → IsTyped p
after_seconds (Ok at) o p h = time_typed at o p h
after_seconds (Err e) o p h = cc

after_number : (r : Result json.Num JsonFault) (o : Option ℤ) (p : Plain) → (r >>= λ n. whole (as_integer n) >>= λ at. or_reserved (option_map (λ zone. plain.time (at, zone)) o)) ≡ Ok p → IsTyped p
after_number (Ok n) o p h = after_seconds (whole (as_integer n)) o p h
after_number (Err e) o p h = cc

json_chosen : (b : Bool) (x y : Result Plain JsonFault) (p : Plain) → (if b then x else y) ≡ Ok p → (x ≡ Ok p) ⊎ (y ≡ Ok p)
json_chosen true x y p h = inl h
json_chosen false x y p h = inr h

literal_typed : (ms : json.Members) (p : Plain) → read_literal ms ≡ Ok p → IsTyped p
literal_typed ms p h = elim (json_chosen (has_form (codes "BINARY") binary_names ms) _ _ p h) [
  | inl x ↦ binary_typed _ p x
  | inr y ↦ elim (json_chosen (has_form (codes "TIME") time_names ms) _ _ p y) [
    | inl x ↦ after_number (or_reserved (option_and_then as_number (get_member (codes "epoch_time") ms))) (option_and_then zone_in (text_at (codes "timezone") ms)) p x
    | inr x ↦ cc
  ]
]

typed_literal : (d : json.Data) (p : Plain) → document d ≡ Ok p → IsTyped p → IsLiteral p
typed_literal d p h (inl x) = subst IsLiteral (sym x.1) (values_read_back (plain.binary x.0) (binary_shown x.0) refl (keeps_reading d (plain.binary x.0) (h ∙ ap Ok x.1)).0)
typed_literal d p h (inr x) = subst IsLiteral (sym x.1) (values_read_back (plain.time x.0) (time_shown x.0) refl (keeps_reading d (plain.time x.0) (h ∙ ap Ok x.1)).0)

reserved_says : (ms : json.Members) → is_some (get_member reserved ms) ≡ true → SaysLiteral (json.object ms)
reserved_says ms is p h = typed_literal (json.object ms) p h (literal_typed ms p (let e = rw is at h in e))

object_good : (ms : json.Members) (ws : NamedParts) (b : Bool) → is_some (get_member reserved ms) ≡ b → names_of ws ≡ names_in ms → NamedGood ws → Good (if b then w.value (json.object ms) else w.object ws)
object_good ms ws true is same good = reserved_says ms is
object_good ms ws false is same good = (ap has same ∙ sym (has_by_names ms) ∙ is, good)

other : (n : ℕ) (ws : Parts) (os : NamedParts) (v : Written) → ((x : Op) → Checked n (w.count_of ws) (names_of os) x → kind_of n ≡ kind.Call) → AllGood ws → NamedGood os → given (w.call n ws os) ≡ Ok v → Good v
other n ws os v free all opts h = subst Good (inside (w.call n ws os) v h) (free, all, opts)

term_good : (k : Kind) (n : ℕ) (ws : Parts) (ms : json.Members) (os : NamedParts) (v : Written) → HasNumber n k → kind_of n ≡ k → names_of os ≡ names_in ms → AllGood ws → NamedGood os → term_of k n ws ms os ≡ Ok v → Good v
term_good kind.Array n ws ms os v num is same all opts h = subst Good (inside (w.array ws (names_of os)) v h) all
term_good kind.Object n w.no_parts ms os v num is same all opts h = subst Good (inside (object_of ms os) v h) (object_good ms os (is_some (get_member reserved ms)) refl same opts)
term_good kind.Object n (w.part u us) ms os v num is same all opts h = other n (w.part u us) os v (λ x known. absurd (no_fit n op.MakeObj x _ _ num refl (no_object_argument (w.count_of us)) known)) all opts h
term_good kind.Variable n w.no_parts ms os v num is same all opts h = other n w.no_parts os v (λ x known. absurd (no_fit n op.Var x _ _ num refl refl known)) all opts h
term_good kind.Variable n (w.part u w.no_parts) ms os v num is same all opts h = let a = bound (id_of u) _ v h in subst Good (inside (w.variable a.0 (names_of os)) v a.2) tt
term_good kind.Variable n (w.part u (w.part t ts)) ms os v num is same all opts h = other n (w.part u (w.part t ts)) os v (λ x known. absurd (no_fit n op.Var x _ _ num refl (no_more_than_one (w.count_of ts)) known)) all opts h
term_good kind.Row n w.no_parts ms os v num is same all opts h = subst Good (inside (w.row (names_of os)) v h) tt
term_good kind.Row n (w.part u us) ms os v num is same all opts h = other n (w.part u us) os v (λ x known. absurd (no_fit n op.ImplicitVar x _ _ num refl (no_row_argument (w.count_of us)) known)) all opts h
term_good kind.Function n w.no_parts ms os v num is same all opts h = other n w.no_parts os v (λ x known. absurd (no_fit n op.Func x _ _ num refl refl known)) all opts h
term_good kind.Function n (w.part u w.no_parts) ms os v num is same all opts h = other n (w.part u w.no_parts) os v (λ x known. absurd (no_fit n op.Func x _ _ num refl refl known)) all opts h
term_good kind.Function n (w.part u (w.part t w.no_parts)) ms os v num is same all opts h =
    let a = bound (ids_of u) _ v h in subst Good (inside (w.function a.0.0 a.0.1 t (names_of os)) v a.2) (function_ids u a.0 a.1, all.1.0)
term_good kind.Function n (w.part u (w.part t (w.part r rs))) ms os v num is same all opts h =
    other n (w.part u (w.part t (w.part r rs))) os v (λ x known. absurd (no_fit n op.Func x _ _ num refl (no_more_than_two (w.count_of rs)) known)) all opts h
term_good kind.Call n ws ms os v num is same all opts h = other n ws os v (λ x known. is) all opts h

mutual
  good : (d : json.Data) (v : Written) → shaped d ≡ Ok v → Good v
  good json.null v h = subst Good (inside (w.value json.null) v h) (λ p e. subst IsLiteral (same_plain plain.null p e) refl)
  good (json.boolean b) v h = subst Good (inside (w.value (json.boolean b)) v h) (λ p e. subst IsLiteral (same_plain (plain.boolean b) p e) refl)
  good (json.number n) v h = subst Good (inside (w.value (json.number n)) v h) (λ p e. number_by (as_integer n) p e)
  good (json.string s) v h = subst Good (inside (w.value (json.string s)) v h) (λ p e. subst IsLiteral (same_plain (plain.text s) p e) refl)
  good (json.array ds) v h = good_term ds v h
  good (json.object ms) v h =
      let a = bound (shaped_named ms) _ v h in
      subst Good (inside (object_of ms a.0) v a.2) (object_good ms a.0 (is_some (get_member reserved ms)) refl (names_same ms a.0 a.1) (good_named ms a.0 a.1))

  good_term : (ds : json.Items) (v : Written) → shaped_term ds ≡ Ok v → Good v
  good_term json.no_items v h = cc
  good_term (json.item n json.no_items) v h =
      let a = bound (number_in n) _ v h in
      term_good (kind_of a.0) a.0 w.no_parts json.no_members w.no_named v (kind_number a.0) refl refl tt tt a.2
  good_term (json.item n (json.item (json.array args) json.no_items)) v h =
      let a = bound (number_in n) _ v h in
      let b = bound (shaped_all args) _ v a.2 in
      term_good (kind_of a.0) a.0 b.0 json.no_members w.no_named v (kind_number a.0) refl refl (good_all args b.0 b.1) tt b.2
  good_term (json.item n (json.item (json.array args) (json.item (json.object ms) json.no_items))) v h =
      let a = bound (number_in n) _ v h in
      let b = bound (shaped_all args) _ v a.2 in
      let c = bound (shaped_named ms) _ v b.2 in
      term_good (kind_of a.0) a.0 b.0 ms c.0 v (kind_number a.0) refl (names_same ms c.0 c.1) (good_all args b.0 b.1) (good_named ms c.0 c.1) c.2
  good_term (json.item n (json.item json.null ds)) v h = cc
  good_term (json.item n (json.item (json.boolean b) ds)) v h = cc
  good_term (json.item n (json.item (json.number m) ds)) v h = cc
  good_term (json.item n (json.item (json.string s) ds)) v h = cc
  good_term (json.item n (json.item (json.object ms) ds)) v h = cc
  good_term (json.item n (json.item (json.array args) (json.item json.null ds))) v h = cc
  good_term (json.item n (json.item (json.array args) (json.item (json.boolean b) ds))) v h = cc
  good_term (json.item n (json.item (json.array args) (json.item (json.number m) ds))) v h = cc
  good_term (json.item n (json.item (json.array args) (json.item (json.string s) ds))) v h = cc
  good_term (json.item n (json.item (json.array args) (json.item (json.array es) ds))) v h = cc
  good_term (json.item n (json.item (json.array args) (json.item (json.object ms) (json.item d ds)))) v h = cc

  good_all : (ds : json.Items) (ws : Parts) → shaped_all ds ≡ Ok ws → AllGood ws
  good_all json.no_items ws h = subst AllGood (inside w.no_parts ws h) tt
  good_all (json.item d ds) ws h = let a = all_step d ds ws h in subst AllGood (sym a.4) (good d a.0 a.2, good_all ds a.1 a.3)

  good_named : (ms : json.Members) (ws : NamedParts) → shaped_named ms ≡ Ok ws → NamedGood ws
  good_named json.no_members ws h = subst NamedGood (inside w.no_named ws h) tt
  good_named (json.member k d ms) ws h = let a = named_step k d ms ws h in subst NamedGood (sym a.4) (good d a.0 a.2, good_named ms a.1 a.3)

-- ---- what is read of it

abbrev Facts : Parts → List Form → Type 0
Facts ws fs = AreHeld (forms_of fs) × (count_of (forms_of fs) ≡ w.count_of ws)

abbrev NamedFacts : NamedParts → List (List ℕ × Form) → Type 0
NamedFacts ws ms = AreNamedHeld (named_of ms) × (names_in (spelled_named (named_of ms)) ≡ names_of ws) × ((x : Op) → all_taken x (names_of ws) ≡ Ok tt → takes_all x (named_of ms) ≡ true)

literal_held : (r : Result Plain JsonFault) (f : Form) → ((p : Plain) → r ≡ Ok p → IsLiteral p) → literal_of r ≡ Ok f → IsHeld f
literal_held (Ok p) f good h = subst IsHeld (inside (literal p) f h) (good p refl)
literal_held (Err e) f good h = cc

mutual
  held_by : (v : Written) (f : Form) → Good v → read v ≡ Ok f → IsHeld f
  held_by (w.value d) f g h = literal_held (document d) f g h
  held_by (w.array ws names) f g h =
      let a = bound (all_taken op.MakeArray names) _ f h in
      let b = bound (read_all ws) _ f a.2 in
      subst IsHeld (inside (several (forms_of b.0)) f b.2) (all_held ws b.0 g b.1).0
  held_by (w.object ws) f g h =
      let a = bound (read_named ws) _ f h in
      let facts = named_held ws a.0 g.1 a.1 in
      let all : IsHeld (keyed (named_of a.0)) = (has_by_names (spelled_named (named_of a.0)) ∙ ap has facts.1 ∙ g.0, facts.0) in
      subst IsHeld (inside (keyed (named_of a.0)) f a.2) all
  held_by (w.variable id names) f g h = let a = bound (all_taken op.Var names) _ f h in subst IsHeld (inside (variable id) f a.2) tt
  held_by (w.row names) f g h = let a = bound (all_taken op.ImplicitVar names) _ f h in subst IsHeld (inside implicit f a.2) tt
  held_by (w.function ids id_names body names) f g h =
      let a = bound (all_taken op.Func names) _ f h in
      let b = bound (all_taken op.MakeArray id_names) _ f a.2 in
      let c = bound (read body) _ f b.2 in
      let all : IsHeld (function ids c.0) = (g.0, held_by body c.0 g.1 c.1) in
      subst IsHeld (inside (function ids c.0) f c.2) all
  held_by (w.call n args opts) f g h =
      let a = bound (checked n (w.count_of args) (names_of opts)) _ f h in
      let b = bound (read_all args) _ f a.2 in
      let c = bound (read_named opts) _ f b.2 in
      let known = checked_op n (w.count_of args) (names_of opts) a.0 a.1 in
      let x = all_held args b.0 g.1 b.1 in
      let y = named_held opts c.0 g.2 c.1 in
      let own : kind_of (number_of a.0) ≡ kind.Call = ap kind_of (named n a.0 known.0) ∙ g.0 a.0 known in
      let all : IsHeld (operation a.0 (forms_of b.0) (named_of c.0)) = (own, ap (fits a.0) x.1 ∙ known.1, y.2 a.0 known.2, x.0, y.0) in
      subst IsHeld (inside (operation a.0 (forms_of b.0) (named_of c.0)) f c.2) all

  all_held : (ws : Parts) (fs : List Form) → AllGood ws → read_all ws ≡ Ok fs → Facts ws fs
  all_held w.no_parts fs g h = subst (Facts w.no_parts) (inside [] fs h) (tt, refl)
  all_held (w.part v vs) fs g h =
      let a = bound (read v) _ fs h in
      let b = bound (read_all vs) _ fs a.2 in
      let more = all_held vs b.0 g.1 b.1 in
      let all : Facts (w.part v vs) (a.0 ∷ b.0) = ((held_by v a.0 g.0 a.1, more.0), ap suc more.1) in
      subst (Facts (w.part v vs)) (inside (a.0 ∷ b.0) fs b.2) all

  named_held : (ws : NamedParts) (ms : List (List ℕ × Form)) → NamedGood ws → read_named ws ≡ Ok ms → NamedFacts ws ms
  named_held w.no_named ms g h = subst (NamedFacts w.no_named) (inside [] ms h) (tt, refl, λ x t. refl)
  named_held (w.named k v vs) ms g h =
      let a = bound (read v) _ ms h in
      let b = bound (read_named vs) _ ms a.2 in
      let more = named_held vs b.0 g.1 b.1 in
      let all : NamedFacts (w.named k v vs) ((k, a.0) ∷ b.0) =
      ((held_by v a.0 g.0 a.1, more.0), ap (λ ks. k ∷ ks) more.1, λ x t. (let e = kept (takes x k) _ _ tt t in rw e.0 (more.2 x e.1))) in
      subst (NamedFacts (w.named k v vs)) (inside ((k, a.0) ∷ b.0) ms b.2) all

pub held : (d : json.Data) (w : Written) (f : Form) → shaped d ≡ Ok w → read w ≡ Ok f → IsHeld f
held d v f is h = held_by v f (good d v is) h
