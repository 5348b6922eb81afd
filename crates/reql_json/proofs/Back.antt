-- What is shown reads back, and what was read is shown in its one spelling.
use Rattle.std.proofs.Common.{◌≡◌, ℕ, ℤ, pos, negsuc, List, codes, Bool, true, false, ◌&&◌, not, Option, Some, None, option_map, Result, Ok, Err, IfOk, is_some, cond, if◌then◌else◌, Ordering, Less, Equal, Greater, is_eq, refl, sym, ap, ◌∙◌, subst}
use Rattle.std.specs.Option.{option_and_then, IfSome}
use Rattle.std.specs.Result.{result_ok}
use Rattle.std.specs.Ordering.{match_ordering, MatchOrdering}
use Rattle.serde_json.specs.Data as json
use Rattle.serde_json.specs.Find.{as_integer, as_str, of_integer, is_float, get_member}
use Rattle.serde_json.specs.Written.{has_float, items_have_float, members_have_float}
use Rattle.base64.specs.Engines.{standard}
use Rattle.base64.specs.GeneralPurpose.{encode_of, decode_of}
use Rattle.reql_datum.specs.Answer.{◌>>=◌}
use Rattle.reql_datum.specs.Kinds.{reserved, is_literal, is_storable, are_storable, are_members_storable}
use Rattle.reql_datum.specs.Members.{text_order, find}
use Rattle.reql_datum.specs.Order.{text_less}
use Rattle.reql_datum.specs.Plain.{Plain, low, array, boolean, null, number, object, binary, time, text, high, Plains, no_items, item, Pairs, no_pairs, pair, items_of, pairs_of}
use Rattle.reql_datum.specs.Plain as plain
use Rattle.reql_datum.specs.Whole.{is_in}
use Rattle.reql_datum.specs.Zone.{is_zone}
use Rattle.reql_datum.proofs.Back.{items_back, pairs_back}
use Rattle.reql_datum.proofs.Order.{text_means}
use Rattle.reql_json.specs.declared.fault.JsonFault.{JsonFault}
use Rattle.reql_json.specs.declared.fault.JsonFault.TheVariants.{OverRange, Reserved}
use Rattle.reql_json.specs.Literal.{whole, without_line_ends, are_bytes, if_encoded, bytes_in, zone_in, has_names, has_form, text_at, is_text, or_reserved, binary_names, time_names, binary_in, time_in, literal, binary_shown, time_shown}
use Rattle.reql_json.specs.Reading.{document, documents, members}
use Rattle.reql_json.specs.Showing.{shown, items_shown, members_shown}
use Rattle.reql_json.specs.Inverse.{in_range, all_in_range, pairs_in_range, signed, zone_spelled, parts, normal, normal_items, normal_members, ShowsStorable, ReadsBack, ShowsBack, KeepsReading}
use Rattle.reql_json.proofs.Symbols.{bytes_back}
use Rattle.reql_json.proofs.Zones.{zone_back, zone_kept}

-- ---- what holds of what an Option or a Result has

on_bind : {A B : Type 0} (P : A → Type 0) (Q : B → Type 0) (f : A → Result B JsonFault) (r : Result A JsonFault) → IfOk r P → ((a : A) → P a → IfOk (f a) Q) → IfOk (r >>= f) Q
on_bind P Q f (Ok a) h g = g a h
on_bind P Q f (Err e) h g = tt

ok_has : {A : Type 0} (P : A → Type 0) (r : Result A JsonFault) (x : A) → IfOk r P → r ≡ Ok x → P x
ok_has P r x h is = rw is at h

both : (a b : Bool) → (a && b) ≡ true → (a ≡ true) × (b ≡ true)
both true b h = (refl, h)
both false b h = cc

no : (b : Bool) → not b ≡ true → b ≡ false
no true h = cc
no false h = refl

-- a value that is there is what the document is shown as
valued : (b : Bool) (x d : json.Data) → (if b then Some x else None) ≡ Some d → (b ≡ true) × (x ≡ d)
valued true x d h = (refl, cc)
valued false x d h = cc

value_if : (b : Bool) (d : json.Data) → is_some (if b then Some d else None) ≡ b
value_if true d = refl
value_if false d = refl

pub shows_storable : ShowsStorable
shows_storable p = value_if (is_storable p) (shown p)

-- ---- no float is shown

no_float_in : (z : ℤ) → is_float (of_integer z) ≡ false
no_float_in (pos n) = refl
no_float_in (negsuc n) = refl

mutual
  pub shown_no_float : (p : Plain) → has_float (shown p) ≡ false
  shown_no_float low = refl
  shown_no_float (array vs) = no_floats vs
  shown_no_float (boolean b) = refl
  shown_no_float null = refl
  shown_no_float (number z) = no_float_in z
  shown_no_float (object ms) = no_member_floats ms
  shown_no_float (binary s) = refl
  shown_no_float (time t) = rw (no_float_in t.0) refl
  shown_no_float (text s) = refl
  shown_no_float high = refl

  no_floats : (vs : Plains) → items_have_float (items_shown vs) ≡ false
  no_floats no_items = refl
  no_floats (item v vs) = rw (shown_no_float v, no_floats vs) refl

  no_member_floats : (ms : Pairs) → members_have_float (members_shown ms) ≡ false
  no_member_floats no_pairs = refl
  no_member_floats (pair k v ms) = rw (shown_no_float v, no_member_floats ms) refl

-- ---- what is shown reads back

-- an object has the reserved name where what it is shown as has it
named_if : (o : Ordering) (p : Plain) (d : json.Data) (a : Option Plain) (b : Option json.Data) → is_some a ≡ is_some b → is_some (cond (is_eq o) (Some p) a) ≡ is_some (match_ordering o b (Some d) b)
named_if Less p d a b h = h
named_if Equal p d a b h = refl
named_if Greater p d a b h = h

named : (ms : Pairs) → is_literal ms ≡ is_some (get_member reserved (members_shown ms))
named no_pairs = refl
named (pair k v ms) = named_if (text_order reserved k) v (shown v) (find reserved (plain.members ms)) (get_member reserved (members_shown ms)) (named ms)

in_whole : (z : ℤ) → is_in z ≡ true → whole (as_integer (of_integer z)) ≡ Ok z
in_whole (pos n) h = rw h refl
in_whole (negsuc n) h = rw h refl

binary_back : (s : List ℕ) → are_bytes s ≡ true → document (binary_shown s) ≡ Ok (binary s)
binary_back s h = ap (λ o. or_reserved (option_map binary o)) (bytes_back s h)

time_back : (t : ℤ × ℤ) → is_in t.0 ≡ true → is_zone t.1 ≡ true → document (time_shown t) ≡ Ok (time t)
time_back t h k = rw (in_whole t.0 h, zone_back t.1 k) refl

mutual
  pub reads_back : (p : Plain) → in_range p ≡ true → is_storable p ≡ true → document (shown p) ≡ Ok p
  reads_back low h k = cc
  reads_back (array vs) h k = rw (reads_all vs h k) (ap (λ t. Ok (array t)) (items_back vs))
  reads_back (boolean b) h k = refl
  reads_back null h k = refl
  reads_back (number z) h k = rw (in_whole z h) refl
  reads_back (object ms) h k =
      let ks = both (not (is_literal ms)) (are_members_storable ms) k in
      let free : is_some (get_member reserved (members_shown ms)) ≡ false = sym (named ms) ∙ no (is_literal ms) ks.0 in
      rw (free, reads_members ms h ks.1) (ap (λ t. Ok (object t)) (pairs_back ms))
  reads_back (binary s) h k = binary_back s h
  reads_back (time t) h k = let hs = both (is_in t.0) (is_zone t.1) h in time_back t hs.0 hs.1
  reads_back (text s) h k = refl
  reads_back high h k = cc

  reads_all : (vs : Plains) → all_in_range vs ≡ true → are_storable vs ≡ true → documents (items_shown vs) ≡ Ok (plain.listed vs)
  reads_all no_items h k = refl
  reads_all (item v vs) h k =
      let hs = both (in_range v) (all_in_range vs) h in
      let ks = both (is_storable v) (are_storable vs) k in
      rw (reads_back v hs.0 ks.0, reads_all vs hs.1 ks.1) refl

  reads_members : (ms : Pairs) → pairs_in_range ms ≡ true → are_members_storable ms ≡ true → members (members_shown ms) ≡ Ok (plain.members ms)
  reads_members no_pairs h k = refl
  reads_members (pair n v ms) h k =
      let hs = both (in_range v) (pairs_in_range ms) h in
      let ks = both (is_storable v) (are_members_storable ms) k in
      rw (reads_back v hs.0 ks.0, reads_members ms hs.1 ks.1) refl

pub ruleset shown_back = (shown_no_float, reads_back)

pub values_read_back : ReadsBack
values_read_back p d is h =
    let known = valued (is_storable p) (shown p) d is in
    subst (λ x. document x ≡ Ok p) known.1 (reads_back p h known.0)

-- ---- the two forms of objects with the reserved name

equal_at : (o : Ordering) (s t : List ℕ) → is_eq o ≡ true → MatchOrdering o (text_less s t) (s ≡ t) (text_less t s) → s ≡ t
equal_at Less s t e h = cc
equal_at Equal s t e h = h
equal_at Greater s t e h = cc

equal : (s t : List ℕ) → is_eq (text_order s t) ≡ true → s ≡ t
equal s t e = equal_at (text_order s t) s t e (text_means s t)

text_is : (type : List ℕ) (d : json.Data) → is_text type (as_str d) ≡ true → d ≡ json.string type
text_is type json.null h = cc
text_is type (json.boolean b) h = cc
text_is type (json.number n) h = cc
text_is type (json.string s) h = ap json.string (sym (equal type s h))
text_is type (json.array ds) h = cc
text_is type (json.object ms) h = cc

abbrev pair_of : json.Data → json.Data → json.Members
pair_of d e = json.member reserved d (json.member (codes "data") e json.no_members)

abbrev triple_of : json.Data → json.Data → json.Data → json.Members
triple_of d e f = json.member reserved d (json.member (codes "epoch_time") e (json.member (codes "timezone") f json.no_members))

two_named : (ms : json.Members) → has_names binary_names ms ≡ true → (d : json.Data) × (e : json.Data) × (ms ≡ pair_of d e)
two_named json.no_members h = cc
two_named (json.member j d json.no_members) h = absurd (cc (both (is_eq (text_order reserved j)) false h).1)
two_named (json.member j d (json.member k e json.no_members)) h =
    let hs = both (is_eq (text_order reserved j)) (is_eq (text_order (codes "data") k) && true) h in
    let first : reserved ≡ j = equal reserved j hs.0 in
    let second : codes "data" ≡ k = equal (codes "data") k (both (is_eq (text_order (codes "data") k)) true hs.1).0 in
    (d, e, rw (← first, ← second) refl)
two_named (json.member j d (json.member k e (json.member l f ms))) h =
    let hs = both (is_eq (text_order reserved j)) (is_eq (text_order (codes "data") k) && false) h in
    absurd (cc (both (is_eq (text_order (codes "data") k)) false hs.1).1)

three_named : (ms : json.Members) → has_names time_names ms ≡ true → (d : json.Data) × (e : json.Data) × (f : json.Data) × (ms ≡ triple_of d e f)
three_named json.no_members h = cc
three_named (json.member j d json.no_members) h = absurd (cc (both (is_eq (text_order reserved j)) false h).1)
three_named (json.member j d (json.member k e json.no_members)) h =
    let hs = both (is_eq (text_order reserved j)) (is_eq (text_order (codes "epoch_time") k) && false) h in
    absurd (cc (both (is_eq (text_order (codes "epoch_time") k)) false hs.1).1)
three_named (json.member j d (json.member k e (json.member l f json.no_members))) h =
    let hs = both (is_eq (text_order reserved j)) (is_eq (text_order (codes "epoch_time") k) && (is_eq (text_order (codes "timezone") l) && true)) h in
    let ks = both (is_eq (text_order (codes "epoch_time") k)) (is_eq (text_order (codes "timezone") l) && true) hs.1 in
    let ls = both (is_eq (text_order (codes "timezone") l)) true ks.1 in
    let first : reserved ≡ j = equal reserved j hs.0 in
    let second : codes "epoch_time" ≡ k = equal (codes "epoch_time") k ks.0 in
    let third : codes "timezone" ≡ l = equal (codes "timezone") l ls.0 in
    (d, e, f, rw (← first, ← second, ← third) refl)
three_named (json.member j d (json.member k e (json.member l f (json.member m g ms)))) h =
    let hs = both (is_eq (text_order reserved j)) (is_eq (text_order (codes "epoch_time") k) && (is_eq (text_order (codes "timezone") l) && false)) h in
    let ks = both (is_eq (text_order (codes "epoch_time") k)) (is_eq (text_order (codes "timezone") l) && false) hs.1 in
    absurd (cc (both (is_eq (text_order (codes "timezone") l)) false ks.1).1)

-- ---- what was read is shown in its one spelling, and is in range

record IsLike (p : Plain) (d : json.Data) : Type 0 where
  form : shown p ≡ d
  ranges : in_range p ≡ true
  shows : is_storable p ≡ true

in_either : (b : Bool) (z : ℤ) (n : json.Num) → b ≡ is_in z → of_integer z ≡ n → IfOk (if b then Ok z else Err OverRange) (λ y. (of_integer y ≡ n) × (is_in y ≡ true))
in_either true z n is h = (h, sym is)
in_either false z n is h = tt

signed_back : (n : json.Num) → IfOk (whole (as_integer n)) (λ z. (of_integer z ≡ signed n) × (is_in z ≡ true))
signed_back (json.unsigned n) = in_either (is_in (pos n)) (pos n) (json.unsigned n) refl refl
signed_back (json.negative z) = in_either (is_in z) z (of_integer z) refl refl
signed_back (json.float x) = tt

some_if : (P : List ℕ → Type 0) (c : Bool) (b : List ℕ) → (c ≡ true → P b) → IfSome (if c then Some b else None) P
some_if P true b h = h refl
some_if P false b h = tt

then_some : {A : Type 0} (P : List ℕ → Type 0) (f : A → Option (List ℕ)) (o : Option A) → ((a : A) → IfSome (f a) P) → IfSome (option_and_then f o) P
then_some P f None h = tt
then_some P f (Some a) h = h a

abbrev IsTextOf : List ℕ → List ℕ → Type 0
IsTextOf s b = (are_bytes b ≡ true) × (encode_of standard b ≡ s)

encoded_if : (s b : List ℕ) → IfSome (if_encoded s b) (IsTextOf s)
encoded_if s b = some_if (IsTextOf s) (are_bytes b && is_eq (text_order (encode_of standard b) s)) b (λ h. (let hs = both (are_bytes b) (is_eq (text_order (encode_of standard b) s)) h in (hs.0, equal (encode_of standard b) s hs.1)))

bytes_kept : (s : List ℕ) → IfSome (bytes_in s) (IsTextOf (without_line_ends s))
bytes_kept s = then_some (IsTextOf (without_line_ends s)) (if_encoded (without_line_ends s)) (result_ok (decode_of standard (without_line_ends s))) (encoded_if (without_line_ends s))

abbrev ReadsLike : Result Plain JsonFault → json.Members → Type 0
ReadsLike r ms = IfOk r (λ p. IsLike p (json.object ms))

abbrev binary_with : List ℕ → json.Data
binary_with s = json.object (pair_of (json.string (codes "BINARY")) (json.string s))

binary_some : (o : Option (List ℕ)) (s : List ℕ) → IfSome o (IsTextOf s) → IfOk (or_reserved (option_map binary o)) (λ p. IsLike p (binary_with s))
binary_some None s h = tt
binary_some (Some b) s h = record { form = ap binary_with h.1; ranges = h.0; shows = refl }

binary_like : (e : json.Data) → ReadsLike (binary_in (pair_of (json.string (codes "BINARY")) e)) (parts (pair_of (json.string (codes "BINARY")) e))
binary_like json.null = tt
binary_like (json.boolean b) = tt
binary_like (json.number n) = tt
binary_like (json.string s) = binary_some (bytes_in s) (without_line_ends s) (bytes_kept s)
binary_like (json.array ds) = tt
binary_like (json.object ms) = tt

abbrev time_with : json.Num → List ℕ → json.Data
time_with n s = json.object (triple_of (json.string (codes "TIME")) (json.number n) (json.string s))

zone_some : (n : json.Num) (at : ℤ) (s : List ℕ) (o : Option ℤ) → (of_integer at ≡ signed n) × (is_in at ≡ true) → zone_in s ≡ o → IfSome o (λ z. is_zone z ≡ true)
    → IfOk (or_reserved (option_map (λ zone. time (at, zone)) o)) (λ p. IsLike p (time_with (signed n) (zone_spelled s)))
zone_some n at s None h is k = tt
zone_some n at s (Some z) h is k = record { form = rw (h.0, is) refl; ranges = rw (h.1, k) refl; shows = refl }

zone_like : (n : json.Num) (at : ℤ) (f : json.Data) → (of_integer at ≡ signed n) × (is_in at ≡ true)
    → ReadsLike (or_reserved (option_map (λ zone. time (at, zone)) (option_and_then zone_in (as_str f)))) (parts (triple_of (json.string (codes "TIME")) (json.number n) f))
zone_like n at json.null h = tt
zone_like n at (json.boolean b) h = tt
zone_like n at (json.number m) h = tt
zone_like n at (json.string s) h = zone_some n at s (zone_in s) h refl (zone_kept s)
zone_like n at (json.array ds) h = tt
zone_like n at (json.object ms) h = tt

time_like : (e f : json.Data) → ReadsLike (time_in (triple_of (json.string (codes "TIME")) e f)) (parts (triple_of (json.string (codes "TIME")) e f))
time_like json.null f = tt
time_like (json.boolean b) f = tt
time_like (json.number n) f = on_bind (λ z. (of_integer z ≡ signed n) × (is_in z ≡ true)) (λ p. IsLike p (json.object (parts (triple_of (json.string (codes "TIME")) (json.number n) f)))) _ (whole (as_integer n)) (signed_back n) (λ at h. zone_like n at f h)
time_like (json.string s) f = tt
time_like (json.array ds) f = tt
time_like (json.object ms) f = tt

binary_at : (ms : json.Members) (d e : json.Data) → ms ≡ pair_of d e → is_text (codes "BINARY") (text_at reserved ms) ≡ true → ReadsLike (binary_in ms) (parts ms)
binary_at ms d e is h =
    let kind : d ≡ json.string (codes "BINARY") = text_is (codes "BINARY") d (rw is at h) in
    subst (λ x. ReadsLike (binary_in x) (parts x)) (sym (is ∙ ap (λ k. pair_of k e) kind)) (binary_like e)

time_at : (ms : json.Members) (d e f : json.Data) → ms ≡ triple_of d e f → is_text (codes "TIME") (text_at reserved ms) ≡ true → ReadsLike (time_in ms) (parts ms)
time_at ms d e f is h =
    let kind : d ≡ json.string (codes "TIME") = text_is (codes "TIME") d (rw is at h) in
    subst (λ x. ReadsLike (time_in x) (parts x)) (sym (is ∙ ap (λ k. triple_of k e f) kind)) (time_like e f)

binary_case : (ms : json.Members) → has_form (codes "BINARY") binary_names ms ≡ true → ReadsLike (binary_in ms) (parts ms)
binary_case ms h =
    let hs = both (has_names binary_names ms) (is_text (codes "BINARY") (text_at reserved ms)) h in
    let n = two_named ms hs.0 in
    binary_at ms n.0 n.1 n.2 hs.1

time_case : (ms : json.Members) → has_form (codes "TIME") time_names ms ≡ true → ReadsLike (time_in ms) (parts ms)
time_case ms h =
    let hs = both (has_names time_names ms) (is_text (codes "TIME") (text_at reserved ms)) h in
    let n = three_named ms hs.0 in
    time_at ms n.0 n.1 n.2 n.3 hs.1

of_two : (b c : Bool) (x y : Result Plain JsonFault) (ms : json.Members) → (b ≡ true → ReadsLike x ms) → (c ≡ true → ReadsLike y ms) → ReadsLike (if b then x else (if c then y else Err Reserved)) ms
of_two true c x y ms f g = f refl
of_two false true x y ms f g = g refl
of_two false false x y ms f g = tt

literal_like : (ms : json.Members) → ReadsLike (literal ms) (parts ms)
literal_like ms = of_two (has_form (codes "BINARY") binary_names ms) (has_form (codes "TIME") time_names ms) (binary_in ms) (time_in ms) (parts ms) (binary_case ms) (time_case ms)

either_like : (b : Bool) (x y : Result Plain JsonFault) (ms ns : json.Members) → ReadsLike x ms → (b ≡ false → ReadsLike y ns) → ReadsLike (if b then x else y) (if b then ms else ns)
either_like true x y ms ns h g = h
either_like false x y ms ns h g = g refl

abbrev AreLike : List Plain → json.Items → Type 0
AreLike vs ds = (items_shown (items_of vs) ≡ ds) × (all_in_range (items_of vs) ≡ true) × (are_storable (items_of vs) ≡ true)

abbrev MembersLike : List (List ℕ × Plain) → json.Members → json.Members → Type 0
MembersLike ns ms source =
    (members_shown (pairs_of ns) ≡ ms) × (pairs_in_range (pairs_of ns) ≡ true) × (are_members_storable (pairs_of ns) ≡ true)
    × (is_literal (pairs_of ns) ≡ is_some (get_member reserved source))

mutual
  like : (d : json.Data) → IfOk (document d) (λ p. IsLike p (normal d))
  like json.null = record { form = refl; ranges = refl; shows = refl }
  like (json.boolean b) = record { form = refl; ranges = refl; shows = refl }
  like (json.number n) = on_bind (λ z. (of_integer z ≡ signed n) × (is_in z ≡ true)) (λ p. IsLike p (normal (json.number n))) _ (whole (as_integer n)) (signed_back n) (λ z h. record { form = ap json.number h.0; ranges = h.1; shows = refl })
  like (json.string s) = record { form = refl; ranges = refl; shows = refl }
  like (json.array ds) = on_bind (λ vs. AreLike vs (normal_items ds)) (λ p. IsLike p (normal (json.array ds))) _ (documents ds) (all_like ds) (λ vs h. record { form = ap json.array h.0; ranges = h.1; shows = h.2 })
  like (json.object ms) = either_like (is_some (get_member reserved ms)) (literal ms) (members ms >>= λ ns. Ok (object (pairs_of ns))) (parts ms) (normal_members ms) (literal_like ms)
      (λ free. on_bind (λ ns. MembersLike ns (normal_members ms) ms) (λ p. IsLike p (json.object (normal_members ms))) _ (members ms) (members_like ms)
      (λ ns h. record { form = ap json.object h.0; ranges = h.1; shows = rw (h.3, free, h.2) refl }))

  all_like : (ds : json.Items) → IfOk (documents ds) (λ vs. AreLike vs (normal_items ds))
  all_like json.no_items = (refl, refl, refl)
  all_like (json.item d ds) =
      let goal = λ (vs : List Plain). AreLike vs (normal_items (json.item d ds)) in
      on_bind (λ v. IsLike v (normal d)) goal _ (document d) (like d)
      (λ v h. on_bind (λ vs. AreLike vs (normal_items ds)) goal _ (documents ds) (all_like ds)
      (λ vs g. (rw (h.form, g.0) refl, rw (h.ranges, g.1) refl, rw (h.shows, g.2) refl)))

  members_like : (ms : json.Members) → IfOk (members ms) (λ ns. MembersLike ns (normal_members ms) ms)
  members_like json.no_members = (refl, refl, refl, refl)
  members_like (json.member k d ms) =
      let goal = λ (ns : List (List ℕ × Plain)). MembersLike ns (normal_members (json.member k d ms)) (json.member k d ms) in
      on_bind (λ v. IsLike v (normal d)) goal _ (document d) (like d)
      (λ v h. on_bind (λ ns. MembersLike ns (normal_members ms) ms) goal _ (members ms) (members_like ms)
      (λ ns g. (
        rw (h.form, g.0) refl,
        rw (h.ranges, g.1) refl,
        rw (h.shows, g.2) refl,
        named_if (text_order reserved k) v d (find reserved (plain.members (pairs_of ns))) (get_member reserved ms) g.3,
      )))

pub shows_back : ShowsBack
shows_back d p is =
    let l = ok_has (λ q. IsLike q (normal d)) (document d) p (like d) is in
    rw (l.shows, l.form) refl

pub keeps_reading : KeepsReading
keeps_reading d p is =
    let l = ok_has (λ q. IsLike q (normal d)) (document d) p (like d) is in
    (l.ranges, l.shows)
