-- The shape of lists and objects after an edit.
use Rattle.std.proofs.Common.{◌≡◌, ℕ, ◌<◌, ◌≤◌, ◌⊎◌, inl, inr, List, [], ◌∷◌, ◌++◌, Bool, true, false, ◌&&◌, not, cond, is_some, max, map, drop, length, get_or, ◌+◌, Option, Some, None, Ordering, Less, Equal, Greater, is_eq, refl, sym, ap, ◌∙◌, arith}
use Rattle.std.specs.Ordering.{match_ordering}
use Rattle.reql_datum.specs.Kinds.{reserved, is_storable, are_members_storable, is_literal}
use Rattle.reql_datum.specs.Members.{AreRising, text_order, find, put, without}
use Rattle.reql_datum.specs.Plain.{Plain, depth, items_depth, pairs_depth, items_of, pairs_of, members}
use Rattle.reql_datum.specs.Shapes.{told, shape_of, items_shape, members_shape, member_shape, flat, beside, IsLeft, FieldsHold}
use Rattle.std.proofs.lemmas.Option.{slice_get_read}
use Rattle.reql_datum.specs.View.{plain, member}
use Rattle.reql_datum.proofs.Walks.{rest_at}
use Rattle.reql_datum.specs.declared.datum.Field.{Field}
use Rattle.reql_datum.specs.declared.datum.Datum.{Datum}
use Rattle.reql_datum.specs.declared.shape.Shape.{Shape}
use Rattle.reql_datum.proofs.Members.{find_gap, without_gap, rising_rest}
use Rattle.reql_datum.proofs.Finds.{equal_texts}
use Rattle.reql_memory.proofs.Sorted.{some_inside}

same : (s t : Shape) → s.depth ≡ t.depth → s.storable ≡ t.storable → s ≡ t
same s t e f i = record { depth = e i; storable = f i }

and_swap : (a b : Bool) → (a && b) ≡ (b && a)
and_swap true true = refl
and_swap true false = refl
and_swap false true = refl
and_swap false false = refl

and_over : (a b c : Bool) → ((a && b) && c) ≡ (a && (b && c))
and_over true b c = refl
and_over false b c = refl

pub beside_swap : (s t : Shape) → beside s t ≡ beside t s
beside_swap s t = same (beside s t) (beside t s) (omega arith) (and_swap s.storable t.storable)

pub beside_over : (s t r : Shape) → beside (beside s t) r ≡ beside s (beside t r)
beside_over s t r = same (beside (beside s t) r) (beside s (beside t r)) (omega arith) (and_over s.storable t.storable r.storable)

pub beside_flat : (s : Shape) → beside s flat ≡ s
beside_flat s = same (beside s flat) s (omega arith) (and_swap s.storable true)

told_max : (m n : ℕ) → told (max m n) ≡ max (told m) (told n)
told_max m n = omega arith

pub items_shape_cons : (v : Plain) (vs : List Plain) → items_shape (v ∷ vs) ≡ beside (shape_of v) (items_shape vs)
items_shape_cons v vs = same (items_shape (v ∷ vs)) (beside (shape_of v) (items_shape vs)) (told_max (depth v) (items_depth (items_of vs))) refl

-- an item more at the end
pub items_shape_more : (vs : List Plain) (v : Plain) → items_shape (vs ++ v ∷ []) ≡ beside (items_shape vs) (shape_of v)
items_shape_more [] v = items_shape_cons v [] ∙ beside_swap (shape_of v) flat
items_shape_more (u ∷ us) v =
    items_shape_cons u (us ++ v ∷ [])
    ∙ ap (beside (shape_of u)) (items_shape_more us v)
    ∙ sym (beside_over (shape_of u) (items_shape us) (shape_of v))
    ∙ ap (λ s. beside s (shape_of v)) (sym (items_shape_cons u us))

storable_cons : (here : Bool) (v : Plain) (ok lit rest : Bool) (o : Option Plain) → is_some o ≡ lit
    → (not (is_some (cond here (Some v) o)) && (ok && rest)) ≡ ((not here && ok) && (not lit && rest))
storable_cons true v ok lit rest o e = refl
storable_cons false v true lit rest o e = rw e refl
storable_cons false v false lit rest o e = and_swap (not (is_some o)) false

pub members_shape_cons : (k : List ℕ) (v : Plain) (ms : List (List ℕ × Plain)) → members_shape ((k, v) ∷ ms) ≡ beside (member_shape k v) (members_shape ms)
members_shape_cons k v ms =
    same (members_shape ((k, v) ∷ ms)) (beside (member_shape k v) (members_shape ms)) (told_max (depth v) (pairs_depth (pairs_of ms)))
    (storable_cons (is_eq (text_order reserved k)) v (is_storable v) (is_literal (pairs_of ms)) (are_members_storable (pairs_of ms)) (find reserved (members (pairs_of ms))) refl)

-- a member moves past another
past : (s t r u : Shape) → u ≡ beside s r → beside t u ≡ beside s (beside t r)
past s t r u e =
    ap (beside t) e ∙ sym (beside_over t s r) ∙ ap (λ x. beside x r) (beside_swap t s) ∙ beside_over s t r

put_at : (o : Ordering) (m : List ℕ × Plain) (ms : List (List ℕ × Plain)) (k : List ℕ) (v : Plain) → text_order k m.0 ≡ o → AreRising (m ∷ ms)
    → members_shape (put k v ms) ≡ beside (member_shape k v) (members_shape (without k ms))
    → members_shape (match_ordering o ((k, v) ∷ m ∷ ms) ((m.0, v) ∷ ms) (m ∷ put k v ms)) ≡ beside (member_shape k v) (members_shape (cond (is_eq o) ms (m ∷ without k ms)))
put_at Less m ms k v is up later =
    let none : find k ms ≡ None = rw is at (find_gap (m ∷ ms) k 0 up is) in
    members_shape_cons k v (m ∷ ms) ∙ ap (λ t. beside (member_shape k v) (members_shape (m ∷ t))) (sym (without_gap ms k none))
put_at Equal m ms k v is up later =
    members_shape_cons m.0 v ms ∙ ap (λ q. beside (member_shape q v) (members_shape ms)) (sym (equal_texts k m.0 is))
put_at Greater m ms k v is up later =
    members_shape_cons m.0 m.1 (put k v ms)
    ∙ past (member_shape k v) (member_shape m.0 m.1) (members_shape (without k ms)) (members_shape (put k v ms)) later
    ∙ ap (beside (member_shape k v)) (sym (members_shape_cons m.0 m.1 (without k ms)))

-- what was put stands beside what else is there
pub put_shape : (k : List ℕ) (v : Plain) (ms : List (List ℕ × Plain)) → AreRising ms → members_shape (put k v ms) ≡ beside (member_shape k v) (members_shape (without k ms))
put_shape k v [] up = members_shape_cons k v []
put_shape k v (m ∷ ms) up = put_at (text_order k m.0) m ms k v refl up (put_shape k v ms (rising_rest m ms up))

found_at : (o : Ordering) (m : List ℕ × Plain) (ms : List (List ℕ × Plain)) (k : List ℕ) (u : Plain) → text_order k m.0 ≡ o → cond (is_eq o) (Some m.1) (find k ms) ≡ Some u
    → (find k ms ≡ Some u → members_shape ms ≡ beside (member_shape k u) (members_shape (without k ms)))
    → members_shape (m ∷ ms) ≡ beside (member_shape k u) (members_shape (cond (is_eq o) ms (m ∷ without k ms)))
found_at Less m ms k u is h later =
    members_shape_cons m.0 m.1 ms
    ∙ past (member_shape k u) (member_shape m.0 m.1) (members_shape (without k ms)) (members_shape ms) (later h)
    ∙ ap (beside (member_shape k u)) (sym (members_shape_cons m.0 m.1 (without k ms)))
found_at Equal m ms k u is h later =
    let e : k ≡ m.0 = equal_texts k m.0 is in
    let f : m.1 ≡ u = some_inside m.1 u h in
    members_shape_cons m.0 m.1 ms ∙ (λ i. beside (member_shape (sym e i) (f i)) (members_shape ms))
found_at Greater m ms k u is h later =
    members_shape_cons m.0 m.1 ms
    ∙ past (member_shape k u) (member_shape m.0 m.1) (members_shape (without k ms)) (members_shape ms) (later h)
    ∙ ap (beside (member_shape k u)) (sym (members_shape_cons m.0 m.1 (without k ms)))

-- what is found stands beside what else is there
pub found_shape : (k : List ℕ) (u : Plain) (ms : List (List ℕ × Plain)) → find k ms ≡ Some u → members_shape ms ≡ beside (member_shape k u) (members_shape (without k ms))
found_shape k u [] h = cc
found_shape k u (m ∷ ms) h = found_at (text_order k m.0) m ms k u refl h (found_shape k u ms)

-- a name that was not there
pub new_shape : (k : List ℕ) (v : Plain) (ms : List (List ℕ × Plain)) → AreRising ms → find k ms ≡ None → members_shape (put k v ms) ≡ beside (members_shape ms) (member_shape k v)
new_shape k v ms up none =
    put_shape k v ms up ∙ ap (λ t. beside (member_shape k v) (members_shape t)) (without_gap ms k none) ∙ beside_swap (member_shape k v) (members_shape ms)

second : (a b : Bool) → (a && b) ≡ true → b ≡ true
second true b h = h
second false b h = cc

pub found_left : (k : List ℕ) (u : Plain) (ms : List (List ℕ × Plain)) → find k ms ≡ Some u → IsLeft (members_shape ms) (told (depth u)) (members_shape (without k ms))
found_left k u ms h =
    let e = found_shape k u ms h in
    record {
      deep = ap (λ (s : Shape). s.depth) e;
      kept = λ all. second (member_shape k u).storable (members_shape (without k ms)).storable (sym (ap (λ (s : Shape). s.storable) e) ∙ all);
    }

deepest : (shape old new rest : ℕ) → shape ≡ max old rest → (old ≤ new) ⊎ (old < shape) → max shape new ≡ max new rest
deepest shape old new rest e (inl h) = omega arith
deepest shape old new rest e (inr h) = omega arith

all_kept : (a b c : Bool) → a ≡ true → (a ≡ true → c ≡ true) → (a && b) ≡ (b && c)
all_kept a b c h f = rw (h, f h) (and_swap true b)

-- where the old member made no difference
pub not_felt : (shape : Shape) (old : ℕ) (new rest : Shape) → IsLeft shape old rest → shape.storable ≡ true → (old ≤ new.depth) ⊎ (old < shape.depth) → beside shape new ≡ beside new rest
not_felt shape old new rest left all h =
    same (beside shape new) (beside new rest) (deepest shape.depth old new.depth rest.depth left.deep h) (all_kept shape.storable new.storable rest.storable all left.kept)

plain_more : (ds : List Datum) (d : Datum) → map plain (ds ++ d ∷ []) ≡ map plain ds ++ plain d ∷ []
plain_more [] d = refl
plain_more (e ∷ es) d = ap (λ t. plain e ∷ t) (plain_more es d)

pub pushed_shape : (ds : List Datum) (d : Datum) → items_shape (map plain (ds ++ d ∷ [])) ≡ beside (items_shape (map plain ds)) (shape_of (plain d))
pushed_shape ds d = ap items_shape (plain_more ds d) ∙ items_shape_more (map plain ds) (plain d)

-- what the fields of an object keep through an edit
pub holds_new : (s t : Shape) (k : List ℕ) (v : Plain) (ms now : List (List ℕ × Plain)) → FieldsHold s ms → now ≡ put k v ms → AreRising now → None ≡ find k ms → t ≡ beside s (member_shape k v) → FieldsHold t now
holds_new s t k v ms now held is up none e =
    record { rising = up; shaped = e ∙ ap (λ r. beside r (member_shape k v)) held.shaped ∙ sym (new_shape k v ms held.rising (sym none)) ∙ ap members_shape (sym is) }

abbrev pub Settles : Shape → ℕ → Shape → List (List ℕ × Plain) → Shape → Type 0
Settles s old new now t = (rest : Shape) → IsLeft s old rest → members_shape now ≡ beside new rest → t ≡ beside new rest

settled : (s old new t : Shape) (k : List ℕ) (u : Plain) (ms now : List (List ℕ × Plain)) → FieldsHold s ms → AreRising now → Some u ≡ find k ms → old ≡ shape_of u → Settles s old.depth new now t
    → members_shape now ≡ beside new (members_shape (without k ms)) → FieldsHold t now
settled s old new t k u ms now held up found is after e =
    let left : IsLeft s old.depth (members_shape (without k ms)) = rw (held.shaped, is) (found_left k u ms (sym found)) in
    record { rising = up; shaped = after (members_shape (without k ms)) left e ∙ sym e }

pub holds_put : (s old new t : Shape) (k : List ℕ) (u v : Plain) (ms now : List (List ℕ × Plain)) → FieldsHold s ms → now ≡ put k v ms → AreRising now → Some u ≡ find k ms → old ≡ shape_of u → new ≡ member_shape k v
    → Settles s old.depth new now t → FieldsHold t now
holds_put s old new t k u v ms now held is up found old_is new_is after =
    settled s old new t k u ms now held up found old_is after (ap members_shape is ∙ put_shape k v ms held.rising ∙ ap (λ r. beside r (members_shape (without k ms))) (sym new_is))

pub holds_without : (s old t : Shape) (k : List ℕ) (u : Plain) (ms now : List (List ℕ × Plain)) → FieldsHold s ms → now ≡ without k ms → AreRising now → Some u ≡ find k ms → old ≡ shape_of u
    → Settles s old.depth flat now t → FieldsHold t now
holds_without s old t k u ms now held is up found old_is after =
    settled s old flat t k u ms now held up found old_is after (ap members_shape is ∙ sym (beside_swap flat (members_shape (without k ms)) ∙ beside_flat (members_shape (without k ms))))

-- one member more of a look at all
pub looked : (fields : List Field) (i : ℕ) (f : Field) (s : Shape) (all : Shape) → i < length fields → f ≡ get_or fields i f → beside s (members_shape (map member (drop i fields))) ≡ all
    → beside (beside s (member_shape f.name (plain f.value))) (members_shape (map member (drop (i + 1) fields))) ≡ all
looked fields i f s all lt is e =
    let rest = rest_at fields i f (slice_get_read fields (length fields) i f refl lt is) in
    let now : beside s (members_shape (map member (f ∷ drop (i + 1) fields))) ≡ all = rw rest at e in
    beside_over s (member_shape f.name (plain f.value)) (members_shape (map member (drop (i + 1) fields)))
    ∙ ap (beside s) (sym (members_shape_cons f.name (plain f.value) (map member (drop (i + 1) fields))))
    ∙ now
