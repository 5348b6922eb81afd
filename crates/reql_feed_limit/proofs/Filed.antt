-- The entries of an order, and their first so many between bounds, as they lie in a tree.
use Rattle.std.proofs.Common.{◌≡◌, ℕ, zero, suc, List, [], ◌∷◌, ◌++◌, map, take, reverse, Bool, true, false, ◌&&◌, cond, if◌then◌else◌, Option, Some, None, is_some, Ok, Err, Ordering, Less, Equal, Greater, is_eq, refl, sym, ap, ◌∙◌, subst}
use Rattle.std.specs.List.{filter, flat_map}
use Rattle.std.specs.Ordering.{is_lt, is_le, ordering_reverse, ordering_then, match_ordering}
use Rattle.std.proofs.lemmas.List.{map-append}
use Rattle.reql_memory.specs.Sorted.{AreRisingBy, find_by, put_by}
use Rattle.reql_memory.proofs.Sorted.{not_later, rising_rest}
use Rattle.reql_datum.specs.Answer.{Answer}
use Rattle.reql_datum.specs.Keys.{is_key}
use Rattle.reql_datum.specs.Order.{order}
use Rattle.reql_datum.specs.Plain.{Plain, low, array, boolean, null, number, object, binary, time, text, high}
use Rattle.reql_datum.specs.Total.{order_total}
use Rattle.reql_rules.specs.Sorting.{into_place, sorted}
use Rattle.reql_term.specs.Views.{Document, Entry, Index, entry_order, is_above, is_below, primary, directed}
use Rattle.reql_value_spec.specs.Index.{entries, entries_of_answer, index_value, document_entries, index_list}
use Rattle.reql_feed_spec.specs.Watched.{Part, whole, between, lies_in}
use Rattle.reql_table.specs.Keys.{key_of, pair_of, pairs_of, entry_in, before as before_all, after as after_every}
use Rattle.reql_feed_limit.specs.Bounds.{before, in_bounds}
use Rattle.reql_feed_limit.specs.Feed.{limit_by}
use Rattle.reql_feed_limit.specs.Order.{Order, IsSingle, pairs_in, entries_in, bounds_at, selected_in, first_in, entry_pair, spot_of}
use Rattle.reql_feed_limit.specs.Selection as sel
use Rattle.reql_feed_limit.specs.Selection.{Element}
use Rattle.reql_feed_limit.proofs.Edits.{reverse_cons}
use Rattle.reql_feed_limit.proofs.Indexed.{keyed_spot, absent, primary_is}
use Rattle.reql_feed_limit.proofs.Looks.{filter_same}

-- ---- keys of entries stand as entries do
then_none : (o : Ordering) → ordering_then o Equal ≡ o
then_none Less = refl
then_none Equal = refl
then_none Greater = refl

pub key_order : (e f : Entry) → order (key_of e) (key_of f) ≡ entry_order e f
key_order e f = ap (ordering_then (order e.0 f.0)) (then_none (order e.1.0 f.1.0))

-- ---- an index that is no multi index has one entry of a document at most
abbrev IsFew : List Plain → Type 0
IsFew [] = Unit {0}
IsFew (v ∷ []) = Unit {0}
IsFew (v ∷ w ∷ vs) = ⊥

few_if : (b : Bool) (d : Plain) → IsFew (if b then d ∷ [] else [])
few_if true d = tt
few_if false d = tt

few_answer : (a : Answer Plain) → IsFew (entries_of_answer false a)
few_answer (Ok d) = few_if (is_key d) d
few_answer (Err e) = tt

few_entries : (i : Index) → i.1 ≡ false → (d : Plain) → IsFew (entries i d)
few_entries i off d = subst (λ b. IsFew (entries_of_answer b (index_value i.0 d))) (sym off) (few_answer (index_value i.0 d))

-- ---- its list, as its tree has it
lost : (b : Bool) (x : Plain) (f : Option Plain) → cond b (Some x) f ≡ None → (b ≡ false) × (f ≡ None)
lost true x f h = cc
lost false x f h = (refl, h)

below_is : (o : Ordering) (e y : Entry) → order (key_of e) (key_of y) ≡ o → is_lt (entry_order y e) ≡ is_lt (ordering_reverse o)
below_is o e y is = ap is_lt (sym (key_order y e)) ∙ ap is_lt (order_total.antisymm (key_of y) (key_of e)) ∙ ap (λ p. is_lt (ordering_reverse p)) is

into_at : (o : Ordering) (e y : Entry) (ys rest : List Entry) (ps : List Element) → order (key_of e) (key_of y) ≡ o → is_eq o ≡ false → pairs_of rest ≡ ps
    → pairs_of (if is_lt (entry_order y e) then y ∷ rest else e ∷ y ∷ ys) ≡ match_ordering o (pair_of e ∷ pair_of y ∷ pairs_of ys) ((key_of y, e.1.1) ∷ pairs_of ys) (pair_of y ∷ ps)
into_at Less e y ys rest ps is apart on = rw (below_is Less e y is) refl
into_at Equal e y ys rest ps is apart on = cc
into_at Greater e y ys rest ps is apart on = rw (below_is Greater e y is) (ap (λ t. pair_of y ∷ t) on)

into_pairs : (e : Entry) (ys : List Entry) → find_by order (key_of e) (pairs_of ys) ≡ None → pairs_of (into_place entry_order e ys) ≡ put_by order (key_of e) e.1.1 (pairs_of ys)
into_pairs e [] none = refl
into_pairs e (y ∷ ys) none =
    let parts = lost (is_eq (order (key_of e) (key_of y))) y.1.1 (find_by order (key_of e) (pairs_of ys)) none in
    into_at (order (key_of e) (key_of y)) e y ys (into_place entry_order e ys) (put_by order (key_of e) e.1.1 (pairs_of ys)) refl parts.0 (into_pairs e ys parts.1)

one_filed : (m : Document) (vs : List Plain) → IsFew vs → (ys : List Entry) (zs : List Element) → pairs_of (sorted entry_order ys) ≡ zs → ((p : Plain) → entry_pair m.0 vs ≡ Some p → find_by order p zs ≡ None)
    → pairs_of (sorted entry_order (map (λ v. (v, m)) vs ++ ys)) ≡ sel.entered (entry_pair m.0 vs) m.1 zs
one_filed m [] few ys zs is none = is
one_filed m (v ∷ []) few ys zs is none =
    into_pairs (v, m) (sorted entry_order ys) (ap (find_by order (key_of (v, m))) is ∙ none (key_of (v, m)) refl) ∙ ap (put_by order (key_of (v, m)) m.1) is
one_filed m (v ∷ w ∷ vs) few ys zs is none = absurd few

pub filed_list : (i : Index) → i.1 ≡ false → (docs : List Document) → AreRisingBy order docs → pairs_of (index_list docs i) ≡ sel.index_list (spot_of (Some i)) docs
filed_list i off [] up = refl
filed_list i off (m ∷ ms) up =
    one_filed m (entries i m.1) (few_entries i off m.1) (flat_map (document_entries i) ms) (sel.index_list (spot_of (Some i)) ms) (filed_list i off ms (rising_rest order order_total m ms up))
    (λ p is. absent (spot_of (Some i)) (keyed_spot (Some i)) m.0 m.1 p is ms (not_later order order_total m.0 m.1 ms up))

-- ---- lists of the images of elements
module _ {X Y : Type 0} (f : X → Y) where
  filter_at : (b : Bool) (x : X) (xs : List X) (ys : List Y) → ys ≡ map f xs → cond b (f x ∷ ys) ys ≡ map f (cond b (x ∷ xs) xs)
  filter_at true x xs ys is = ap (λ t. f x ∷ t) is
  filter_at false x xs ys is = is

  pub filter_map : (p : Y → Bool) (xs : List X) → filter p (map f xs) ≡ map f (filter (λ x. p (f x)) xs)
  filter_map p [] = refl
  filter_map p (x ∷ xs) = filter_at (p (f x)) x (filter (λ x. p (f x)) xs) (filter p (map f xs)) (filter_map p xs)

  pub take_map : (n : ℕ) (xs : List X) → take n (map f xs) ≡ map f (take n xs)
  take_map zero xs = refl
  take_map (suc n) [] = refl
  take_map (suc n) (x ∷ xs) = ap (λ t. f x ∷ t) (take_map n xs)

  pub turned_map : (d : Bool) (xs : List X) → sel.turned d (map f xs) ≡ map f (sel.turned d xs)
  turned_map false xs = refl
  turned_map true [] = refl
  turned_map true (x ∷ xs) = reverse_cons (f x) (map f xs) ∙ ap (λ t. t ++ f x ∷ []) (turned_map true xs) ∙ sym (map-append f (reverse xs) (x ∷ [])) ∙ ap (map f) (sym (reverse_cons x xs))

turned_is : (d : Bool) (es : List Entry) → directed d es ≡ sel.turned d es
turned_is false es = refl
turned_is true es = refl

-- ---- between the bounds
least : (k : Plain) → (is_le (order low k) && is_le (order k high)) ≡ true
least low = refl
least (array vs) = refl
least (boolean b) = refl
least null = refl
least (number n) = refl
least (object ms) = refl
least (binary s) = refl
least (time t) = refl
least (text s) = refl
least high = refl

above_is : (is_open : Bool) (v k : Plain) → before is_open v k ≡ is_above is_open v k
above_is true v k = refl
above_is false v k = refl

under_is : (is_open : Bool) (k v : Plain) → before is_open k v ≡ is_below is_open v k
under_is true k v = refl
under_is false k v = refl

own_within : (part : Part) (m : Document) → in_bounds (bounds_at false part) m.0 ≡ lies_in part (m.0, m)
own_within whole m = least m.0
own_within (between l lo h ho) m = λ j. above_is lo l m.0 j && under_is ho m.0 h j

le_less : (o : Ordering) → is_le (ordering_then o Less) ≡ is_le o
le_less Less = refl
le_less Equal = refl
le_less Greater = refl

le_greater : (o : Ordering) → is_le (ordering_then o Greater) ≡ is_lt o
le_greater Less = refl
le_greater Equal = refl
le_greater Greater = refl

-- nothing is above the highest
last_is : (k : Plain) → ordering_then (order high k) Greater ≡ Greater
last_is low = refl
last_is (array vs) = refl
last_is (boolean b) = refl
last_is null = refl
last_is (number n) = refl
last_is (object ms) = refl
last_is (binary s) = refl
last_is (time t) = refl
last_is (text s) = refl
last_is high = refl

first_is : (k : Plain) → ordering_then (order k high) Less ≡ Less
first_is low = refl
first_is (array vs) = refl
first_is (boolean b) = refl
first_is null = refl
first_is (number n) = refl
first_is (object ms) = refl
first_is (binary s) = refl
first_is (time t) = refl
first_is (text s) = refl
first_is high = refl

after_is : (v : Plain) (e : Entry) → order (after_every v) (key_of e) ≡ ordering_then (order v e.0) Greater
after_is v e = ap (ordering_then (order v e.0)) (last_is e.1.0)

till_is : (e : Entry) (v : Plain) → order (key_of e) (after_every v) ≡ ordering_then (order e.0 v) Less
till_is e v = ap (ordering_then (order e.0 v)) (first_is e.1.0)

starts : (is_open : Bool) (v : Plain) (e : Entry) → is_le (order (if is_open then after_every v else before_all v) (key_of e)) ≡ is_above is_open v e.0
starts true v e = ap is_le (after_is v e) ∙ le_greater (order v e.0)
starts false v e = le_less (order v e.0)

ends : (is_open : Bool) (e : Entry) (v : Plain) → is_le (order (key_of e) (if is_open then before_all v else after_every v)) ≡ is_below is_open v e.0
ends true e v = le_greater (order e.0 v)
ends false e v = ap is_le (till_is e v) ∙ le_less (order e.0 v)

filed_within : (part : Part) (e : Entry) → in_bounds (bounds_at true part) (key_of e) ≡ lies_in part e
filed_within whole e = refl
filed_within (between l lo h ho) e = λ j. starts lo l e j && ends ho e h j

-- ---- the first of an order, in pairs
abbrev own : Document → Entry
own m = (m.0, m)

own_back : (ms : List Document) → map (λ (e : Entry). e.1) (map own ms) ≡ ms
own_back [] = refl
own_back (m ∷ ms) = ap (λ t. m ∷ t) (own_back ms)

-- those of the primary order, told by documents
first_own : (part : Part) (down : Bool) (most : ℕ) (docs : List Document)
    → take most (selected_in None (lies_in part) down docs) ≡ map own (take most (sel.turned down (filter (λ m. in_bounds (bounds_at false part) m.0) docs)))
first_own part down most docs =
    ap (take most) (
    turned_is down (filter (lies_in part) (primary docs))
    ∙ ap (sel.turned down) (filter_map own (lies_in part) docs ∙ ap (map own) (filter_same (λ m. lies_in part (own m)) (λ m. in_bounds (bounds_at false part) m.0) docs (λ m. sym (own_within part m))))
    ∙ turned_map own down (filter (λ m. in_bounds (bounds_at false part) m.0) docs))
    ∙ take_map own most (sel.turned down (filter (λ m. in_bounds (bounds_at false part) m.0) docs))

abbrev in_pairs : Option Index → Part → Bool → ℕ → List Document → List Element
in_pairs o part down most docs = take most (sel.turned down (filter (λ e. in_bounds (bounds_at (is_some o) part) e.0) (sel.index_list (spot_of o) docs)))

value_at : (o : Option Index) → IsSingle o → (part : Part) (down : Bool) (most : ℕ) (docs : List Document) → AreRisingBy order docs
    → in_pairs o part down most docs ≡ pairs_in (is_some o) (take most (selected_in o (lies_in part) down docs))
value_at None single part down most docs up =
    ap (λ t. take most (sel.turned down (filter (λ (e : Element). in_bounds (bounds_at false part) e.0) t))) (primary_is docs up)
    ∙ sym (own_back (take most (sel.turned down (filter (λ (m : Document). in_bounds (bounds_at false part) m.0) docs))))
    ∙ ap (map (λ (e : Entry). e.1)) (sym (first_own part down most docs))
value_at (Some i) off part down most docs up =
    ap (λ t. take most (sel.turned down (filter (λ (e : Element). in_bounds (bounds_at true part) e.0) t))) (sym (filed_list i off docs up))
    ∙ ap (λ t. take most (sel.turned down t)) (filter_map pair_of (λ (p : Element). in_bounds (bounds_at true part) p.0) (index_list docs i) ∙ ap pairs_of (filter_same (λ e. in_bounds (bounds_at true part) (key_of e)) (lies_in part) (index_list docs i) (filed_within part)))
    ∙ ap (take most) (turned_map pair_of down (filter (lies_in part) (index_list docs i)))
    ∙ take_map pair_of most (sel.turned down (filter (lies_in part) (index_list docs i)))
    ∙ ap (λ t. pairs_of (take most t)) (sym (turned_is down (filter (lies_in part) (index_list docs i))))

pub value_is : (o : Order) → IsSingle o.index → (docs : List Document) → AreRisingBy order docs → sel.value (limit_by o) docs ≡ pairs_in (is_some o.index) (first_in o docs)
value_is o single docs up = value_at o.index single o.part o.down o.most docs up

-- ---- and back
index_back : (es : List Entry) → map (entry_in true) (pairs_of es) ≡ es
index_back [] = refl
index_back (e ∷ es) = ap (λ t. e ∷ t) (index_back es)

back_at : (o : Option Index) (part : Part) (down : Bool) (most : ℕ) (docs : List Document)
    → entries_in (is_some o) (pairs_in (is_some o) (take most (selected_in o (lies_in part) down docs))) ≡ take most (selected_in o (lies_in part) down docs)
back_at None part down most docs =
    let zs : List Document = take most (sel.turned down (filter (λ (m : Document). in_bounds (bounds_at false part) m.0) docs)) in
    ap (λ t. map own (map (λ (e : Entry). e.1) t)) (first_own part down most docs) ∙ ap (map own) (own_back zs) ∙ sym (first_own part down most docs)
back_at (Some i) part down most docs = index_back (take most (selected_in (Some i) (lies_in part) down docs))

pub entries_back : (o : Order) (docs : List Document) → entries_in (is_some o.index) (pairs_in (is_some o.index) (first_in o docs)) ≡ first_in o docs
entries_back o docs = back_at o.index o.part o.down o.most docs
