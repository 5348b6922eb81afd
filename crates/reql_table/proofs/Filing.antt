-- What is found in the tree of an index, and that its edits make it the tree of the edited documents.
use Rattle.std.proofs.Common.{◌≡◌, List, [], ◌∷◌, ◌++◌, map, Bool, true, false, cond, if◌then◌else◌, Option, Some, None, Ordering, Less, Equal, Greater, is_eq, refl, sym, ap, ◌∙◌, subst, ◌⊎◌, inl, inr}
use Rattle.std.specs.List.{flat_map}
use Rattle.std.specs.List.Sorted.{IsStrictlySortedBy}
use Rattle.std.specs.Ordering.{is_lt, ordering_reverse}
use Rattle.std.proofs.lemmas.Cmp.{tied_itself}
use Rattle.std.proofs.lemmas.List.{map-append}
use Rattle.reql_memory.proofs.Sorted.{rising_put, rising_without, not_later}
use Rattle.reql_memory.proofs.Finds.{is_equal, find_put, find_without}
use Rattle.reql_memory.proofs.Same.{same_found}
use Rattle.reql_datum.proofs.Back.{listed_back}
use Rattle.reql_datum.proofs.Laws.{equal_is}
use Rattle.reql_datum.specs.Order.{order}
use Rattle.reql_datum.specs.Plain.{Plain, array, listed, items_of}
use Rattle.reql_datum.specs.Total.{order_total}
use Rattle.reql_ptree.specs.Pairs.{AreRising, find, put, without}
use Rattle.reql_rules.specs.Lists.{array_of}
use Rattle.reql_rules.specs.Sorting.{into_place, sorted}
use Rattle.reql_term.specs.Views.{Document, Entry, Index, entry_order}
use Rattle.reql_value_spec.specs.Index.{entries, document_entries, index_list}
use Rattle.reql_value_spec.proofs.IndexLists.{in_order}
use Rattle.reql_table.specs.Keys.{key_of, pair_of, pairs_of, primary_in}
use Rattle.reql_table.specs.Edits.{entry_key, taken, filed, all_filed, entries_if}
use Rattle.reql_table.proofs.Rising.{key_order, pairs_rise}

abbrev Pairs : Type 0
Pairs = List (Plain × Plain)

exact : (a b : Plain) → order a b ≡ Equal → a ≡ b
exact a b = (equal_is a b).0

alike : (a b : Plain) → is_eq (order a b) ≡ true → a ≡ b
alike a b h = exact a b (is_equal (order a b) h)

itself : (a : Plain) → is_eq (order a a) ≡ true
itself a = ap is_eq (tied_itself order_total a)

turned_eq : (o : Ordering) → is_eq (ordering_reverse o) ≡ is_eq o
turned_eq Less = refl
turned_eq Equal = refl
turned_eq Greater = refl

flipped : (a b : Plain) → is_eq (order a b) ≡ is_eq (order b a)
flipped a b = ap is_eq (order_total.antisymm a b) ∙ turned_eq (order b a)

-- ---- whether q is the key of an entry at one of the values, of the document at k
is_among : Plain → Plain → List Plain → Bool
is_among q k [] = false
is_among q k (v ∷ vs) = cond (is_eq (order q (entry_key k v))) true (is_among q k vs)

far_at : (b : Bool) (q k v : Plain) → b ≡ is_eq (order q (entry_key k v)) → is_eq (order (primary_in q) k) ≡ false → b ≡ false
far_at false q k v e far = refl
far_at true q k v e far =
    let same : q ≡ entry_key k v = alike q (entry_key k v) (sym e) in
    let key : primary_in q ≡ k = ap primary_in same in
    let near : is_eq (order (primary_in q) k) ≡ true = subst (λ x. is_eq (order x k) ≡ true) (sym key) (itself k) in
    absurd (let f : true ≡ false = sym near ∙ far in cc)

-- it is none where its primary key is another
far_from : (q k : Plain) (vs : List Plain) → is_eq (order (primary_in q) k) ≡ false → is_among q k vs ≡ false
unfolding is_among
far_from q k [] far = refl
far_from q k (v ∷ vs) far = ap (λ b. cond b true (is_among q k vs)) (far_at (is_eq (order q (entry_key k v))) q k v refl far) ∙ far_from q k vs far

either : {X : Type 0} (b c : Bool) (x : X) (y : X) → cond c x (cond b x y) ≡ cond (cond b true c) x y
either true true x y = refl
either true false x y = refl
either false c x y = refl

one_more : {X : Type 0} (b c : Bool) (x y : X) → cond b x (cond c x y) ≡ cond (cond b true c) x y
one_more true c x y = refl
one_more false c x y = refl

-- ---- what is found in a list of pairs
or_else : Option Plain → Option Plain → Option Plain
or_else None o = o
or_else (Some x) o = Some x

or_none : (o : Option Plain) → or_else o None ≡ o
unfolding or_else
or_none None = refl
or_none (Some x) = refl

join_at : (b : Bool) (x : Plain) (o p r : Option Plain) → r ≡ or_else o p → cond b (Some x) r ≡ or_else (cond b (Some x) o) p
unfolding or_else
join_at true x o p r e = refl
join_at false x o p r e = e

find_joined : (q : Plain) (xs ys : Pairs) → find q (xs ++ ys) ≡ or_else (find q xs) (find q ys)
unfolding or_else
find_joined q [] ys = refl
find_joined q (x ∷ xs) ys = join_at (is_eq (order q x.0)) x.1 (find q xs) (find q ys) (find q (xs ++ ys)) (find_joined q xs ys)

-- ---- the order of entries doesn't count
swapped : (a b : Bool) (x y z : Option Plain) → (a ≡ true → b ≡ true → ⊥) → cond b y (cond a x z) ≡ cond a x (cond b y z)
swapped true true x y z h = absurd (h refl refl)
swapped true false x y z h = refl
swapped false b x y z h = refl

apart : (q : Plain) (e y : Entry) → true ≡ is_lt (entry_order y e) → is_eq (order q (key_of e)) ≡ true → is_eq (order q (key_of y)) ≡ true → ⊥
apart q e y below here there =
    let same : key_of y ≡ key_of e = sym (alike q (key_of y) there) ∙ alike q (key_of e) here in
    let tied : order (key_of y) (key_of e) ≡ Equal = subst (λ x. order x (key_of e) ≡ Equal) (sym same) (tied_itself order_total (key_of e)) in
    let f : true ≡ false = below ∙ ap is_lt (sym (key_order y e) ∙ tied) in cc

into_at : (b : Bool) (q : Plain) (e y : Entry) (ys rest : List Entry) → b ≡ is_lt (entry_order y e) → find q (pairs_of rest) ≡ cond (is_eq (order q (key_of e))) (Some e.1.1) (find q (pairs_of ys))
    → find q (pairs_of (if b then y ∷ rest else e ∷ y ∷ ys)) ≡ cond (is_eq (order q (key_of e))) (Some e.1.1) (find q (pairs_of (y ∷ ys)))
into_at false q e y ys rest below later = refl
into_at true q e y ys rest below later =
    ap (cond (is_eq (order q (key_of y))) (Some y.1.1)) later
    ∙ swapped (is_eq (order q (key_of e))) (is_eq (order q (key_of y))) (Some e.1.1) (Some y.1.1) (find q (pairs_of ys)) (apart q e y below)

find_into : (q : Plain) (e : Entry) (ys : List Entry) → find q (pairs_of (into_place entry_order e ys)) ≡ cond (is_eq (order q (key_of e))) (Some e.1.1) (find q (pairs_of ys))
find_into q e [] = refl
find_into q e (y ∷ ys) = into_at (is_lt (entry_order y e)) q e y ys (into_place entry_order e ys) refl (find_into q e ys)

find_sorted : (q : Plain) (es : List Entry) → find q (pairs_of (sorted entry_order es)) ≡ find q (pairs_of es)
find_sorted q [] = refl
find_sorted q (e ∷ es) = find_into q e (sorted entry_order es) ∙ ap (cond (is_eq (order q (key_of e))) (Some e.1.1)) (find_sorted q es)

-- ---- what is found in the tree of an index
find_part : (q : Plain) (m : Document) (vs : List Plain) → find q (pairs_of (map (λ v. (v, m)) vs)) ≡ cond (is_among q m.0 vs) (Some m.1) None
unfolding is_among
find_part q m [] = refl
find_part q m (v ∷ vs) = ap (cond (is_eq (order q (entry_key m.0 v))) (Some m.1)) (find_part q m vs) ∙ one_more (is_eq (order q (entry_key m.0 v))) (is_among q m.0 vs) (Some m.1) None

-- of a document that may be there: itself, where q is the key of one of its entries
found_of : Index → Plain → Option Plain → Option Plain
found_of i q None = None
found_of i q (Some d) = cond (is_among q (primary_in q) (entries i d)) (Some d) None

document_at : (b : Bool) (i : Index) (q : Plain) (m : Document) (docs : List Document) → b ≡ is_eq (order (primary_in q) m.0) → find m.0 docs ≡ None
    → or_else (cond (is_among q m.0 (entries i m.1)) (Some m.1) None) (found_of i q (find (primary_in q) docs)) ≡ found_of i q (cond b (Some m.1) (find (primary_in q) docs))
unfolding found_of or_else
document_at true i q m docs e gone =
    let key : primary_in q ≡ m.0 = alike (primary_in q) m.0 (sym e) in
    let none : find (primary_in q) docs ≡ None = subst (λ x. find x docs ≡ None) (sym key) gone in
    ap (λ o. or_else (cond (is_among q m.0 (entries i m.1)) (Some m.1) None) (found_of i q o)) none
    ∙ or_none (cond (is_among q m.0 (entries i m.1)) (Some m.1) None)
    ∙ ap (λ k. cond (is_among q k (entries i m.1)) (Some m.1) None) (sym key)
document_at false i q m docs e gone = ap (λ b. or_else (cond b (Some m.1) None) (found_of i q (find (primary_in q) docs))) (far_from q m.0 (entries i m.1) (sym e))

find_all : (i : Index) (q : Plain) (docs : List Document) → AreRising docs → find q (pairs_of (flat_map (document_entries i) docs)) ≡ found_of i q (find (primary_in q) docs)
unfolding IsStrictlySortedBy found_of
find_all i q [] up = refl
find_all i q (m ∷ docs) up =
    let rest : List Entry = flat_map (document_entries i) docs in
    ap (find q) (map-append pair_of (document_entries i m) rest)
    ∙ find_joined q (pairs_of (document_entries i m)) (pairs_of rest)
    ∙ (λ j. or_else (find_part q m (entries i m.1) j) (find_all i q docs up.1 j))
    ∙ document_at (is_eq (order (primary_in q) m.0)) i q m docs refl (not_later order order_total m.0 m.1 docs up)

find_listed : (i : Index) (q : Plain) (docs : List Document) → AreRising docs → find q (pairs_of (index_list docs i)) ≡ found_of i q (find (primary_in q) docs)
find_listed i q docs up = find_sorted q (flat_map (document_entries i) docs) ∙ find_all i q docs up

list_rises : (i : Index) (docs : List Document) → AreRising docs → AreRising (pairs_of (index_list docs i))
list_rises i docs up = pairs_rise (index_list docs i) (in_order docs i up).0

-- ---- what is found after entries are taken out, or put in
taken_rises : (k : Plain) (vs : List Plain) (ms : Pairs) → AreRising ms → AreRising (taken k vs ms)
taken_rises k [] ms up = up
taken_rises k (v ∷ vs) ms up = taken_rises k vs (without (entry_key k v) ms) (rising_without order order_total (entry_key k v) ms up)

filed_rises : (m : Document) (vs : List Plain) (ms : Pairs) → AreRising ms → AreRising (filed m vs ms)
filed_rises m [] ms up = up
filed_rises m (v ∷ vs) ms up = filed_rises m vs (put (entry_key m.0 v) m.1 ms) (rising_put order order_total (entry_key m.0 v) m.1 ms up)

find_taken : (q k : Plain) (vs : List Plain) (ms : Pairs) → AreRising ms → find q (taken k vs ms) ≡ cond (is_among q k vs) None (find q ms)
unfolding is_among
find_taken q k [] ms up = refl
find_taken q k (v ∷ vs) ms up =
    find_taken q k vs (without (entry_key k v) ms) (rising_without order order_total (entry_key k v) ms up)
    ∙ ap (cond (is_among q k vs) None) (find_without order order_total ms (entry_key k v) q up ∙ ap (λ b. cond b None (find q ms)) (flipped (entry_key k v) q))
    ∙ either (is_eq (order q (entry_key k v))) (is_among q k vs) None (find q ms)

find_filed : (q : Plain) (m : Document) (vs : List Plain) (ms : Pairs) → find q (filed m vs ms) ≡ cond (is_among q m.0 vs) (Some m.1) (find q ms)
unfolding is_among
find_filed q m [] ms = refl
find_filed q m (v ∷ vs) ms =
    find_filed q m vs (put (entry_key m.0 v) m.1 ms)
    ∙ ap (cond (is_among q m.0 vs) (Some m.1)) (find_put order order_total ms (entry_key m.0 v) m.1 q)
    ∙ either (is_eq (order q (entry_key m.0 v))) (is_among q m.0 vs) (Some m.1) (find q ms)

-- ---- an edit of the document at k: the values us of the old one are taken out, or are those of the new one
abbrev Covers : Index → Option Plain → List Plain → List Plain → Type 0
Covers i old us new = (x : Plain) → old ≡ Some x → (entries i x ≡ us) ⊎ (entries i x ≡ new)

all_out : (a b : Bool) (y : Option Plain) (x : Plain) → cond a y (cond b None (cond b (Some x) None)) ≡ cond a y None
all_out true b y x = refl
all_out false true y x = refl
all_out false false y x = refl

all_new : (a b : Bool) (y : Option Plain) (x : Plain) → cond a y (cond b None (cond a (Some x) None)) ≡ cond a y None
all_new true b y x = refl
all_new false true y x = refl
all_new false false y x = refl

none_out : (a b : Bool) (y : Option Plain) → cond a y (cond b None None) ≡ cond a y None
none_out true b y = refl
none_out false true y = refl
none_out false false y = refl

old_by : (i : Index) (q k : Plain) (x : Plain) (us new : List Plain) (y : Option Plain) → (entries i x ≡ us) ⊎ (entries i x ≡ new)
    → cond (is_among q k new) y (cond (is_among q k us) None (cond (is_among q k (entries i x)) (Some x) None)) ≡ cond (is_among q k new) y None
old_by i q k x us new y (inl e) = ap (λ vs. cond (is_among q k new) y (cond (is_among q k us) None (cond (is_among q k vs) (Some x) None))) e ∙ all_out (is_among q k new) (is_among q k us) y x
old_by i q k x us new y (inr e) = ap (λ vs. cond (is_among q k new) y (cond (is_among q k us) None (cond (is_among q k vs) (Some x) None))) e ∙ all_new (is_among q k new) (is_among q k us) y x

old_out : (i : Index) (q k : Plain) (old : Option Plain) (us new : List Plain) (y : Option Plain) → primary_in q ≡ k → Covers i old us new
    → cond (is_among q k new) y (cond (is_among q k us) None (found_of i q old)) ≡ cond (is_among q k new) y None
unfolding found_of
old_out i q k None us new y key covers = none_out (is_among q k new) (is_among q k us) y
old_out i q k (Some x) us new y key covers =
    ap (λ p. cond (is_among q k new) y (cond (is_among q k us) None (cond (is_among q p (entries i x)) (Some x) None))) key
    ∙ old_by i q k x us new y (covers x refl)

put_at : (b : Bool) (i : Index) (q k d : Plain) (old at : Option Plain) (us : List Plain) → b ≡ is_eq (order (primary_in q) k) → (primary_in q ≡ k → at ≡ old) → Covers i old us (entries i d)
    → cond (is_among q k (entries i d)) (Some d) (cond (is_among q k us) None (found_of i q at)) ≡ found_of i q (cond b (Some d) at)
unfolding found_of
put_at true i q k d old at us e there covers =
    let key : primary_in q ≡ k = alike (primary_in q) k (sym e) in
    ap (λ o. cond (is_among q k (entries i d)) (Some d) (cond (is_among q k us) None (found_of i q o))) (there key)
    ∙ old_out i q k old us (entries i d) (Some d) key covers
    ∙ ap (λ p. cond (is_among q p (entries i d)) (Some d) None) (sym key)
put_at false i q k d old at us e there covers =
    λ j. cond (far_from q k (entries i d) (sym e) j) (Some d) (cond (far_from q k us (sym e) j) None (found_of i q at))

pub put_filed : (i : Index) (docs : List Document) (k d : Plain) (old : Option Plain) (us : List Plain) → AreRising docs → find k docs ≡ old → Covers i old us (entries i d)
    → filed (k, d) (entries i d) (taken k us (pairs_of (index_list docs i))) ≡ pairs_of (index_list (put k d docs) i)
put_filed i docs k d old us up there covers =
    let ms : Pairs = pairs_of (index_list docs i) in
    let rises : AreRising ms = list_rises i docs up in
    let next : AreRising (put k d docs) = rising_put order order_total k d docs up in
    same_found order order_total exact (filed (k, d) (entries i d) (taken k us ms)) (pairs_of (index_list (put k d docs) i))
    (filed_rises (k, d) (entries i d) (taken k us ms) (taken_rises k us ms rises)) (list_rises i (put k d docs) next)
    (λ q. find_filed q (k, d) (entries i d) (taken k us ms)
    ∙ ap (cond (is_among q k (entries i d)) (Some d)) (find_taken q k us ms rises ∙ ap (cond (is_among q k us) None) (find_listed i q docs up))
    ∙ put_at (is_eq (order (primary_in q) k)) i q k d old (find (primary_in q) docs) us refl (λ key. subst (λ x. find x docs ≡ old) (sym key) there) covers
    ∙ ap (found_of i q) (sym (find_put order order_total docs k d (primary_in q)))
    ∙ sym (find_listed i q (put k d docs) next))

out_at : (b : Bool) (i : Index) (q k : Plain) (old at : Option Plain) (us : List Plain) → b ≡ is_eq (order (primary_in q) k) → (primary_in q ≡ k → at ≡ old) → Covers i old us []
    → cond (is_among q k us) None (found_of i q at) ≡ found_of i q (cond b None at)
unfolding found_of is_among
out_at true i q k old at us e there covers =
    let key : primary_in q ≡ k = alike (primary_in q) k (sym e) in
    ap (λ o. cond (is_among q k us) None (found_of i q o)) (there key) ∙ old_out i q k old us [] None key covers
out_at false i q k old at us e there covers = ap (λ b. cond b None (found_of i q at)) (far_from q k us (sym e))

pub out_filed : (i : Index) (docs : List Document) (k : Plain) (old : Option Plain) (us : List Plain) → AreRising docs → find k docs ≡ old → Covers i old us []
    → taken k us (pairs_of (index_list docs i)) ≡ pairs_of (index_list (without k docs) i)
out_filed i docs k old us up there covers =
    let ms : Pairs = pairs_of (index_list docs i) in
    let rises : AreRising ms = list_rises i docs up in
    let next : AreRising (without k docs) = rising_without order order_total k docs up in
    same_found order order_total exact (taken k us ms) (pairs_of (index_list (without k docs) i)) (taken_rises k us ms rises) (list_rises i (without k docs) next)
    (λ q. find_taken q k us ms rises ∙ ap (cond (is_among q k us) None) (find_listed i q docs up)
    ∙ out_at (is_eq (order (primary_in q) k)) i q k old (find (primary_in q) docs) us refl (λ key. subst (λ x. find x docs ≡ old) (sym key) there) covers
    ∙ ap (found_of i q) (ap (λ b. cond b None (find (primary_in q) docs)) (flipped (primary_in q) k) ∙ sym (find_without order order_total docs k (primary_in q) up))
    ∙ sym (find_listed i q (without k docs) next))

-- ---- a tree that is built of all documents
all_rise : (i : Index) (docs : List Document) (ms : Pairs) → AreRising ms → AreRising (all_filed i docs ms)
all_rise i [] ms up = up
all_rise i (m ∷ docs) ms up = all_rise i docs (filed m (entries i m.1) ms) (filed_rises m (entries i m.1) ms up)

built_part : (a : Bool) (x : Plain) (o : Option Plain) → cond a (Some x) o ≡ or_else (cond a (Some x) None) o
unfolding or_else
built_part true x o = refl
built_part false x o = refl

built_at : (b : Bool) (i : Index) (q : Plain) (m : Document) (docs : List Document) (o : Option Plain) → b ≡ is_eq (order (primary_in q) m.0) → find m.0 docs ≡ None
    → or_else (found_of i q (find (primary_in q) docs)) (cond (is_among q m.0 (entries i m.1)) (Some m.1) o) ≡ or_else (found_of i q (cond b (Some m.1) (find (primary_in q) docs))) o
unfolding found_of or_else
built_at true i q m docs o e gone =
    let key : primary_in q ≡ m.0 = alike (primary_in q) m.0 (sym e) in
    let none : find (primary_in q) docs ≡ None = subst (λ x. find x docs ≡ None) (sym key) gone in
    ap (λ r. or_else (found_of i q r) (cond (is_among q m.0 (entries i m.1)) (Some m.1) o)) none
    ∙ built_part (is_among q m.0 (entries i m.1)) m.1 o
    ∙ ap (λ k. or_else (cond (is_among q k (entries i m.1)) (Some m.1) None) o) (sym key)
built_at false i q m docs o e gone = ap (λ b. or_else (found_of i q (find (primary_in q) docs)) (cond b (Some m.1) o)) (far_from q m.0 (entries i m.1) (sym e))

find_built : (i : Index) (q : Plain) (docs : List Document) (ms : Pairs) → AreRising docs → find q (all_filed i docs ms) ≡ or_else (found_of i q (find (primary_in q) docs)) (find q ms)
unfolding IsStrictlySortedBy found_of or_else
find_built i q [] ms up = refl
find_built i q (m ∷ docs) ms up =
    find_built i q docs (filed m (entries i m.1) ms) up.1
    ∙ ap (or_else (found_of i q (find (primary_in q) docs))) (find_filed q m (entries i m.1) ms)
    ∙ built_at (is_eq (order (primary_in q) m.0)) i q m docs (find q ms) refl (not_later order order_total m.0 m.1 docs up)

pub built_filed : (i : Index) (docs : List Document) → AreRising docs → all_filed i docs [] ≡ pairs_of (index_list docs i)
unfolding IsStrictlySortedBy
built_filed i docs up =
    same_found order order_total exact (all_filed i docs []) (pairs_of (index_list docs i)) (all_rise i docs [] tt) (list_rises i docs up)
    (λ q. find_built i q docs [] up ∙ or_none (found_of i q (find (primary_in q) docs)) ∙ sym (find_listed i q docs up))

-- ---- as code cites them
pub same_lists : (us vs : List Plain) (o : Ordering) → o ≡ order (array_of us) (array_of vs) → is_eq o ≡ true → us ≡ vs
same_lists us vs o e same =
    let whole : array (items_of us) ≡ array (items_of vs) = alike (array (items_of us)) (array (items_of vs)) (ap is_eq (sym e) ∙ same) in
    let parts : items_of us ≡ items_of vs = cc in
    sym (listed_back us) ∙ ap listed parts ∙ listed_back vs

covers_old : (i : Index) (old : Option Plain) (out us new : List Plain) → out ≡ entries_if i old → (out ≡ us) ⊎ (out ≡ new) → Covers i old us new
covers_old i old out us new e gone = λ x is.
    let same : out ≡ entries i x = e ∙ ap (entries_if i) is in
    subst (λ vs. (vs ≡ us) ⊎ (vs ≡ new)) same gone

pub out_result : (i : Index) (docs : List Document) (k : Plain) (old : Option Plain) (out : List Plain) (tree after : Pairs) → after ≡ taken k out tree → out ≡ entries_if i old
    → AreRising docs → find k docs ≡ old → tree ≡ pairs_of (index_list docs i) → after ≡ pairs_of (index_list (without k docs) i)
out_result i docs k old out tree after is e up there filed =
    is ∙ ap (taken k out) filed ∙ out_filed i docs k old out up there (covers_old i old out out [] e (inl refl))

pub put_result : (i : Index) (docs : List Document) (k d : Plain) (old : Option Plain) (out us new : List Plain) (tree rest after : Pairs) → after ≡ filed (k, d) new rest → rest ≡ taken k us tree
    → out ≡ entries_if i old → new ≡ entries i d → (out ≡ us) ⊎ (out ≡ new) → AreRising docs → find k docs ≡ old → tree ≡ pairs_of (index_list docs i)
    → after ≡ pairs_of (index_list (put k d docs) i)
put_result i docs k d old out us new tree rest after is out_first e f gone up there filed_now =
    is ∙ (λ j. filed (k, d) (f j) ((out_first ∙ ap (taken k us) filed_now) j))
    ∙ put_filed i docs k d old us up there (covers_old i old out us (entries i d) e (subst (λ vs. (out ≡ us) ⊎ (out ≡ vs)) f gone))
