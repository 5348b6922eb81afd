-- The index lists of a plain table are in order, and hold entries of its documents.
use Rattle.std.proofs.Common.{◌≡◌, refl, sym, ap, ◌∙◌, Bool, true, false, cond, if◌then◌else◌, List, [], ◌∷◌, ◌++◌, map, Some, Ok, Err, Ordering, Less, Equal, Greater}
use Rattle.std.specs.Cmp.{IsTotalOrder, IsStrictWeakOrder, then_total, on_total}
use Rattle.std.specs.List.{AllByRecursion, filter, flat_map}
use Rattle.std.specs.List.Sorted.{IsStrictlySortedBy}
use Rattle.std.specs.Map.{keys_of}
use Rattle.std.specs.Ordering.{is_lt, is_eq, ordering_reverse, ordering_then}
use Rattle.std.proofs.lemmas.Cmp.{tied_itself}
use Rattle.std.proofs.lemmas.List.Sorted.{ranks_by}
use Rattle.reql_memory.specs.Sorted.{AreRisingBy, find_by}
use Rattle.reql_datum.specs.Answer.{Answer}
use Rattle.reql_datum.specs.Keys.{is_key}
use Rattle.reql_datum.specs.Order.{order}
use Rattle.reql_datum.specs.Plain.{Plain, low, array, boolean, null, number, object, binary, time, text, high, listed}
use Rattle.reql_datum.specs.Total.{order_total}
use Rattle.reql_term.specs.Views.{Document, Entry, Index, entry_order}
use Rattle.reql_rules.specs.Sorting.{into_place, sorted}
use Rattle.reql_rules.proofs.Distinct.{holds_each_once}
use Rattle.reql_rules.proofs.Stable.{Least, Rising, rising_sorted}
use Rattle.reql_value_spec.specs.Index.{entries, entries_of_value, entries_of_answer, index_value, document_entries}
use Rattle.reql_value_spec.specs.IndexLaws.{IndexListsAreInOrder}

entries_total : IsTotalOrder entry_order
entries_total = then_total (on_total (λ (e : Entry). e.0) order_total) (on_total (λ (e : Entry). e.1.0) order_total)

weak : IsStrictWeakOrder (λ (x y : Entry). is_lt (entry_order x y))
weak = ranks_by entries_total (λ (e : Entry). e)

-- ---- what holds of all
module _ {X : Type 0} (P : X → Type 0) where
  all_append : (xs ys : List X) → AllByRecursion P xs → AllByRecursion P ys → AllByRecursion P (xs ++ ys)
  all_append [] ys h g = g
  all_append (x ∷ xs) ys h g = (h.0, all_append xs ys h.1 g)

module _ (P : Entry → Type 0) where
  into_step : (b : Bool) (x y : Entry) (ys rest : List Entry) → P x → P y → AllByRecursion P ys → AllByRecursion P rest → AllByRecursion P (if b then y ∷ rest else x ∷ y ∷ ys)
  into_step true x y ys rest p q h g = (q, g)
  into_step false x y ys rest p q h g = (p, (q, h))

  all_into : (x : Entry) (ys : List Entry) → P x → AllByRecursion P ys → AllByRecursion P (into_place entry_order x ys)
  all_into x [] p h = (p, tt)
  all_into x (y ∷ ys) p h = into_step (is_lt (entry_order y x)) x y ys (into_place entry_order x ys) p h.0 h.1 (all_into x ys p h.1)

  all_sorted : (es : List Entry) → AllByRecursion P es → AllByRecursion P (sorted entry_order es)
  all_sorted [] h = tt
  all_sorted (e ∷ es) h = all_into e (sorted entry_order es) h.0 (all_sorted es h.1)

-- ---- no two tie
abbrev Apart : Entry → Entry → Type 0
Apart x y = entry_order x y ≡ Equal → ⊥

abbrev AreApart : List Entry → Type 0
AreApart [] = Unit {0}
AreApart (e ∷ es) = AllByRecursion (Apart e) es × AreApart es

apart_back : (x y : Entry) → Apart x y → Apart y x
apart_back x y h e = h (entries_total.antisymm x y ∙ ap ordering_reverse e)

apart_step : (b : Bool) (x y : Entry) (ys rest : List Entry) → Apart x y → AllByRecursion (Apart x) ys → AllByRecursion (Apart y) ys → AreApart ys → AllByRecursion (Apart y) rest → AreApart rest
    → AreApart (if b then y ∷ rest else x ∷ y ∷ ys)
apart_step true x y ys rest h a b c d e = (d, e)
apart_step false x y ys rest h a b c d e = ((h, a), (b, c))

apart_into : (x : Entry) (ys : List Entry) → AllByRecursion (Apart x) ys → AreApart ys → AreApart (into_place entry_order x ys)
apart_into x [] h a = (tt, tt)
apart_into x (y ∷ ys) h a = apart_step (is_lt (entry_order y x)) x y ys (into_place entry_order x ys) h.0 h.1 a.0 a.1 (all_into (Apart y) x ys (apart_back x y h.0) a.0) (apart_into x ys h.1 a.1)

apart_sorted : (es : List Entry) → AreApart es → AreApart (sorted entry_order es)
apart_sorted [] a = tt
apart_sorted (e ∷ es) a = apart_into e (sorted entry_order es) (all_sorted (Apart e) es a.0) (apart_sorted es a.1)

-- ---- rising, and no two tie: in order
less_of : (o p : Ordering) → p ≡ ordering_reverse o → (o ≡ Equal → ⊥) → is_lt p ≡ false → o ≡ Less
less_of Less p back apart l = refl
less_of Equal p back apart l = absurd (apart refl)
less_of Greater p back apart l = let f : is_lt (ordering_reverse Greater) ≡ false = ap is_lt (sym back) ∙ l in cc

below_all : (x : Entry) (ys : List Entry) → Least entry_order weak x ys → AllByRecursion (Apart x) ys → AllByRecursion (λ y. entry_order x y ≡ Less) ys
below_all x [] l a = tt
below_all x (y ∷ ys) l a = (less_of (entry_order x y) (entry_order y x) (entries_total.antisymm y x) a.0 l.0, below_all x ys l.1 a.1)

strictly : (es : List Entry) → Rising entry_order weak es → AreApart es → IsStrictlySortedBy entry_order es
unfolding IsStrictlySortedBy
strictly [] r a = tt
strictly (e ∷ es) r a = (below_all e es r.0 a.0, strictly es r.1 a.1)

-- ---- the entries of documents
then_less : (o : Ordering) → ordering_then o Less ≡ Equal → ⊥
then_less Less h = absurd (let f : Less ≡ Equal = h in cc)
then_less Equal h = absurd (let f : Less ≡ Equal = h in cc)
then_less Greater h = absurd (let f : Greater ≡ Equal = h in cc)

of_less : (o : Ordering) (p : Ordering) → o ≡ Less → ordering_then o p ≡ Equal → ⊥
of_less Less p e h = absurd (let f : Less ≡ Equal = h in cc)
of_less Equal p e h = absurd (let f : Equal ≡ Less = e in cc)
of_less Greater p e h = absurd (let f : Greater ≡ Less = e in cc)

value_apart : (v : Plain) (vs : List Plain) (m : Document) → AllByRecursion (λ u. order v u ≡ Less) vs → AllByRecursion (Apart (v, m)) (map (λ u. (u, m)) vs)
value_apart v [] m h = tt
value_apart v (u ∷ vs) m h = (of_less (order v u) (order m.0 m.0) h.0, value_apart v vs m h.1)

values_apart : (vs : List Plain) (m : Document) → IsStrictlySortedBy order vs → AreApart (map (λ v. (v, m)) vs)
unfolding IsStrictlySortedBy
values_apart [] m h = tt
values_apart (v ∷ vs) m h = (value_apart v vs m h.0, values_apart vs m h.1)

if_key : (b : Bool) (d : Plain) → IsStrictlySortedBy order (if b then d ∷ [] else [])
unfolding IsStrictlySortedBy
if_key true d = (tt, tt)
if_key false d = tt

value_rises : (multi : Bool) (d : Plain) → IsStrictlySortedBy order (entries_of_value multi d)
value_rises true (array vs) = (holds_each_once (filter is_key (listed vs))).0
value_rises true low = if_key (is_key low) low
value_rises true (boolean b) = if_key (is_key (boolean b)) (boolean b)
value_rises true null = if_key (is_key null) null
value_rises true (number n) = if_key (is_key (number n)) (number n)
value_rises true (object ms) = if_key (is_key (object ms)) (object ms)
value_rises true (binary s) = if_key (is_key (binary s)) (binary s)
value_rises true (time t) = if_key (is_key (time t)) (time t)
value_rises true (text s) = if_key (is_key (text s)) (text s)
value_rises true high = if_key (is_key high) high
value_rises false d = if_key (is_key d) d

answer_rises : (multi : Bool) (a : Answer Plain) → IsStrictlySortedBy order (entries_of_answer multi a)
unfolding IsStrictlySortedBy
answer_rises multi (Ok d) = value_rises multi d
answer_rises multi (Err e) = tt

entries_rise : (i : Index) (d : Plain) → IsStrictlySortedBy order (entries i d)
entries_rise i d = answer_rises i.1 (index_value i.0 d)

-- the entries of a document are apart from those of later ones
far_from : (v : Plain) (m k : Document) (vs : List Plain) → order m.0 k.0 ≡ Less → AllByRecursion (Apart (v, m)) (map (λ u. (u, k)) vs)
far_from v m k [] h = tt
far_from v m k (u ∷ vs) h = ((λ e. then_less (order v u) (ap (ordering_then (order v u)) (sym h) ∙ e)), far_from v m k vs h)

far_from_all : (i : Index) (v : Plain) (m : Document) (ks : List Document) → AllByRecursion (λ k. order m.0 k ≡ Less) (keys_of ks) → AllByRecursion (Apart (v, m)) (flat_map (document_entries i) ks)
far_from_all i v m [] h = tt
far_from_all i v m (k ∷ ks) h = all_append (Apart (v, m)) (document_entries i k) (flat_map (document_entries i) ks) (far_from v m k (entries i k.1) h.0) (far_from_all i v m ks h.1)

joined_apart : (i : Index) (m : Document) (vs : List Plain) (ks : List Document) → AllByRecursion (λ k. order m.0 k ≡ Less) (keys_of ks) → AreApart (map (λ v. (v, m)) vs) → AreApart (flat_map (document_entries i) ks)
    → AreApart (map (λ v. (v, m)) vs ++ flat_map (document_entries i) ks)
joined_apart i m [] ks h a b = b
joined_apart i m (v ∷ vs) ks h a b = (all_append (Apart (v, m)) (map (λ u. (u, m)) vs) (flat_map (document_entries i) ks) a.0 (far_from_all i v m ks h), joined_apart i m vs ks h a.1 b)

all_apart : (i : Index) (docs : List Document) → AreRisingBy order docs → AreApart (flat_map (document_entries i) docs)
unfolding IsStrictlySortedBy
all_apart i [] up = tt
all_apart i (m ∷ ks) up = joined_apart i m (entries i m.1) ks up.0 (values_apart (entries i m.1) m (entries_rise i m.1)) (all_apart i ks up.1)

-- ---- each is of a document that is there
abbrev IsThere : List Document → Document → Type 0
IsThere docs m = find_by order m.0 docs ≡ Some m.1

flipped : (o p : Ordering) → p ≡ ordering_reverse o → o ≡ Less → is_eq p ≡ false
flipped Less p back h = ap is_eq back
flipped Equal p back h = absurd (let f : Equal ≡ Less = h in cc)
flipped Greater p back h = absurd (let f : Greater ≡ Less = h in cc)

there_still : (d : Document) (docs ks : List Document) → AllByRecursion (λ k. order d.0 k ≡ Less) (keys_of ks) → AllByRecursion (IsThere docs) ks → AllByRecursion (IsThere (d ∷ docs)) ks
there_still d docs [] h all = tt
there_still d docs (k ∷ ks) h all = (ap (λ b. cond b (Some d.1) (find_by order k.0 docs)) (flipped (order d.0 k.0) (order k.0 d.0) (order_total.antisymm k.0 d.0) h.0) ∙ all.0, there_still d docs ks h.1 all.1)

all_there : (docs : List Document) → AreRisingBy order docs → AllByRecursion (IsThere docs) docs
unfolding IsStrictlySortedBy
all_there [] up = tt
all_there (d ∷ ds) up = (ap (λ o. cond (is_eq o) (Some d.1) (find_by order d.0 ds)) (tied_itself order_total d.0), there_still d ds ds up.0 (all_there ds up.1))

of_document : (docs : List Document) (m : Document) (vs : List Plain) → IsThere docs m → AllByRecursion (λ (e : Entry). find_by order e.1.0 docs ≡ Some e.1.1) (map (λ v. (v, m)) vs)
of_document docs m [] h = tt
of_document docs m (v ∷ vs) h = (h, of_document docs m vs h)

of_documents : (docs : List Document) (i : Index) (ks : List Document) → AllByRecursion (IsThere docs) ks → AllByRecursion (λ (e : Entry). find_by order e.1.0 docs ≡ Some e.1.1) (flat_map (document_entries i) ks)
of_documents docs i [] h = tt
of_documents docs i (k ∷ ks) h = all_append (λ (e : Entry). find_by order e.1.0 docs ≡ Some e.1.1) (document_entries i k) (flat_map (document_entries i) ks) (of_document docs k (entries i k.1) h.0) (of_documents docs i ks h.1)

pub in_order : IndexListsAreInOrder
in_order docs i up =
    let es : List Entry = flat_map (document_entries i) docs in (
      strictly (sorted entry_order es) (rising_sorted entry_order weak es) (apart_sorted es (all_apart i docs up)),
      all_sorted (λ (e : Entry). find_by order e.1.0 docs ≡ Some e.1.1) es (of_documents docs i docs (all_there docs up)),
    )
