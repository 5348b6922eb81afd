-- A change of one document puts at most one entry into the index list of the others, so it moves one element of the first n.
use Rattle.std.proofs.Common.{◌≡◌, ◌≤◌, ◌+◌, ℕ, List, [], ◌∷◌, ◌++◌, map, take, Option, Some, None, Ok, Err, Bool, true, false, ◌&&◌, cond, if◌then◌else◌, refl, sym, ap, subst, ◌∙◌, arith, Ordering, Less, Equal, Greater, inl, inr}
use Rattle.std.specs.List.{filter, flat_map}
use Rattle.std.specs.Ordering.{is_eq, match_ordering}
use Rattle.reql_datum.specs.Answer.{Answer}
use Rattle.reql_datum.specs.Keys.{is_key}
use Rattle.reql_datum.specs.Order.{order}
use Rattle.reql_datum.specs.Plain.{Plain, null}
use Rattle.reql_datum.specs.Total.{order_total}
use Rattle.reql_memory.specs.Sorted.{AreRisingBy, find_by, put_by, without_by}
use Rattle.reql_memory.proofs.Sorted as by_key
use Rattle.reql_rules.specs.Sorting.{sorted}
use Rattle.reql_rules.specs.Types.{same, is_null}
use Rattle.reql_term.specs.Views.{Document, Entry, Index, entry_order, primary, directed}
use Rattle.reql_bag.specs.Bag.{one}
use Rattle.reql_bag.proofs.Bags.{same_is, same_itself, same_or, one_other, one_le}
use Rattle.reql_value_spec.specs.Index.{index_value, entries_of_answer, document_entries, index_list}
use Rattle.reql_feed_spec.specs.Items.{same_entry}
use Rattle.reql_feed_spec.specs.Moves.{IsOneMove}
use Rattle.reql_feed_spec.specs.Value.{changed}
use Rattle.reql_feed_spec.specs.Moving.{AreNoNulls, IsNoNull, IndexesMoveOne, KeysMoveOne}
use Rattle.reql_feed_spec.proofs.LimitHistories.{no_null}
use Rattle.reql_feed_spec.proofs.Points.{same_flip, find_without}
use Rattle.reql_feed_spec.proofs.Putting.{Near, kept, near_filter, near_directed, sorted_put, held, held_append, held_filter, held_directed, held_sorted, key, doc, Away, Differ, Single, no_move, moves_one}

-- ---- the documents without the one at a key, and with it
pub record Split (m : Document) (rest docs : List Document) : Type 0 where
  pub front : List Document
  pub back : List Document
  pub small : rest ≡ front ++ back
  pub big : docs ≡ front ++ m ∷ back

split_later : (d m : Document) (rest docs : List Document) → Split m rest docs → Split m (d ∷ rest) (d ∷ docs)
split_later d m rest docs p = record { front = d ∷ p.front; back = p.back; small = ap (λ t. d ∷ t) p.small; big = ap (λ t. d ∷ t) p.big }

some_inside : (x y : Plain) → Some x ≡ Some y → x ≡ y
some_inside x y h = cc

not_found : (x : Plain) → None ≡ Some x → ⊥
not_found x h = cc

found_at : (b : Bool) (k v : Plain) (d : Document) (ds rest : List Document) (found : Option Plain) → same k d.0 ≡ b → cond b (Some d.1) found ≡ Some v → (found ≡ Some v → Split (k, v) rest ds) → Split (k, v) (cond b ds (d ∷ rest)) (d ∷ ds)
found_at true k v d ds rest found is h on = record {
  front = [];
  back = ds;
  small = refl;
  big = (let e : k ≡ d.0 = same_is k d.0 is in let f : d.1 ≡ v = some_inside d.1 v h in ap (λ t. (t, d.1) ∷ ds) (sym e) ∙ ap (λ t. (k, t) ∷ ds) f);
}
found_at false k v d ds rest found is h on = split_later d (k, v) rest ds (on h)

found_split : (k v : Plain) (docs : List Document) → find_by order k docs ≡ Some v → Split (k, v) (without_by order k docs) docs
found_split k v [] h = absurd (not_found v h)
found_split k v (d ∷ ds) h = found_at (same k d.0) k v d ds (without_by order k ds) (find_by order k ds) refl h (λ g. found_split k v ds g)

put_at : (o : Ordering) (k v : Plain) (d : Document) (ds : List Document) → order k d.0 ≡ o → AreRisingBy order (d ∷ ds) → Split (k, v) (without_by order k ds) (put_by order k v ds)
    → Split (k, v) (cond (is_eq o) ds (d ∷ without_by order k ds)) (match_ordering o ((k, v) ∷ d ∷ ds) ((d.0, v) ∷ ds) (d ∷ put_by order k v ds))
put_at Less k v d ds is up on =
    let none : find_by order k (d ∷ ds) ≡ None = by_key.find_gap order order_total (d ∷ ds) k 0 up is in
    let stays : without_by order k (d ∷ ds) ≡ d ∷ ds = by_key.without_gap order order_total (d ∷ ds) k none in
    let below : is_eq (order k d.0) ≡ false = ap is_eq is in
    let rest : d ∷ without_by order k ds ≡ d ∷ ds = rw below at stays in
    record { front = []; back = d ∷ ds; small = rest; big = refl }
put_at Equal k v d ds is up on =
    let e : k ≡ d.0 = same_is k d.0 (ap is_eq is) in
    record { front = []; back = ds; small = refl; big = ap (λ t. (t, v) ∷ ds) (sym e) }
put_at Greater k v d ds is up on = split_later d (k, v) (without_by order k ds) (put_by order k v ds) on

put_split : (k v : Plain) (docs : List Document) → AreRisingBy order docs → Split (k, v) (without_by order k docs) (put_by order k v docs)
put_split k v [] up = record { front = []; back = []; small = refl; big = refl }
put_split k v (d ∷ ds) up = put_at (order k d.0) k v d ds refl up (put_split k v ds (by_key.rising_rest order order_total d ds up))

-- with a document at a key, or with none
abbrev Holds : Plain → Option Plain → List Document → List Document → Type 0
Holds k None rest docs = docs ≡ rest
Holds k (Some v) rest docs = Split (k, v) rest docs

before_at : (o : Option Plain) (k : Plain) (docs : List Document) → find_by order k docs ≡ o → Holds k o (without_by order k docs) docs
before_at None k docs h = sym (by_key.without_gap order order_total docs k h)
before_at (Some v) k docs h = found_split k v docs h

after : (o : Option Plain) (k : Plain) (docs : List Document) → AreRisingBy order docs → Holds k o (without_by order k docs) (changed k o docs)
after None k docs up = refl
after (Some v) k docs up = put_split k v docs up

same_put_at : (o : Ordering) (d : Document) (ds : List Document) (k v : Plain) → order k d.0 ≡ o → AreRisingBy order (d ∷ ds) → find_by order k (d ∷ ds) ≡ Some v → (find_by order k ds ≡ Some v → put_by order k v ds ≡ ds)
    → match_ordering o ((k, v) ∷ d ∷ ds) ((d.0, v) ∷ ds) (d ∷ put_by order k v ds) ≡ d ∷ ds
same_put_at Less d ds k v is up h on = absurd (not_found v (sym (by_key.find_gap order order_total (d ∷ ds) k 0 up is) ∙ h))
same_put_at Equal d ds k v is up h on =
    let here : Some d.1 ≡ Some v = sym (ap (λ o. cond (is_eq o) (Some d.1) (find_by order k ds)) is) ∙ h in
    ap (λ t. (d.0, t) ∷ ds) (sym (some_inside d.1 v here))
same_put_at Greater d ds k v is up h on =
    let later : find_by order k ds ≡ Some v = sym (ap (λ o. cond (is_eq o) (Some d.1) (find_by order k ds)) is) ∙ h in
    ap (λ t. d ∷ t) (on later)

same_put : (docs : List Document) (k v : Plain) → AreRisingBy order docs → find_by order k docs ≡ Some v → put_by order k v docs ≡ docs
same_put [] k v up h = absurd (not_found v h)
same_put (d ∷ ds) k v up h = same_put_at (order k d.0) d ds k v refl up h (λ g. same_put ds k v (by_key.rising_rest order order_total d ds up) g)

-- ---- how often a part of them stands
module _ (g : Document → Plain) (k : Plain) where
  abbrev stand : List Document → ℕ
  stand [] = 0
  stand (m ∷ ms) = one k (g m) + stand ms

  stand_append : (ms ns : List Document) → stand (ms ++ ns) ≡ stand ms + stand ns
  stand_append [] ns = omega arith
  stand_append (m ∷ ms) ns = omega (arith, stand_append ms ns)

  stand_rest : (at : Plain) (o : Option Plain) (rest docs : List Document) → Holds at o rest docs → stand rest ≤ stand docs
  stand_rest at None rest docs h = let e : stand docs ≡ stand rest = ap stand h in omega (arith, e)
  stand_rest at (Some v) rest docs p = omega (arith, ap stand p.small, ap stand p.big, stand_append p.front p.back, stand_append p.front ((at, v) ∷ p.back))

no_nulls : (docs : List Document) → AreNoNulls docs → stand doc null docs ≡ 0
no_nulls [] all = refl
no_nulls (m ∷ ms) all = omega (arith, no_null m.1 all.0, no_nulls ms all.1)

none_at : (b : Bool) (k : Plain) (d : Document) (found : Option Plain) → same k d.0 ≡ b → cond b (Some d.1) found ≡ None → (one k d.0 ≡ 0) × (found ≡ None)
none_at true k d found is h = absurd (not_found d.1 (sym h))
none_at false k d found is h = (one_other k d.0 is, h)

stand_none : (k : Plain) (docs : List Document) → find_by order k docs ≡ None → stand key k docs ≡ 0
stand_none k [] h = refl
stand_none k (d ∷ ds) h = let p = none_at (same k d.0) k d (find_by order k ds) refl h in omega (arith, p.0, stand_none k ds p.1)

stand_once : (k : Plain) (docs : List Document) → AreRisingBy order docs → stand key k docs ≤ 1
stand_once k [] up = omega arith
stand_once k (d ∷ ds) up =
    elim (same_or k d.0) [
      | inl e ↦
          (let none : find_by order d.0 ds ≡ None = by_key.not_later order order_total d.0 d.1 ds up in
          let rest : stand key k ds ≡ 0 = ap (λ t. stand key t ds) e ∙ stand_none d.0 ds none in
          omega (arith, rest, one_le k d.0))
      | inr ne ↦ omega (arith, one_other k d.0 ne, stand_once k ds (by_key.rising_rest order order_total d ds up))
    ]

-- ---- lists to which each document gives one entry at most
abbrev IsOf : Document → Option Entry → Type 0
IsOf m None = Unit {0}
IsOf m (Some e) = e.1 ≡ m

pub record GivesOne (list : List Document → List Entry) (entry : Document → Option Entry) : Type 0 where
  pub of : (m : Document) → IsOf m (entry m)
  pub puts : (front back : List Document) (m : Document) → Near (entry m) (list (front ++ back)) (list (front ++ m ∷ back))
  pub counts : (g : Document → Plain) (k : Plain) (docs : List Document) → held g k (list docs) ≤ stand g k docs

-- the primary order
primary_append : (ms ns : List Document) → primary (ms ++ ns) ≡ primary ms ++ primary ns
primary_append [] ns = refl
primary_append (m ∷ ms) ns = ap (λ t. (m.0, m) ∷ t) (primary_append ms ns)

primary_counts : (g : Document → Plain) (k : Plain) (docs : List Document) → held g k (primary docs) ≤ stand g k docs
primary_counts g k [] = omega arith
primary_counts g k (m ∷ ms) = omega (arith, primary_counts g k ms)

by_primary : GivesOne primary (λ m. Some (m.0, m))
by_primary = record {
  of = λ m. refl;
  puts = λ front back m. record { front = primary front; back = primary back; small = primary_append front back; big = primary_append front (m ∷ back) };
  counts = primary_counts;
}

-- an index
abbrev first : List Entry → Option Entry
first [] = None
first (e ∷ es) = Some e

abbrev AtMostOne : List Entry → Type 0
AtMostOne [] = Unit {0}
AtMostOne (e ∷ []) = Unit {0}
AtMostOne (e ∷ f ∷ es) = ⊥

single_value : (b : Bool) (v : Plain) (m : Document) → AtMostOne (map (λ u. (u, m)) (if b then v ∷ [] else []))
single_value true v m = tt
single_value false v m = tt

single_answer : (a : Answer Plain) (m : Document) → AtMostOne (map (λ u. (u, m)) (entries_of_answer false a))
single_answer (Ok v) m = single_value (is_key v) v m
single_answer (Err e) m = tt

single : (i : Index) (m : Document) → i.1 ≡ false → AtMostOne (document_entries i m)
single i m off = subst (λ b. AtMostOne (map (λ u. (u, m)) (entries_of_answer b (index_value i.0 m.1)))) (sym off) (single_answer (index_value i.0 m.1) m)

first_of : (m : Document) (vs : List Plain) → IsOf m (first (map (λ v. (v, m)) vs))
first_of m [] = tt
first_of m (v ∷ vs) = refl

near_one : (es xs ys : List Entry) → AtMostOne es → Near (first es) (sorted entry_order (xs ++ ys)) (sorted entry_order (xs ++ (es ++ ys)))
near_one [] xs ys h = refl
near_one (e ∷ []) xs ys h = sorted_put xs e ys
near_one (e ∷ f ∷ es) xs ys h = absurd h

entries_append : (i : Index) (ms ns : List Document) → flat_map (document_entries i) (ms ++ ns) ≡ flat_map (document_entries i) ms ++ flat_map (document_entries i) ns
entries_append i [] ns = refl
entries_append i (m ∷ ms) ns =
    ap (λ t. document_entries i m ++ t) (entries_append i ms ns) ∙ joined (document_entries i m) (flat_map (document_entries i) ms) (flat_map (document_entries i) ns)
  where
    joined : (xs ys zs : List Entry) → xs ++ (ys ++ zs) ≡ (xs ++ ys) ++ zs
    joined [] ys zs = refl
    joined (x ∷ xs) ys zs = ap (λ t. x ∷ t) (joined xs ys zs)

index_puts : (i : Index) → i.1 ≡ false → (front back : List Document) (m : Document) → Near (first (document_entries i m)) (index_list (front ++ back) i) (index_list (front ++ m ∷ back) i)
index_puts i off front back m =
    let xs : List Entry = flat_map (document_entries i) front in
    let ys : List Entry = flat_map (document_entries i) back in
    let o : Option Entry = first (document_entries i m) in
    let P : List Entry → Type 0 = λ t. Near o (sorted entry_order t) (index_list (front ++ m ∷ back) i) in
    let Q : List Entry → Type 0 = λ t. Near o (sorted entry_order (xs ++ ys)) (sorted entry_order t) in
    subst P (sym (entries_append i front back)) (subst Q (sym (entries_append i front (m ∷ back))) (near_one (document_entries i m) xs ys (single i m off)))

count_one : (g : Document → Plain) (k : Plain) (m : Document) (vs : List Plain) → AtMostOne (map (λ v. (v, m)) vs) → held g k (map (λ v. (v, m)) vs) ≤ one k (g m)
count_one g k m [] h = omega arith
count_one g k m (v ∷ []) h = omega arith
count_one g k m (v ∷ u ∷ vs) h = absurd h

entries_count : (i : Index) → i.1 ≡ false → (g : Document → Plain) (k : Plain) (docs : List Document) → held g k (flat_map (document_entries i) docs) ≤ stand g k docs
entries_count i off g k [] = omega arith
entries_count i off g k (m ∷ ms) =
    omega (
      arith,
      held_append g k (document_entries i m) (flat_map (document_entries i) ms),
      count_one g k m (entries_of_answer i.1 (index_value i.0 m.1)) (single i m off),
      entries_count i off g k ms,
    )

by_index : (i : Index) → i.1 ≡ false → GivesOne (λ docs. index_list docs i) (λ m. first (document_entries i m))
by_index i off = record {
  of = λ m. first_of m (entries_of_answer i.1 (index_value i.0 m.1));
  puts = index_puts i off;
  counts = λ g k docs. omega (arith, held_sorted g k (flat_map (document_entries i) docs), entries_count i off g k docs);
}

-- ---- between bounds, in order or in the reverse
module _ (list : List Document → List Entry) (entry : Document → Option Entry) (gives : GivesOne list entry) (within : Entry → Bool) (down : Bool) where
  abbrev chosen : List Document → List Entry
  chosen docs = directed down (filter within (list docs))

  abbrev mine : Plain → Option Plain → Option Entry
  mine k None = None
  mine k (Some v) = kept within (entry (k, v))

  near_chosen : (k : Plain) (o : Option Plain) (rest docs : List Document) → Holds k o rest docs → Near (mine k o) (chosen rest) (chosen docs)
  near_chosen k None rest docs h = ap chosen h
  near_chosen k (Some v) rest docs p =
      let q = gives.puts p.front p.back (k, v) in
      let P : List Document → Type 0 = λ t. Near (mine k (Some v)) (chosen t) (chosen docs) in
      let Q : List Document → Type 0 = λ t. Near (mine k (Some v)) (chosen (p.front ++ p.back)) (chosen t) in
      subst P (sym p.small) (subst Q (sym p.big)
      (near_directed down (kept within (entry (k, v))) (filter within (list (p.front ++ p.back))) (filter within (list (p.front ++ (k, v) ∷ p.back)))
      (near_filter within (entry (k, v)) (list (p.front ++ p.back)) (list (p.front ++ (k, v) ∷ p.back)) q)))

  count_chosen : (g : Document → Plain) (k : Plain) (docs : List Document) → held g k (chosen docs) ≤ stand g k docs
  count_chosen g k docs = omega (arith, held_directed g k down (filter within (list docs)), held_filter g k within (list docs), gives.counts g k docs)

  away_at : (b : Bool) (k v : Plain) (e : Entry) (ks : List Entry) → e.1 ≡ (k, v) → held key k ks ≡ 0 → is_null v ≡ false → Away ks (if b then Some e else None)
  away_at true k v e ks is h n =
      (ap (λ t. held key t ks) (ap (λ (m : Document). m.0) is) ∙ h, ap (λ (m : Document). is_null m.1) is ∙ n)
  away_at false k v e ks is h n = tt

  away_entry : (o : Option Entry) (k v : Plain) (ks : List Entry) → IsOf (k, v) o → held key k ks ≡ 0 → is_null v ≡ false → Away ks (kept within o)
  away_entry None k v ks is h n = tt
  away_entry (Some e) k v ks is h n = away_at (within e) k v e ks is h n

  away : (k : Plain) (o : Option Plain) (ks : List Entry) → held key k ks ≡ 0 → IsNoNull o → Away ks (mine k o)
  away k None ks h n = tt
  away k (Some v) ks h n = away_entry (entry (k, v)) k v ks (gives.of (k, v)) h n

  -- entries of different documents are different
  last_false : (a b c : Bool) → c ≡ false → a && b && c ≡ false
  last_false true true c h = h
  last_false true false c h = refl
  last_false false b c h = refl

  other_doc : (d e : Entry) → same d.1.1 e.1.1 ≡ false → same_entry d e ≡ false
  other_doc d e h = last_false (same d.0 e.0) (same d.1.0 e.1.0) (same d.1.1 e.1.1) h

  differ_at : (a b : Bool) (k u v : Plain) (d e : Entry) → d.1 ≡ (k, u) → e.1 ≡ (k, v) → same u v ≡ false → same v u ≡ false → Differ (if a then Some d else None) (if b then Some e else None)
  differ_at false b k u v d e p q h g = tt
  differ_at true false k u v d e p q h g = tt
  differ_at true true k u v d e p q h g = (
    other_doc d e (ap (λ (m : Document). same m.1 e.1.1) p ∙ ap (λ (m : Document). same u m.1) q ∙ h),
    other_doc e d (ap (λ (m : Document). same m.1 d.1.1) q ∙ ap (λ (m : Document). same v m.1) p ∙ g),
  )

  differ_entry : (o p : Option Entry) (k u v : Plain) → IsOf (k, u) o → IsOf (k, v) p → same u v ≡ false → same v u ≡ false → Differ (kept within o) (kept within p)
  differ_entry None p k u v is js h g = tt
  differ_entry (Some d) None k u v is js h g = none_other (within d) d
    where
      none_other : (b : Bool) (x : Entry) → Differ (if b then Some x else None) None
      none_other true x = tt
      none_other false x = tt
  differ_entry (Some d) (Some e) k u v is js h g = differ_at (within d) (within e) k u v d e is js h g

  abbrev Apart : Option Plain → Option Plain → Type 0
  Apart None p = Unit {0}
  Apart (Some u) None = Unit {0}
  Apart (Some u) (Some v) = (same u v ≡ false) × (same v u ≡ false)

  none_after : (o : Option Entry) → Differ o None
  none_after None = tt
  none_after (Some x) = tt

  differ : (k : Plain) (o p : Option Plain) → Apart o p → Differ (mine k o) (mine k p)
  differ k None p h = tt
  differ k (Some u) None h = none_after (kept within (entry (k, u)))
  differ k (Some u) (Some v) h = differ_entry (entry (k, u)) (entry (k, v)) k u v (gives.of (k, u)) (gives.of (k, v)) h.0 h.1

  found_real : (k : Plain) (docs : List Document) (o : Option Plain) → find_by order k docs ≡ o → AreNoNulls docs → IsNoNull o
  found_real k docs None h all = tt
  found_real k docs (Some v) h all = real_at docs h all
    where
      real_at : (ds : List Document) → find_by order k ds ≡ Some v → AreNoNulls ds → is_null v ≡ false
      real_at [] g none = absurd (not_found v g)
      real_at (d ∷ ds) g none = real_in (same k d.0) d (find_by order k ds) g none.0 (λ f. real_at ds f none.1)
        where
          real_in : (b : Bool) (e : Document) (found : Option Plain) → cond b (Some e.1) found ≡ Some v → is_null e.1 ≡ false → (found ≡ Some v → is_null v ≡ false) → is_null v ≡ false
          real_in true e found f n on = ap is_null (sym (some_inside e.1 v f)) ∙ n
          real_in false e found f n on = on f

  apart_move : (n : ℕ) (docs : List Document) (k : Plain) (o p : Option Plain) → find_by order k docs ≡ o → Apart o p → AreRisingBy order docs → AreNoNulls docs → IsNoNull p
      → IsOneMove (take n (chosen docs)) (take n (chosen (changed k p docs)))
  apart_move n docs k o p is h up all real =
      let rest : List Document = without_by order k docs in
      let here : Holds k o rest docs = before_at o k docs is in
      let none : held key k (chosen rest) ≡ 0 = omega (arith, count_chosen key k rest, stand_none k rest (gone_by k docs up)) in
      let single_rest : Single (chosen rest) = record {
        once = λ q. omega (arith, count_chosen key q rest, stand_once q rest (by_key.rising_without order order_total k docs up));
        full = omega (arith, count_chosen doc null rest, stand_rest doc null k o rest docs here, no_nulls docs all);
      } in
      moves_one n (chosen rest) (chosen docs) (chosen (changed k p docs)) (mine k o) (mine k p)
      (near_chosen k o rest docs here) (near_chosen k p rest (changed k p docs) (after p k docs up))
      (away k o (chosen rest) none (found_real k docs o is all)) (away k p (chosen rest) none real)
      (differ k o p h) single_rest
    where
      gone_by : (q : Plain) (ds : List Document) → AreRisingBy order ds → find_by order q (without_by order q ds) ≡ None
      gone_by q ds rising = find_without ds q q rising ∙ ap (λ b. if b then None else find_by order q ds) (same_itself q)

  all_moves : (n : ℕ) (docs : List Document) (k : Plain) (o p : Option Plain) → find_by order k docs ≡ o → AreRisingBy order docs → AreNoNulls docs → IsNoNull p
      → IsOneMove (take n (chosen docs)) (take n (chosen (changed k p docs)))
  all_moves n docs k None p is up all real = apart_move n docs k None p is tt up all real
  all_moves n docs k (Some u) None is up all real = apart_move n docs k (Some u) None is tt up all real
  all_moves n docs k (Some u) (Some v) is up all real =
      elim (same_or u v) [
        | inl e ↦ no_move (take n (chosen docs)) (take n (chosen (put_by order k v docs))) (ap (λ t. take n (chosen t)) (sym (same_put docs k v up (is ∙ ap (λ t. Some t) e))))
        | inr ne ↦ apart_move n docs k (Some u) (Some v) is (ne, same_flip u v ne) up all real
      ]

pub indexes_move : IndexesMoveOne
indexes_move i within down off n docs c up all real =
    all_moves (λ ds. index_list ds i) (λ m. first (document_entries i m)) (by_index i off) within down n docs c.0 (find_by order c.0 docs) c.1 refl up all real

pub keys_move : KeysMoveOne
keys_move within down n docs c up all real =
    all_moves primary (λ m. Some (m.0, m)) by_primary within down n docs c.0 (find_by order c.0 docs) c.1 refl up all real
