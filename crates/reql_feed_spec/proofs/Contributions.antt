-- A range feed's value is the in_order union of what each document adds, so one change touches one document's part.
use Rattle.std.proofs.Common.{◌≡◌, ◌+◌, List, [], ◌∷◌, ◌++◌, Option, Some, None, Ok, Err, Bool, true, false, cond, refl, sym, ap, ◌∙◌, arith, Ordering, Less, Equal, Greater}
use Rattle.std.specs.Prelude.{is_ok}
use Rattle.std.specs.List.{AllByRecursion, filter, flat_map}
use Rattle.std.specs.Ordering.{is_eq, match_ordering}
use Rattle.reql_datum.specs.Answer.{Answer}
use Rattle.reql_datum.specs.Plain.{Plain}
use Rattle.reql_datum.specs.Order.{order}
use Rattle.reql_memory.specs.Sorted.{AreRisingBy, find_by, put_by, without_by}
use Rattle.reql_datum.specs.Total.{order_total}
use Rattle.reql_memory.proofs.Sorted as by_key
use Rattle.reql_bag.specs.Bag.{times, IsRising, in_order, less_all}
use Rattle.reql_feed_spec.specs.Items.{range_items}
use Rattle.reql_feed_spec.specs.Value.{changed, is_showable, is_good, range_value, shown_alone, contribution, contribution_at}
use Rattle.reql_bag.proofs.Bags.{same_is, times_append, times_sorted, times_less_all}
use Rattle.reql_bag.proofs.Rising.{rising_sorted, rising_less_all, by_counts, sorted_counts}
use Rattle.reql_term.specs.Views.{Document}
use Rattle.reql_value_spec.specs.Shapes.{IsByDocument, answered}

showable_ok : (a : Answer (List Plain)) → is_showable a ≡ true → is_ok a ≡ true
showable_ok (Ok vs) h = refl
showable_ok (Err e) h = absurd (cc (h))

module _ (shape : List Document → Answer (List Plain)) where
  goods_at : (b : Bool) (row : Document) (rest : List Document) → is_good shape row ≡ b → AllByRecursion (λ r. is_ok (shape (r ∷ [])) ≡ true) rest → AllByRecursion (λ r. is_ok (shape (r ∷ [])) ≡ true) (cond b (row ∷ rest) rest)
  goods_at true row rest is all = (showable_ok (shape (row ∷ [])) is, all)
  goods_at false row rest is all = all

  goods : (docs : List Document) → AllByRecursion (λ r. is_ok (shape (r ∷ [])) ≡ true) (filter (is_good shape) docs)
  goods [] = tt
  goods (d ∷ ds) = goods_at (is_good shape d) d (filter (is_good shape) ds) refl (goods ds)

  abbrev alone : Document → List Plain
  alone row = answered (shape (row ∷ []))

  -- the union of what each document adds
  abbrev pub union : List Document → List Plain
  union = flat_map (contribution shape)

  union_at : (b : Bool) (v : Plain) (row : Document) (rest : List Document) (more : List Plain) → times v (flat_map alone rest) ≡ times v more
      → times v (flat_map alone (cond b (row ∷ rest) rest)) ≡ times v (in_order (cond b (alone row) []) ++ more)
  union_at true v row rest more h = omega (arith, times_append v (alone row) (flat_map alone rest), times_append v (in_order (alone row)) more, times_sorted v (alone row), h)
  union_at false v row rest more h = h

  times_union : (v : Plain) (docs : List Document) → times v (flat_map alone (filter (is_good shape) docs)) ≡ times v (union docs)
  times_union v [] = refl
  times_union v (d ∷ ds) = union_at (is_good shape d) v d (filter (is_good shape) ds) (union ds) (times_union v ds)

  pub value_is_union : IsByDocument shape → (docs : List Document) → range_value shape docs ≡ in_order (union docs)
  value_is_union by docs =
      sorted_counts (answered (shape (filter (is_good shape) docs))) (union docs)
      (λ v. by (filter (is_good shape) docs) (goods docs) v ∙ times_union v docs)

  pub rising_contribution : (key : Plain) (doc : Option Plain) → IsRising (contribution_at shape key doc)
  rising_contribution key None = tt
  rising_contribution key (Some doc) = rising_sorted (shown_alone shape (key, doc))

  pub rising_value : (docs : List Document) → IsRising (range_value shape docs)
  rising_value docs = rising_sorted (answered (shape (filter (is_good shape) docs)))

  -- ---- one document's part
  part_at : (b : Bool) (v key : Plain) (m : Document) (ms rest : List Document) (found : Option Plain) → is_eq (order key m.0) ≡ b
      → times v (union ms) ≡ times v (contribution_at shape key found) + times v (union rest)
      → times v (union (m ∷ ms)) ≡ times v (contribution_at shape key (cond b (Some m.1) found)) + times v (union (cond b ms (m ∷ rest)))
  part_at true v key m ms rest found is h =
      let e : key ≡ m.0 = same_is key m.0 is in
      let same_part : times v (contribution shape (key, m.1)) ≡ times v (contribution shape m) = ap (λ k. times v (contribution shape (k, m.1))) e in
      omega (arith, times_append v (contribution shape m) (union ms), same_part)
  part_at false v key m ms rest found is h =
      omega (arith, times_append v (contribution shape m) (union ms), times_append v (contribution shape m) (union rest), h)

  pub part_of : (v key : Plain) (docs : List Document) → times v (union docs) ≡ times v (contribution_at shape key (find_by order key docs)) + times v (union (without_by order key docs))
  part_of v key [] = refl
  part_of v key (m ∷ ms) = part_at (is_eq (order key m.0)) v key m ms (without_by order key ms) (find_by order key ms) refl (part_of v key ms)

  put_part_at : (o : Ordering) (v key doc : Plain) (m : Document) (ms : List Document) → order key m.0 ≡ o → AreRisingBy order (m ∷ ms)
      → times v (union (put_by order key doc ms)) ≡ times v (contribution shape (key, doc)) + times v (union (without_by order key ms))
      → times v (union (match_ordering o ((key, doc) ∷ m ∷ ms) ((m.0, doc) ∷ ms) (m ∷ put_by order key doc ms))) ≡ times v (contribution shape (key, doc)) + times v (union (cond (is_eq o) ms (m ∷ without_by order key ms)))
  put_part_at Less v key doc m ms is up h =
      let none : find_by order key (m ∷ ms) ≡ None = by_key.find_gap order order_total (m ∷ ms) key 0 up is in
      let stays : without_by order key (m ∷ ms) ≡ m ∷ ms = by_key.without_gap order order_total (m ∷ ms) key none in
      let below : is_eq (order key m.0) ≡ false = ap is_eq is in
      let same_rest : m ∷ without_by order key ms ≡ m ∷ ms = rw below at stays in
      times_append v (contribution shape (key, doc)) (union (m ∷ ms)) ∙ ap (λ t. times v (contribution shape (key, doc)) + times v (union t)) (sym same_rest)
  put_part_at Equal v key doc m ms is up h =
      let e : key ≡ m.0 = same_is key m.0 (ap is_eq is) in
      let same_part : times v (contribution shape (key, doc)) ≡ times v (contribution shape (m.0, doc)) = ap (λ k. times v (contribution shape (k, doc))) e in
      omega (arith, times_append v (contribution shape (m.0, doc)) (union ms), same_part)
  put_part_at Greater v key doc m ms is up h =
      omega (arith, times_append v (contribution shape m) (union (put_by order key doc ms)), times_append v (contribution shape m) (union (without_by order key ms)), h)

  pub put_part : (v key doc : Plain) (docs : List Document) → AreRisingBy order docs
      → times v (union (put_by order key doc docs)) ≡ times v (contribution shape (key, doc)) + times v (union (without_by order key docs))
  put_part v key doc [] up = times_append v (contribution shape (key, doc)) []
  put_part v key doc (m ∷ ms) up = put_part_at (order key m.0) v key doc m ms refl up (put_part v key doc ms (by_key.rising_rest order order_total m ms up))

  pub part_after : (v key : Plain) (new : Option Plain) (docs : List Document) → AreRisingBy order docs
      → times v (union (changed key new docs)) ≡ times v (contribution_at shape key new) + times v (union (without_by order key docs))
  part_after v key None docs up = omega arith
  part_after v key (Some doc) docs up = put_part v key doc docs up

  -- the items of a change are those of the changed document's part
  pub change_of_part : IsByDocument shape → (key : Plain) (old new : Option Plain) (docs : List Document) → AreRisingBy order docs → find_by order key docs ≡ old
      → range_items (range_value shape docs) (range_value shape (changed key new docs)) ≡ range_items (contribution_at shape key old) (contribution_at shape key new)
  change_of_part by key old new docs up is =
      let before : List Plain = range_value shape docs in
      let after : List Plain = range_value shape (changed key new docs) in
      let first : (v : Plain) → times v before ≡ times v (contribution_at shape key old) + times v (union (without_by order key docs)) =
      λ v. ap (times v) (value_is_union by docs) ∙ times_sorted v (union docs) ∙ part_of v key docs ∙ ap (λ t. times v (contribution_at shape key t) + times v (union (without_by order key docs))) is in
      let last : (v : Plain) → times v after ≡ times v (contribution_at shape key new) + times v (union (without_by order key docs)) =
      λ v. ap (times v) (value_is_union by (changed key new docs)) ∙ times_sorted v (union (changed key new docs)) ∙ part_after v key new docs up in
      let left : less_all before after ≡ less_all (contribution_at shape key old) (contribution_at shape key new) =
      by_counts (less_all before after) (less_all (contribution_at shape key old) (contribution_at shape key new))
      (rising_less_all before after (rising_value docs)) (rising_less_all (contribution_at shape key old) (contribution_at shape key new) (rising_contribution key old))
      (λ v. omega (arith, times_less_all v before after, times_less_all v (contribution_at shape key old) (contribution_at shape key new), first v, last v)) in
      let came : less_all after before ≡ less_all (contribution_at shape key new) (contribution_at shape key old) =
      by_counts (less_all after before) (less_all (contribution_at shape key new) (contribution_at shape key old))
      (rising_less_all after before (rising_value (changed key new docs))) (rising_less_all (contribution_at shape key new) (contribution_at shape key old) (rising_contribution key new))
      (λ v. omega (arith, times_less_all v after before, times_less_all v (contribution_at shape key new) (contribution_at shape key old), first v, last v)) in
      rw (left, came) refl
