-- The index list of a table after a change of one document is the index list before it, edited.
use Rattle.std.proofs.Common.{◌≡◌, List, [], ◌∷◌, Bool, true, false, cond, Option, Some, None, Ordering, Less, Equal, Greater, is_eq, refl, sym, ap, ◌∙◌}
use Rattle.std.specs.List.Sorted.{IsStrictlySortedBy}
use Rattle.std.specs.Ordering.{match_ordering}
use Rattle.reql_datum.specs.Plain.{Plain, array, item, no_items}
use Rattle.reql_datum.specs.Order.{order}
use Rattle.reql_datum.specs.Total.{order_total}
use Rattle.reql_memory.specs.Sorted.{AreRisingBy, find_by, put_by, without_by}
use Rattle.reql_datum.proofs.Laws.{equal_is}
use Rattle.reql_memory.proofs.Sorted.{rising_put, rising_without, rising_rest, rising_nil, not_later}
use Rattle.reql_feed_limit.specs.Selection.{Element, Spot, set_by, entered, index_list}
use Rattle.reql_term.specs.Views.{Index}
use Rattle.reql_value_spec.specs.Index.{entries}
use Rattle.reql_feed_limit.specs.Order.{entry_pair, spot_of}
use Rattle.reql_feed_limit.specs.Edits.{with_gone, with_come, edited, pair_at, paired, element_at, Keyed}
use Rattle.reql_feed_limit.proofs.Maps.{Strict, same_key, find_put, find_low, find_head, itself}
use Rattle.reql_feed_limit.proofs.Edits.{put_put, put_without, without_put}

pub plain_strict : Strict order
plain_strict = record { total = order_total; one = λ a b h. (equal_is a b).0 h }

some_inside : (x y : Plain) → Some x ≡ Some y → x ≡ y
some_inside x y is = cc

some_same : (a b p : Plain) → Some a ≡ Some p → Some b ≡ Some p → a ≡ b
some_same a b p h g = cc

-- in the primary order, and in any index, the pair tells the primary key
abbrev last_of : Plain → Plain
last_of (array (item e (item k no_items))) = k
last_of v = v

pair_tells : (k : Plain) (vs : List Plain) (p : Plain) → entry_pair k vs ≡ Some p → k ≡ last_of p
pair_tells k [] p h = cc
pair_tells k (v ∷ vs) p h = ap last_of (some_inside _ p h)

pub keyed_spot : (o : Option Index) → Keyed (spot_of o)
keyed_spot None = record { apart = λ k l d e p h g. some_same k l p h g }
keyed_spot (Some i) = record { apart = λ k l d e p h g. pair_tells k (entries i d) p h ∙ sym (pair_tells l (entries i e) p g) }

rising_entered : (o : Option Plain) (doc : Plain) (es : List Element) → AreRisingBy order es → AreRisingBy order (entered o doc es)
rising_entered None doc es up = up
rising_entered (Some p) doc es up = rising_put order order_total p doc es up

pub rising_index : (spot : Spot) (docs : List (Plain × Plain)) → AreRisingBy order (index_list spot docs)
rising_index spot [] = rising_nil order order_total Plain
rising_index spot (m ∷ ms) = rising_entered (spot m.0 m.1) m.1 (index_list spot ms) (rising_index spot ms)

cond_none : {V : Type 0} (b : Bool) (x : V) (f : Option V) → cond b (Some x) f ≡ None → (b ≡ true → ⊥) × (f ≡ None)
cond_none true x f h = cc
cond_none false x f h = ((λ g. cc), h)

absent_cond : {V : Type 0} (b : Bool) (x : V) (f : Option V) → (b ≡ true → ⊥) → f ≡ None → cond b (Some x) f ≡ None
absent_cond true x f ne h = absurd (ne refl)
absent_cond false x f ne h = h

come_entered : (o : Option Plain) (doc : Plain) (es : List Element) → entered o doc es ≡ with_come order (paired o doc) es
come_entered None doc es = refl
come_entered (Some p) doc es = refl

undo_entered : (o : Option Plain) (doc : Plain) (es : List Element) → AreRisingBy order es → ((p : Plain) → o ≡ Some p → find_by order p es ≡ None) → with_gone order o (entered o doc es) ≡ es
undo_entered None doc es up h = refl
undo_entered (Some p) doc es up h = without_put order plain_strict p doc es up (h p refl)

entered_gone : (o g : Option Plain) (doc : Plain) (es : List Element) → AreRisingBy order es → ((p q : Plain) → o ≡ Some p → g ≡ Some q → p ≡ q → ⊥) → entered o doc (with_gone order g es) ≡ with_gone order g (entered o doc es)
entered_gone None g doc es up ne = refl
entered_gone (Some p) None doc es up ne = refl
entered_gone (Some p) (Some q) doc es up ne = put_without order plain_strict p q doc es up (ne p q refl refl)

rising_gone : (g : Option Plain) (es : List Element) → AreRisingBy order es → AreRisingBy order (with_gone order g es)
rising_gone None es up = up
rising_gone (Some g) es up = rising_without order order_total g es up

entered_entered : (o c : Option Plain) (doc new : Plain) (es : List Element) → AreRisingBy order es → ((p q : Plain) → o ≡ Some p → c ≡ Some q → p ≡ q → ⊥) → entered o doc (with_come order (paired c new) es) ≡ with_come order (paired c new) (entered o doc es)
entered_entered None c doc new es up ne = refl
entered_entered (Some p) None doc new es up ne = refl
entered_entered (Some p) (Some q) doc new es up ne = put_put order plain_strict p q doc new es up (ne p q refl refl)

module _ (spot : Spot) (keyed : Keyed spot) where
  absent_at : (o : Option Plain) (k d p : Plain) (m : Plain × Plain) (es : List Element) → spot k d ≡ Some p → spot m.0 m.1 ≡ o → (k ≡ m.0 → ⊥) → find_by order p es ≡ None → find_by order p (entered o m.1 es) ≡ None
  absent_at None k d p m es is at ne none = none
  absent_at (Some r) k d p m es is at ne none = find_put order plain_strict es r m.1 p ∙ absent_cond (is_eq (order p r)) m.1 (find_by order p es) (λ here. ne (keyed.apart k m.0 d m.1 p is (at ∙ ap (λ t. Some t) (sym (same_key order plain_strict p r here))))) none

  -- no document but the one at its key stands under a pair
  pub absent : (k d p : Plain) → spot k d ≡ Some p → (docs : List (Plain × Plain)) → find_by order k docs ≡ None → find_by order p (index_list spot docs) ≡ None
  absent k d p is [] none = refl
  absent k d p is (m ∷ ms) none =
      let parts = cond_none (is_eq (order k m.0)) m.1 (find_by order k ms) none in
      absent_at (spot m.0 m.1) k d p m (index_list spot ms) is refl (λ e. parts.0 (ap (λ t. is_eq (order t m.0)) e ∙ ap is_eq (itself order plain_strict m.0))) (absent k d p is ms parts.1)

  gone_apart : (k : Plain) (old : Option Plain) (m : Plain × Plain) → (k ≡ m.0 → ⊥) → (p q : Plain) → spot m.0 m.1 ≡ Some p → pair_at spot k old ≡ Some q → p ≡ q → ⊥
  gone_apart k None m ne p q h g e = let f : None ≡ Some q = g in cc
  gone_apart k (Some d) m ne p q h g e = ne (keyed.apart k m.0 d m.1 p (g ∙ ap (λ t. Some t) (sym e)) h)

  differs : (k : Plain) (m : Plain × Plain) → is_eq (order k m.0) ≡ false → k ≡ m.0 → ⊥
  differs k m h e = let f : is_eq (order k m.0) ≡ true = ap (λ t. is_eq (order t m.0)) e ∙ ap is_eq (itself order plain_strict m.0) in cc

  undo_first : (k : Plain) (m : Plain × Plain) (ms : List (Plain × Plain)) → AreRisingBy order (m ∷ ms) → k ≡ m.0 → with_gone order (spot k m.1) (entered (spot m.0 m.1) m.1 (index_list spot ms)) ≡ index_list spot ms
  undo_first k m ms up e =
      rw e (undo_entered (spot m.0 m.1) m.1 (index_list spot ms) (rising_index spot ms) (λ p is. absent m.0 m.1 p is ms (not_later order order_total m.0 m.1 ms up)))

  without_at : (b : Bool) (k : Plain) (m : Plain × Plain) (ms : List (Plain × Plain)) → is_eq (order k m.0) ≡ b → AreRisingBy order (m ∷ ms)
      → index_list spot (without_by order k ms) ≡ with_gone order (pair_at spot k (find_by order k ms)) (index_list spot ms)
      → index_list spot (cond b ms (m ∷ without_by order k ms)) ≡ with_gone order (pair_at spot k (cond b (Some m.1) (find_by order k ms))) (index_list spot (m ∷ ms))
  without_at true k m ms is up on = sym (undo_first k m ms up (same_key order plain_strict k m.0 is))
  without_at false k m ms is up on =
      ap (entered (spot m.0 m.1) m.1) on ∙ entered_gone (spot m.0 m.1) (pair_at spot k (find_by order k ms)) m.1 (index_list spot ms) (rising_index spot ms) (gone_apart k (find_by order k ms) m (differs k m is))

  pub index_without : (k : Plain) (docs : List (Plain × Plain)) → AreRisingBy order docs → index_list spot (without_by order k docs) ≡ with_gone order (pair_at spot k (find_by order k docs)) (index_list spot docs)
  index_without k [] up = refl
  index_without k (m ∷ ms) up = without_at (is_eq (order k m.0)) k m ms refl up (index_without k ms (rising_rest order order_total m ms up))

  come_apart : (k new : Plain) (m : Plain × Plain) → (k ≡ m.0 → ⊥) → (p q : Plain) → spot m.0 m.1 ≡ Some p → spot k new ≡ Some q → p ≡ q → ⊥
  come_apart k new m ne p q h g e = ne (keyed.apart k m.0 new m.1 p (g ∙ ap (λ t. Some t) (sym e)) h)

  put_at : (o : Ordering) (k v : Plain) (m : Plain × Plain) (ms : List (Plain × Plain)) → order k m.0 ≡ o → AreRisingBy order (m ∷ ms)
      → index_list spot (put_by order k v ms) ≡ edited order (pair_at spot k (find_by order k ms)) (paired (spot k v) v) (index_list spot ms)
      → index_list spot (match_ordering o ((k, v) ∷ m ∷ ms) ((m.0, v) ∷ ms) (m ∷ put_by order k v ms)) ≡ edited order (pair_at spot k (find_by order k (m ∷ ms))) (paired (spot k v) v) (index_list spot (m ∷ ms))
  put_at Less k v m ms is up on =
      rw (find_low order plain_strict k m ms up is) (come_entered (spot k v) v (index_list spot (m ∷ ms)))
  put_at Equal k v m ms is up on =
      let e : k ≡ m.0 = plain_strict.one k m.0 is in
      rw (find_head order plain_strict k m ms e)
      (ap (λ t. entered (spot t v) v (index_list spot ms)) (sym e) ∙ come_entered (spot k v) v (index_list spot ms) ∙ ap (with_come order (paired (spot k v) v)) (sym (undo_first k m ms up e)))
  put_at Greater k v m ms is up on =
      let ne : k ≡ m.0 → ⊥ = differs k m (ap is_eq is) in
      ap (entered (spot m.0 m.1) m.1) on
      ∙ entered_entered (spot m.0 m.1) (spot k v) m.1 v (with_gone order (pair_at spot k (find_by order k ms)) (index_list spot ms)) (rising_gone (pair_at spot k (find_by order k ms)) (index_list spot ms) (rising_index spot ms)) (come_apart k v m ne)
      ∙ ap (with_come order (paired (spot k v) v)) (entered_gone (spot m.0 m.1) (pair_at spot k (find_by order k ms)) m.1 (index_list spot ms) (rising_index spot ms) (gone_apart k (find_by order k ms) m ne))
      ∙ ap (λ b. edited order (pair_at spot k (cond b (Some m.1) (find_by order k ms))) (paired (spot k v) v) (index_list spot (m ∷ ms))) (sym (ap is_eq is))

  index_put : (k v : Plain) (docs : List (Plain × Plain)) → AreRisingBy order docs → index_list spot (put_by order k v docs) ≡ edited order (pair_at spot k (find_by order k docs)) (paired (spot k v) v) (index_list spot docs)
  index_put k v [] up = come_entered (spot k v) v []
  index_put k v (m ∷ ms) up = put_at (order k m.0) k v m ms refl up (index_put k v ms (rising_rest order order_total m ms up))

  -- the index list after a change of the document at a key
  pub index_changed : (k : Plain) (new : Option Plain) (docs : List (Plain × Plain)) → AreRisingBy order docs
      → index_list spot (set_by order k new docs) ≡ edited order (pair_at spot k (find_by order k docs)) (element_at spot k new) (index_list spot docs)
  index_changed k None docs up = index_without k docs up
  index_changed k (Some v) docs up = index_put k v docs up

put_first : (m : Plain × Plain) (ms : List (Plain × Plain)) → AreRisingBy order (m ∷ ms) → put_by order m.0 m.1 ms ≡ m ∷ ms
unfolding IsStrictlySortedBy
put_first m [] up = refl
put_first m (n ∷ ns) up = rw (up.0.0) refl

-- in the primary order the index list is the documents
pub primary_is : (docs : List (Plain × Plain)) → AreRisingBy order docs → index_list (spot_of None) docs ≡ docs
primary_is [] up = refl
primary_is (m ∷ ms) up = ap (put_by order m.0 m.1) (primary_is ms (rising_rest order order_total m ms up)) ∙ put_first m ms up
