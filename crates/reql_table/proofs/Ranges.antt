-- A range of the entries of an index is one of the keys of its tree.
use Rattle.std.proofs.Common.{◌≡◌, List, [], ◌∷◌, map, Bool, true, false, not, ◌&&◌, cond, if◌then◌else◌, refl, sym, ap, ◌∙◌, Ordering, Less, Equal, Greater}
use Rattle.std.specs.List.{filter}
use Rattle.std.specs.Ordering.{is_lt, is_le, is_eq, ordering_reverse, ordering_then}
use Rattle.reql_datum.specs.Order.{order}
use Rattle.reql_datum.specs.Plain.{Plain, low, array, boolean, null, number, object, binary, time, text, high}
use Rattle.reql_datum.specs.Total.{order_total}
use Rattle.reql_datum.specs.View.{plain}
use Rattle.reql_term.specs.Views.{Document, Entry, is_above, is_below, primary, directed, ranged}
use Rattle.reql_term.specs.declared.range.Range.{Range}
use Rattle.reql_ptree.specs.Next.{is_behind, behind}
use Rattle.reql_ptree.specs.Range.{lies_within}
use Rattle.reql_table.specs.Keys.{key_of, pair_of, pairs_of, entry_in, before, after, low_end, high_end}
use Rattle.reql_table.specs.Seen.{of_value}

-- ---- nothing is above the highest
last_is : (k : Plain) → ordering_then (order high k) Greater ≡ Greater
last_is low = refl
last_is (array vs) = refl
last_is (boolean b) = refl
last_is null = refl
last_is (number n) = refl
last_is (object ms) = refl
last_is (binary s) = refl
last_is (time t) = refl
last_is (text s) = refl
last_is high = refl

before_is : (v : Plain) (e : Entry) → order (before v) (key_of e) ≡ ordering_then (order v e.0) Less
before_is v e = refl

after_is : (v : Plain) (e : Entry) → order (after v) (key_of e) ≡ ordering_then (order v e.0) Greater
after_is v e = ap (ordering_then (order v e.0)) (last_is e.1.0)

-- ---- one end
starts_closed : (o : Ordering) → not (is_behind false (ordering_then o Less)) ≡ is_le o
starts_closed Less = refl
starts_closed Equal = refl
starts_closed Greater = refl

starts_open : (o : Ordering) → not (is_behind false (ordering_then o Greater)) ≡ is_lt o
starts_open Less = refl
starts_open Equal = refl
starts_open Greater = refl

starts : (is_open : Bool) (v : Plain) (e : Entry) → not (behind (low_end is_open v) false (pair_of e)) ≡ is_above is_open v e.0
starts true v e = ap (λ o. not (is_behind false o)) (after_is v e) ∙ starts_open (order v e.0)
starts false v e = ap (λ o. not (is_behind false o)) (before_is v e) ∙ starts_closed (order v e.0)

ends_closed : (o : Ordering) → is_behind true (ordering_then o Greater) ≡ is_le (ordering_reverse o)
ends_closed Less = refl
ends_closed Equal = refl
ends_closed Greater = refl

ends_open : (o : Ordering) → is_behind true (ordering_then o Less) ≡ is_lt (ordering_reverse o)
ends_open Less = refl
ends_open Equal = refl
ends_open Greater = refl

ends : (is_open : Bool) (v : Plain) (e : Entry) → behind (high_end is_open v) true (pair_of e) ≡ is_below is_open v e.0
ends true v e = ap (is_behind true) (before_is v e) ∙ ends_open (order v e.0) ∙ ap is_lt (sym (order_total.antisymm e.0 v))
ends false v e = ap (is_behind true) (after_is v e) ∙ ends_closed (order v e.0) ∙ ap is_le (sym (order_total.antisymm e.0 v))

-- ---- of the keys themselves
key_starts : (is_open : Bool) (o : Ordering) → not (is_behind is_open o) ≡ (if is_open then is_lt o else is_le o)
key_starts true Less = refl
key_starts true Equal = refl
key_starts true Greater = refl
key_starts false Less = refl
key_starts false Equal = refl
key_starts false Greater = refl

key_ends : (is_open : Bool) (o : Ordering) → is_behind (not is_open) o ≡ (if is_open then is_lt (ordering_reverse o) else is_le (ordering_reverse o))
key_ends true Less = refl
key_ends true Equal = refl
key_ends true Greater = refl
key_ends false Less = refl
key_ends false Equal = refl
key_ends false Greater = refl

below_is : (is_open : Bool) (v k : Plain) → behind v (not is_open) (k, k) ≡ is_below is_open v k
below_is true v k = key_ends true (order v k) ∙ ap is_lt (sym (order_total.antisymm k v))
below_is false v k = key_ends false (order v k) ∙ ap is_le (sym (order_total.antisymm k v))

-- ---- kept pairs and kept entries
module _ (p : Plain × Plain → Bool) (q : Entry → Bool) (back : Plain × Plain → Entry) (pair : Entry → Plain × Plain) (same : (e : Entry) → p (pair e) ≡ q e) (again : (e : Entry) → back (pair e) ≡ e) where
  kept_at : (a b : Bool) (e : Entry) (ms : List (Plain × Plain)) (es : List Entry) → a ≡ b → map back ms ≡ es → map back (cond a (pair e ∷ ms) ms) ≡ cond b (e ∷ es) es
  kept_at true true e ms es s ih = λ i. again e i ∷ ih i
  kept_at true false e ms es s ih = cc
  kept_at false true e ms es s ih = cc
  kept_at false false e ms es s ih = ih

  kept : (es : List Entry) → map back (filter p (map pair es)) ≡ filter q es
  kept [] = refl
  kept (e ∷ es) = kept_at (p (pair e)) (q e) e (filter p (map pair es)) (filter q es) (same e) (kept es)

index_kept : (lo ho : Bool) (l h : Plain) (es : List Entry)
    → map (entry_in true) (filter (lies_within (low_end lo l) false (high_end ho h) false) (pairs_of es)) ≡ filter (λ e. is_above lo l e.0 && is_below ho h e.0) es
index_kept lo ho l h es =
    kept (lies_within (low_end lo l) false (high_end ho h) false) (λ e. is_above lo l e.0 && is_below ho h e.0) (entry_in true) pair_of
    (λ e i. starts lo l e i && ends ho h e i) (λ e. refl) es

abbrev with_document : Entry → Plain × Plain
with_document e = (e.0, e.1.1)

primary_same : (lo ho : Bool) (l h : Plain) (m : Document) → lies_within l lo h ho m ≡ (is_above lo l m.0 && is_below ho h m.0)
primary_same lo ho l h m = λ i. key_starts lo (order l m.0) i && below_is ho h m.0 i

-- entries of the primary order are pairs
module _ (p : Document → Bool) (q : Entry → Bool) (same : (m : Document) → p m ≡ q (m.0, m)) where
  own_at : (a b : Bool) (m : Document) (ms : List Document) (es : List Entry) → a ≡ b → map (entry_in false) ms ≡ es → map (entry_in false) (cond a (m ∷ ms) ms) ≡ cond b ((m.0, m) ∷ es) es
  own_at true true m ms es s ih = ap (λ t. (m.0, m) ∷ t) ih
  own_at true false m ms es s ih = cc
  own_at false true m ms es s ih = cc
  own_at false false m ms es s ih = ih

  own : (ms : List Document) → map (entry_in false) (filter p ms) ≡ filter q (primary ms)
  own [] = refl
  own (m ∷ ms) = own_at (p m) (q (m.0, m)) m (filter p ms) (filter q (primary ms)) (same m) (own ms)

primary_kept : (lo ho : Bool) (l h : Plain) (ms : List Document)
    → map (entry_in false) (filter (lies_within l lo h ho) ms) ≡ filter (λ e. is_above lo l e.0 && is_below ho h e.0) (primary ms)
primary_kept lo ho l h ms = own (lies_within l lo h ho) (λ e. is_above lo l e.0 && is_below ho h e.0) (primary_same lo ho l h) ms

pub index_range : (r : Range) (es : List Entry) (l h : Plain) (ms : List (Plain × Plain)) → ms ≡ pairs_of es → l ≡ low_end r.low.is_open (plain r.low.value) → h ≡ high_end r.high.is_open (plain r.high.value)
    → directed r.down (map (entry_in true) (filter (lies_within l false h false) ms)) ≡ ranged r es
index_range r es l h ms e low_is high_is =
    rw (e, low_is, high_is) (ap (directed r.down) (index_kept r.low.is_open r.high.is_open (plain r.low.value) (plain r.high.value) es))

pub primary_range : (r : Range) (l h : Plain) (ms : List Document) → l ≡ plain r.low.value → h ≡ plain r.high.value
    → directed r.down (map (entry_in false) (filter (lies_within l r.low.is_open h r.high.is_open) ms)) ≡ ranged r (primary ms)
primary_range r l h ms low_is high_is =
    rw (low_is, high_is) (ap (directed r.down) (primary_kept r.low.is_open r.high.is_open (plain r.low.value) (plain r.high.value) ms))

-- ---- one value
at_value : (o : Ordering) → (not (is_behind false (ordering_then o Less)) && is_behind true (ordering_then o Greater)) ≡ is_eq o
at_value Less = refl
at_value Equal = refl
at_value Greater = refl

at_key : (o : Ordering) → (not (is_behind false o) && is_behind true o) ≡ is_eq o
at_key Less = refl
at_key Equal = refl
at_key Greater = refl

value_same : (k : Plain) (e : Entry) → lies_within (before k) false (after k) false (pair_of e) ≡ is_eq (order k e.0)
value_same k e = (λ i. not (is_behind false (before_is k e i)) && is_behind true (after_is k e i)) ∙ at_value (order k e.0)

pub index_key : (k l h : Plain) (es : List Entry) (ms : List (Plain × Plain)) → ms ≡ pairs_of es → l ≡ before k → h ≡ after k → map (entry_in true) (filter (lies_within l false h false) ms) ≡ of_value k es
index_key k l h es ms e low_is high_is =
    rw (e, low_is, high_is) (kept (lies_within (before k) false (after k) false) (λ e. is_eq (order k e.0)) (entry_in true) pair_of (value_same k) (λ e. refl) es)

pub primary_key : (k l h : Plain) (ms : List Document) → l ≡ k → h ≡ k → map (entry_in false) (filter (lies_within l false h false) ms) ≡ of_value k (primary ms)
primary_key k l h ms low_is high_is =
    rw (low_is, high_is) (own (lies_within k false k false) (λ e. is_eq (order k e.0)) (λ m. at_key (order k m.0)) ms)
