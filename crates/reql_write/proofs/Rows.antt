-- A selection is evaluated with its one slot; and all keys of a table are those of its whole range.
use Rattle.std.proofs.Common.{◌≡◌, refl, ap, sym, ◌∙◌, ℕ, nat_eq, length, true, false, ◌&&◌, if◌then◌else◌, List, [], ◌∷◌, Some, option_map, Ok}
use Rattle.std.specs.Map.{keys_of}
use Rattle.std.specs.Ordering.{is_le}
use Rattle.reql_datum.specs.Order.{order}
use Rattle.reql_datum.specs.Plain.{Plain, low, array, boolean, null, number, object, binary, time, text, high}
use Rattle.reql_memory.proofs.Sorted.{some_inside}
use Rattle.reql_term.specs.Form.{Form}
use Rattle.reql_term.specs.Views.{Document, Entry, Index, beside, seen_beside, entries_in, entries_of, entries_between, primary, ranged, values_in}
use Rattle.reql_term.specs.declared.range.Range.{Range}
use Rattle.reql_term.specs.declared.view.Entries.{Entries}
use Rattle.reql_rules.specs.Lists.{Bytes}
use Rattle.reql_write_spec.specs.Selecting.{is_chain, is_selection, slots, selected}
use Rattle.reql_write.specs.Selecting.{selected_at, SelectsIn, IsWhole}

-- ---- the slot
pub no_chain : (f : Form) → is_chain f ≡ false → is_selection f ≡ false
no_chain f h = ap (λ b. b && nat_eq (length (slots f)) 1) h

pub one_slot : (f : Form) (n : ℕ) → is_chain f ≡ true → slots f ≡ n ∷ [] → SelectsIn f (Some n)
one_slot f n h is = (rw (h, is) refl, is)

-- ---- the rows
pub none_selected : (field : Bytes) (docs : List Document) (indexes : List (Bytes × Index)) (f : Form) → is_selection f ≡ false → selected field docs indexes f ≡ Ok []
none_selected field docs indexes f h = rw h refl

pub some_selected : (field : Bytes) (docs : List Document) (indexes : List (Bytes × Index)) (f : Form) (n : ℕ) → is_selection f ≡ true → slots f ≡ n ∷ [] → selected field docs indexes f ≡ selected_at field docs indexes (n ∷ []) f
some_selected field docs indexes f n h is = rw h (ap (λ ns. selected_at field docs indexes ns f) is)

-- ---- the keys of a table
least_is : (k : Plain) → is_le (order low k) ≡ true
least_is low = refl
least_is (array vs) = refl
least_is (boolean b) = refl
least_is null = refl
least_is (number n) = refl
least_is (object ms) = refl
least_is (binary s) = refl
least_is (time t) = refl
least_is (text s) = refl
least_is high = refl

highest_is : (k : Plain) → is_le (order k high) ≡ true
highest_is low = refl
highest_is (array vs) = refl
highest_is (boolean b) = refl
highest_is null = refl
highest_is (number n) = refl
highest_is (object ms) = refl
highest_is (binary s) = refl
highest_is (time t) = refl
highest_is (text s) = refl
highest_is high = refl

all_between : (docs : List Document) → values_in (entries_between low false high false false (primary docs)) ≡ keys_of docs
all_between [] = refl
all_between (m ∷ docs) =
    (λ i. values_in (if least_is m.0 i && highest_is m.0 i then (m.0, m) ∷ entries_between low false high false false (primary docs) else entries_between low false high false false (primary docs)))
    ∙ ap (λ ks. m.0 ∷ ks) (all_between docs)

ranged_whole : (r : Range) (es : List Entry) → IsWhole r → ranged r es ≡ entries_between low false high false false es
ranged_whole r es h = rw (h.least, h.with_least, h.highest, h.with_highest, h.up) refl

pub all_keys : (docs : List Document) (indexes : List (Bytes × Index)) (entries : Bytes → List Entry) (r : Range) (e : Entries) → IsWhole r → option_map beside (entries_in docs indexes entries r) ≡ Some (seen_beside e) → e.values ≡ keys_of docs
all_keys docs indexes entries r e h is =
    sym (ap (λ (p : List Plain × List Plain). p.0) (some_inside (beside (ranged r (primary docs))) (seen_beside e) (sym (ap (λ i. option_map beside (option_map (ranged r) (entries_of docs indexes entries i))) h.primary) ∙ is)))
    ∙ ap values_in (ranged_whole r (primary docs) h) ∙ all_between docs
