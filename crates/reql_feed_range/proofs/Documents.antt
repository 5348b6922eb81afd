-- All documents of a table, by the entries of its primary order.
use Rattle.std.proofs.Common.{◌≡◌, ℕ, zero, suc, ◌+◌, List, [], ◌∷◌, ◌++◌, drop, Bool, true, false, ◌&&◌, cond, Option, Some, option_map, refl, sym, ap, ◌∙◌, add-one, append_assoc}
use Rattle.std.specs.List.{filter, flat_map, zip}
use Rattle.reql_datum.specs.Plain.{Plain, low, high, array, boolean, null, number, object, binary, time, text}
use Rattle.reql_bag.specs.Bag.{in_order}
use Rattle.reql_term.specs.Views.{Document, Entry, primary, is_above, is_below, values_in, documents_in, beside}
use Rattle.reql_feed_spec.specs.Feeds.{opened_from}
use Rattle.reql_feed_spec.specs.Shown.{Shows, opening}
use Rattle.reql_feed_spec.specs.Value.{Shape, contribution, range_value}
use Rattle.reql_feed_spec.proofs.Contributions.{value_is_union}
use Rattle.reql_feed_read.specs.Follows.{shape_of}
use Rattle.reql_feed_read.specs.declared.shape.RangeShape.{RangeShape}
use Rattle.reql_feed_range.proofs.Changes.{by_document}

above_low : (k : Plain) → is_above false low k ≡ true
above_low low = refl
above_low (array vs) = refl
above_low (boolean b) = refl
above_low null = refl
above_low (number n) = refl
above_low (object ms) = refl
above_low (binary s) = refl
above_low (time t) = refl
above_low (text s) = refl
above_low high = refl

below_high : (k : Plain) → is_below false high k ≡ true
below_high low = refl
below_high (array vs) = refl
below_high (boolean b) = refl
below_high null = refl
below_high (number n) = refl
below_high (object ms) = refl
below_high (binary s) = refl
below_high (time t) = refl
below_high (text s) = refl
below_high high = refl

abbrev lies_within : Entry → Bool
lies_within e = is_above false low e.0 && is_below false high e.0

pub all_lie : (docs : List Document) → filter lies_within (primary docs) ≡ primary docs
all_lie [] = refl
all_lie (m ∷ ms) =
    (λ i. cond (above_low m.0 i && below_high m.0 i) ((m.0, m) ∷ filter lies_within (primary ms)) (filter lies_within (primary ms)))
    ∙ ap (λ t. (m.0, m) ∷ t) (all_lie ms)

zip_primary : (docs : List Document) → zip (values_in (primary docs)) (documents_in (primary docs)) ≡ docs
zip_primary [] = refl
zip_primary (m ∷ ms) = ap (λ t. m ∷ t) (zip_primary ms)

some_is : {X : Type 0} (x y : X) → Some x ≡ Some y → x ≡ y
some_is x y e = cc

pub all_zipped : (docs : List Document) (there : Option (List Entry)) (values documents : List Plain) → there ≡ Some (primary docs) → option_map beside there ≡ Some (values, documents) → zip values documents ≡ docs
all_zipped docs there values documents all e =
    ap (λ p. zip p.0 p.1) (sym (some_is (beside (primary docs)) (values, documents) (sym (ap (option_map beside) all) ∙ e))) ∙ zip_primary docs

-- ---- a walk over two lists
no_zip : (xs : List Plain) → zip {K = Plain} {X = Plain} xs [] ≡ []
no_zip [] = refl
no_zip (x ∷ xs) = refl

nil_zip : (ys : List Plain) → zip {K = Plain} {X = Plain} [] ys ≡ []
nil_zip [] = refl
nil_zip (y ∷ ys) = refl

pub drop_zip : (p : ℕ) (xs ys : List Plain) → drop p (zip xs ys) ≡ zip (drop p xs) (drop p ys)
drop_zip zero xs ys = refl
drop_zip (suc p) [] ys = ap (drop (suc p)) (nil_zip ys) ∙ sym (nil_zip (drop (suc p) ys))
drop_zip (suc p) (x ∷ xs) [] = sym (no_zip (drop p xs))
drop_zip (suc p) (x ∷ xs) (y ∷ ys) = drop_zip p xs ys

pub zip_ends : (p : ℕ) (xs ys : List Plain) → drop p xs ≡ [] → drop p (zip xs ys) ≡ []
zip_ends p xs ys e = drop_zip p xs ys ∙ ap (λ t. zip t (drop p ys)) e ∙ nil_zip (drop p ys)

pub zip_stops : (p : ℕ) (xs ys : List Plain) → drop p ys ≡ [] → drop p (zip xs ys) ≡ []
zip_stops p xs ys e = drop_zip p xs ys ∙ ap (zip (drop p xs)) e ∙ no_zip (drop p xs)

pub zip_goes : (p : ℕ) (xs ys : List Plain) (x y : Plain) → drop p xs ≡ x ∷ drop (p + 1) xs → drop p ys ≡ y ∷ drop (p + 1) ys → drop p (zip xs ys) ≡ (x, y) ∷ drop (p + 1) (zip xs ys)
zip_goes p xs ys x y e f =
    drop_zip p xs ys ∙ ap (λ t. zip t (drop p ys)) e ∙ ap (zip (x ∷ drop (p + 1) xs)) f ∙ ap (λ t. (x, y) ∷ t) (sym (drop_zip (p + 1) xs ys))

-- ---- the value
pub value_found : (shape : RangeShape) (docs all : List Document) (parts r : List Plain) → all ≡ docs → parts ≡ flat_map (contribution (shape_of shape)) all → r ≡ in_order parts → r ≡ range_value (shape_of shape) docs
value_found shape docs all parts r e p is = is ∙ ap in_order (p ∙ ap (flat_map (contribution (shape_of shape))) e) ∙ sym (value_is_union (shape_of shape) (by_document shape) docs)

-- ---- one step of a walk
pub part_more : (shape : Shape) (p : ℕ) (ms : List Document) (m : Document) (before after all : List Plain) → drop p ms ≡ m ∷ drop (p + 1) ms → after ≡ before ++ contribution shape m → before ++ flat_map (contribution shape) (drop p ms) ≡ all
    → after ++ flat_map (contribution shape) (drop (p + 1) ms) ≡ all
part_more shape p ms m before after all e now so_far =
    rw now (append_assoc before (contribution shape m) (flat_map (contribution shape) (drop (p + 1) ms)) ∙ ap (λ (t : List Document). before ++ flat_map (contribution shape) t) (sym e) ∙ so_far)

pub opened_more : (s : Shows) (p : ℕ) (vs : List Plain) (v : Plain) (before after all : List Plain) → drop p vs ≡ v ∷ drop (p + 1) vs → after ≡ before ++ opening s p v ∷ [] → before ++ opened_from s p (drop p vs) ≡ all
    → after ++ opened_from s (p + 1) (drop (p + 1) vs) ≡ all
opened_more s p vs v before after all e now so_far =
    let step : opened_from s p (drop p vs) ≡ opening s p v ∷ opened_from s (p + 1) (drop (p + 1) vs) = ap (opened_from s p) e ∙ ap (λ (t : ℕ). opening s p v ∷ opened_from s t (drop (p + 1) vs)) (sym (add-one p)) in
    rw now (append_assoc before (opening s p v ∷ []) (opened_from s (p + 1) (drop (p + 1) vs)) ∙ ap (λ (t : List Plain). before ++ t) (sym step) ∙ so_far)
