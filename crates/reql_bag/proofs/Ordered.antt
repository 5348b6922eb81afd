-- A list that was tested to rise is its sorting, and so is one that std sorted.
use Rattle.std.proofs.Common.{◌≡◌, ℕ, suc, ◌<◌, ◌≤◌, List, [], ◌∷◌, length, get_or, map, false, Result, Ok, Err, IfOk, refl, sym, ◌∙◌, arith}
use Rattle.std.specs.Ordering.{is_lt, on}
use Rattle.std.specs.List.{AllByRecursion, sum_by}
use Rattle.std.specs.List.Sorted.{IsPermutation, IsSorted}
use Rattle.std.proofs.lemmas.List.Sorted.{sorted_far, ranks_by, sum_by-IsPermutation}
use Rattle.std.proofs.lemmas.List.Recursion.{is_sum_by}
use Rattle.reql_datum.specs.Plain.{Plain}
use Rattle.reql_datum.specs.Order.{order}
use Rattle.reql_datum.specs.Total.{order_total}
use Rattle.reql_datum.specs.View.{plain}
use Rattle.reql_datum.specs.declared.datum.Datum.{Datum}
use Rattle.reql_bag.specs.Bag.{one, times, IsRising, in_order}
use Rattle.reql_bag.proofs.Bags.{times_sorted}
use Rattle.reql_bag.proofs.Rising.{all_up, rising_sorted, sorted_rising, by_counts}

-- a document that is not above the first of a rising list begins a rising list
pub rising_one : (x : Plain) → IsRising (x ∷ [])
rising_one x = (tt, tt)

pub rising_more : (x y : Plain) (ys zs : List Plain) → zs ≡ y ∷ ys → is_lt (order y x) ≡ false → IsRising (y ∷ ys) → IsRising (x ∷ zs)
rising_more x y ys zs is h up = rw is ((h, all_up x y ys h up.0), up)

-- ---- sorted by std
all_from : (P : Plain → Type 0) (ds : List Datum) → ((j : ℕ) (e : Datum) → j < length ds → P (plain (get_or ds j e))) → AllByRecursion P (map plain ds)
all_from P [] h = tt
all_from P (d ∷ ds) h = (h 0 d (omega arith), all_from P ds (λ j e lt. h (suc j) e (omega arith)))

rising_pairs : (ds : List Datum) → ((i j : ℕ) (e : Datum) → i ≤ j → j < length ds → is_lt (order (plain (get_or ds j e)) (plain (get_or ds i e))) ≡ false) → IsRising (map plain ds)
rising_pairs [] h = tt
rising_pairs (d ∷ ds) h = (
  all_from (λ y. is_lt (order y (plain d)) ≡ false) ds (λ j e lt. h 0 (suc j) e (omega arith) (omega arith)),
  rising_pairs ds (λ i j e le lt. h (suc i) (suc j) e (omega arith) (omega arith)),
)

times_is_sum : (v : Plain) (ds : List Datum) → times v (map plain ds) ≡ sum_by (λ d. one v (plain d)) ds
times_is_sum v = is_sum_by (λ ds. times v (map plain ds)) (λ d. one v (plain d)) refl (λ x xs. refl)

pub std_sorted : (ds es : List Datum) → IsPermutation ds es → IsSorted (on plain order) es → map plain es ≡ in_order (map plain ds)
std_sorted ds es perm up =
    by_counts (map plain es) (in_order (map plain ds))
    (rising_pairs es (sorted_far (λ x y. is_lt (order (plain x) (plain y))) (ranks_by order_total plain) es up))
    (rising_sorted (map plain ds))
    (λ v. times_is_sum v es ∙ sum_by-IsPermutation (λ d. one v (plain d)) ds es perm ∙ sym (times_is_sum v ds) ∙ sym (times_sorted v (map plain ds)))

pub own_sorting : (xs : List Plain) → IsRising xs → xs ≡ in_order xs
own_sorting xs up = sym (sorted_rising xs up)

pub rising_result : {E : Type 0} (r : Result (List Plain) E) (xs : List Plain) → IfOk r (λ ys. ys ≡ in_order xs) → IfOk r IsRising
rising_result (Ok ys) xs h = rw h (rising_sorted xs)
rising_result (Err e) xs h = tt
