-- What a stable sort of elements with their keys leaves.
use Rattle.std.proofs.Common.{◌≡◌, refl, sym, ap, ◌∙◌, ℕ, ◌<◌, ◌+◌, false, length, drop, get_or, List, [], ◌∷◌, ◌++◌, append_assoc, map, Ok, Err, Option, Bool, Result, IfOk}
use Rattle.std.proofs.lemmas.Option.{slice_get-get_or}
use Rattle.std.specs.declared.cmp.Ordering.{Ordering}
use Rattle.std.specs.declared.cmp.Ordering.TheVariants.{Less, Equal, Greater}
use Rattle.std.specs.Ordering.{is_lt, on, ordering_then}
use Rattle.std.specs.List.Sorted.{IsSortedBy, IsStableBy, IsSorted, IsStable, IsStrictlySortedBy}
use Rattle.std.proofs.lemmas.List.Sorted.{ranks_by}
use Rattle.reql_datum.specs.Order.{order}
use Rattle.reql_datum.specs.Total.{order_total}
use Rattle.reql_datum.specs.View.{plain}
use Rattle.reql_datum.specs.declared.datum.Datum.{Datum}
use Rattle.reql_rules.specs.Sets.{is_among}
use Rattle.reql_rules.proofs.Distinct.{holds_each_once}
use Rattle.reql_datum.proofs.Walks.{rest_at}
use Rattle.reql_datum.specs.Answer.{Answer, ◌>>=◌}
use Rattle.reql_datum.specs.Plain.{Plain}
use Rattle.reql_rules.specs.Mapping.{if_any}
use Rattle.reql_rules.specs.Sorting.{keys_from, sorted, distinct, keyed_order}
use Rattle.reql_rules.proofs.Stable.{is_sorted, map_sorted}
use Rattle.reql_rules.proofs.Keys.{keyed_ranks}
use Rattle.reql_seq.specs.Seen.{keyed, ranked}
use Rattle.reql_seq.specs.declared.sorting.Keyed.{Keyed}
use Rattle.reql_seq.specs.declared.sorting.Ranked.{Ranked}

-- whether an element stands before another
abbrev pub before : List Bool → Keyed → Keyed → Bool
before down a b = is_lt (keyed_order down (keyed a) (keyed b))

pub sorted_rows : (down : List Bool) (rows out : List Keyed) → IsSortedBy (before down) out → IsStableBy (before down) rows out
    → map keyed out ≡ sorted (keyed_order down) (map keyed rows)
sorted_rows down rows out s t =
    ap (map keyed) (is_sorted (λ a b. keyed_order down (keyed a) (keyed b)) (keyed_ranks keyed down) rows out s t)
    ∙ map_sorted keyed (keyed_order down) rows

-- the same of rows that hold their one key
abbrev pub ranked_before : Bool → Ranked → Ranked → Bool
ranked_before falls a b = is_lt (keyed_order (falls ∷ []) (ranked a) (ranked b))

pub sorted_ranked : (falls : Bool) (rows out : List Ranked) → IsSortedBy (ranked_before falls) out → IsStableBy (ranked_before falls) rows out
    → map ranked out ≡ sorted (keyed_order (falls ∷ [])) (map ranked rows)
sorted_ranked falls rows out s t =
    ap (map ranked) (is_sorted (λ a b. keyed_order (falls ∷ []) (ranked a) (ranked b)) (keyed_ranks ranked (falls ∷ [])) rows out s t)
    ∙ map_sorted ranked (keyed_order (falls ∷ [])) rows

-- no key comes after the first
pub then_equal : (o : Ordering) → ordering_then o Equal ≡ o
then_equal Less = refl
then_equal Equal = refl
then_equal Greater = refl

-- what is left at a place is the member there, and what is left after it
pub rest_within : (xs : List Bool) (i : ℕ) → i < length xs → drop i xs ≡ get_or xs i false ∷ drop (i + 1) xs
rest_within xs i h = rest_at xs i (get_or xs i false) (slice_get-get_or xs i false h)

-- one more key
front_on : {E : Type 0} (front : List (Option Plain)) (k : Option Plain) (r : Result (List (Option Plain)) E)
    → ((r >>= λ ks. Ok (k ∷ ks)) >>= λ ks. Ok (front ++ ks)) ≡ (r >>= λ ks. Ok ((front ++ k ∷ []) ++ ks))
front_on front k (Ok ks) = ap Ok (sym (append_assoc front (k ∷ []) ks))
front_on front k (Err e) = refl

pub keys_step : (m : ℕ → Plain → Answer Plain) (i : ℕ) (down : List Bool) (v : Plain) (all : Answer (List (Option Plain))) (front after : List (Option Plain)) (k : Option Plain)
    → i < length down → if_any (m i v) ≡ Ok k → after ≡ front ++ k ∷ []
    → all ≡ (keys_from m i (drop i down) v >>= λ ks. Ok (front ++ ks)) → all ≡ (keys_from m (i + 1) (drop (i + 1) down) v >>= λ ks. Ok (after ++ ks))
keys_step m i down v all front after k h e a invariant =
    let before = rw e at (rw (rest_within down i h) at invariant) in
    rw a (before ∙ front_on front k (keys_from m (i + 1) (drop (i + 1) down) v))

-- a list of documents that std sorted stably
pub plain_sorted : (ds es : List Datum) → IsSorted (on plain order) es → IsStable (on plain order) ds es → map plain es ≡ sorted order (map plain ds)
plain_sorted ds es s t = ap (map plain) (is_sorted (on plain order) (ranks_by order_total plain) ds es s t) ∙ map_sorted plain order ds

-- what is told of a list that is sorted and each once
pub distinct_rises : {E : Type 0} (r : Result (List Plain) E) (vs : List Plain) → IfOk r (λ us. us ≡ distinct vs) → IfOk r (λ us. IsStrictlySortedBy order us)
distinct_rises (Ok us) vs h = rw h (holds_each_once vs).0
distinct_rises (Err e) vs h = tt

pub distinct_members : {E : Type 0} (r : Result (List Plain) E) (vs : List Plain) → IfOk r (λ us. us ≡ distinct vs) → IfOk r (λ us. (v : Plain) → is_among us v ≡ is_among vs v)
distinct_members (Ok us) vs h = rw h (holds_each_once vs).1
distinct_members (Err e) vs h = tt
