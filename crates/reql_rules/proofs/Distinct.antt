-- Distinct values.
use Rattle.std.proofs.Common.{◌≡◌, refl, sym, ap, ◌∙◌, Bool, true, false, ◌||◌, if◌then◌else◌, List, [], ◌∷◌, Ordering, Less, Equal, Greater}
use Rattle.std.specs.Ordering.{is_lt, is_eq, ordering_reverse}
use Rattle.std.specs.Cmp.{IsStrictWeakOrder}
use Rattle.std.specs.List.{list_any, AllByRecursion}
use Rattle.std.specs.List.Sorted.{IsStrictlySortedBy}
use Rattle.std.proofs.lemmas.Cmp.{alike_right}
use Rattle.std.proofs.lemmas.List.Sorted.{ranks_by}
use Rattle.reql_datum.specs.Order.{order}
use Rattle.reql_datum.specs.Plain.{Plain}
use Rattle.reql_datum.specs.Total.{order_total}
use Rattle.reql_rules.specs.Laws.{DistinctHoldsEachOnce}
use Rattle.reql_rules.specs.Sorting.{into_place, sorted, once, once_after}
use Rattle.reql_rules.specs.Types.{same}
use Rattle.reql_rules.proofs.Stable.{Least, Rising, rising_sorted}

weak : IsStrictWeakOrder (λ (x y : Plain). is_lt (order x y))
weak = ranks_by order_total (λ (x : Plain). x)

-- what is not the same and not below is above
above_of : (o p : Ordering) → p ≡ ordering_reverse o → is_eq o ≡ false → is_lt p ≡ false → o ≡ Less
above_of Less p back e l = refl
above_of Equal p back e l = cc
above_of Greater p back e l = let f : is_lt (ordering_reverse Greater) ≡ false = ap is_lt (sym back) ∙ l in cc

above : (u v : Plain) → same u v ≡ false → is_lt (order v u) ≡ false → order u v ≡ Less
above u v e l = above_of (order u v) (order v u) (order_total.antisymm v u) e l

all_above : (u v : Plain) (ws : List Plain) → order u v ≡ Less → AllByRecursion (λ w. order v w ≡ Less) ws → AllByRecursion (λ w. order u w ≡ Less) ws
all_above u v [] h all = tt
all_above u v (w ∷ ws) h all = (order_total.trans u v w h all.0, all_above u v ws h all.1)

once_step : (u v : Plain) (vs : List Plain) (b : Bool) → same u v ≡ b → is_lt (order v u) ≡ false → IsStrictlySortedBy order (u ∷ once_after u vs) → IsStrictlySortedBy order (v ∷ once_after v vs)
    → IsStrictlySortedBy order (u ∷ (if b then once_after u vs else v ∷ once_after v vs))
unfolding IsStrictlySortedBy
once_step u v vs true e h on_u on_v = on_u
once_step u v vs false e h on_u on_v =
    let below : order u v ≡ Less = above u v e h in
    ((below, all_above u v (once_after v vs) below on_v.0), on_v)

once_rises : (u : Plain) (vs : List Plain) → Least order weak u vs → Rising order weak vs → IsStrictlySortedBy order (u ∷ once_after u vs)
unfolding IsStrictlySortedBy
once_rises u [] l r = (tt, tt)
once_rises u (v ∷ vs) l r = once_step u v vs (same u v) refl l.0 (once_rises u vs l.1 r.1) (once_rises v vs r.0 r.1)

rises : (vs : List Plain) → Rising order weak vs → IsStrictlySortedBy order (once vs)
unfolding IsStrictlySortedBy
rises [] r = tt
rises (v ∷ vs) r = once_rises v vs r.0 r.1

-- membership
or_swap : (a b c : Bool) → (a || (b || c)) ≡ (b || (a || c))
or_swap true true c = refl
or_swap true false c = refl
or_swap false b c = refl

or_twice : (a b : Bool) → (a || (a || b)) ≡ (a || b)
or_twice true b = refl
or_twice false b = refl

module _ (p : Plain → Bool) where
  into_step : (x y : Plain) (ys : List Plain) (b : Bool) → list_any p (into_place order x ys) ≡ (p x || list_any p ys)
      → list_any p (if b then y ∷ into_place order x ys else x ∷ y ∷ ys) ≡ (p x || (p y || list_any p ys))
  into_step x y ys true h = ap (λ b. p y || b) h ∙ or_swap (p y) (p x) (list_any p ys)
  into_step x y ys false h = refl

  any_into : (x : Plain) (ys : List Plain) → list_any p (into_place order x ys) ≡ (p x || list_any p ys)
  any_into x [] = refl
  any_into x (y ∷ ys) = into_step x y ys (is_lt (order y x)) (any_into x ys)

  any_sorted : (vs : List Plain) → list_any p (sorted order vs) ≡ list_any p vs
  any_sorted [] = refl
  any_sorted (v ∷ vs) = any_into v (sorted order vs) ∙ ap (λ b. p v || b) (any_sorted vs)

is_equal : (o : Ordering) → is_eq o ≡ true → o ≡ Equal
is_equal Less h = cc
is_equal Equal h = refl
is_equal Greater h = cc

same_as : (w u v : Plain) → same u v ≡ true → same w v ≡ same w u
same_as w u v e = sym (ap is_eq (alike_right order_total u v w (is_equal (order u v) e)))

any_step : (w u v : Plain) (vs : List Plain) (b : Bool) → same u v ≡ b
    → (same w u || list_any (same w) (once_after u vs)) ≡ (same w u || list_any (same w) vs)
    → (same w v || list_any (same w) (once_after v vs)) ≡ (same w v || list_any (same w) vs)
    → (same w u || list_any (same w) (if b then once_after u vs else v ∷ once_after v vs)) ≡ (same w u || (same w v || list_any (same w) vs))
any_step w u v vs true e on_u on_v = on_u ∙ sym (or_twice (same w u) (list_any (same w) vs)) ∙ ap (λ b. same w u || (b || list_any (same w) vs)) (sym (same_as w u v e))
any_step w u v vs false e on_u on_v = ap (λ b. same w u || b) on_v

any_after : (w u : Plain) (vs : List Plain) → (same w u || list_any (same w) (once_after u vs)) ≡ (same w u || list_any (same w) vs)
any_after w u [] = refl
any_after w u (v ∷ vs) = any_step w u v vs (same u v) refl (any_after w u vs) (any_after w v vs)

any_once : (w : Plain) (vs : List Plain) → list_any (same w) (once vs) ≡ list_any (same w) vs
any_once w [] = refl
any_once w (v ∷ vs) = any_after w v vs

pub holds_each_once : DistinctHoldsEachOnce
holds_each_once vs = (rises (sorted order vs) (rising_sorted order weak vs), λ v. any_once v (sorted order vs) ∙ any_sorted (same v) vs)
