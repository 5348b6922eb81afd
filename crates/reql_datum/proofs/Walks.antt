-- One step of a walk over the members of a list or an object, by their places.
use Rattle.std.proofs.Common.{◌≡◌, ℕ, zero, suc, ◌+◌, ◌<◌, List, [], ◌∷◌, drop, Option, Some, None, slice_get, option_map, MatchOption, refl, arith, sym, add-one, rules}
use Rattle.std.proofs.lemmas.Option.{slice_get_within}
use Rattle.reql_datum.specs.Plain.{Plain, weight, list_weight, members_weight}

-- what is left at a place is the member there, and what is left after it
pub rest_at : {X : Type 0} (xs : List X) (i : ℕ) (x : X) → slice_get xs i ≡ Some x → drop i xs ≡ x ∷ drop (i + 1) xs
rest_at [] i x h = search rules
rest_at (y ∷ ys) zero x h = search rules
rest_at (y ∷ ys) (suc i) x h = simp add-one (simp add-one at (rest_at ys i x h))

pub rest_end : {X : Type 0} (xs : List X) (i : ℕ) → slice_get xs i ≡ None → drop i xs ≡ []
rest_end [] zero h = refl
rest_end [] (suc i) h = refl
rest_end (y ∷ ys) zero h = search rules
rest_end (y ∷ ys) (suc i) h = rest_end ys i h

-- the same of what a look-up gave, seen by f
pub rest_of : {R X : Type 0} (f : R → X) (r : Option R) (xs : List X) (i : ℕ) → option_map f r ≡ slice_get xs i
    → MatchOption r (drop i xs ≡ []) (λ x. drop i xs ≡ f x ∷ drop (i + 1) xs)
rest_of f None xs i h = rest_end xs i (sym h)
rest_of f (Some x) xs i h = rest_at xs i (f x) (sym h)

-- a member is below its list
pub item_below : (vs : List Plain) (i : ℕ) (v : Plain) → slice_get vs i ≡ Some v → weight v < list_weight vs
item_below [] i v h = search rules
item_below (u ∷ us) zero v h = search rules
item_below (u ∷ us) (suc i) v h = omega (arith, item_below us i v h)

pub member_below : (ms : List (List ℕ × Plain)) (i : ℕ) (k : List ℕ) (v : Plain) → slice_get ms i ≡ Some (k, v) → weight v < members_weight ms
member_below [] i k v h = search rules
member_below (u ∷ us) zero k v h = search rules
member_below (u ∷ us) (suc i) k v h = omega (arith, member_below us i k v h)

pub ruleset walks = (rest_at, rest_end, slice_get_within, item_below, member_below)
