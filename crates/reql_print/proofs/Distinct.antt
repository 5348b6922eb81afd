-- No two ids alike, by the test and by what it means.
use Rattle.std.proofs.Common.{◌≡◌, ℕ, List, [], ◌∷◌, Bool, true, false, ◌&&◌, not, nat_eq, refl, arith}
use Rattle.std.proofs.lemmas.Bool.Decides.{nat_tests}
use Rattle.reql_term.specs.Params.{IsNew, AreDistinct}
use Rattle.reql_read.specs.Shape.{is_new}
use Rattle.reql_read.proofs.NewIds.{new_of}
use Rattle.reql_print.specs.Printed.{are_distinct}

both : (a b : Bool) → (a && b) ≡ true → (a ≡ true) × (b ≡ true)
both true true h = (refl, refl)
both true false h = cc
both false b h = cc

same : (a b : ℕ) → nat_eq a b ≡ true → a ≡ b
same a b h = grind (arith, nat_tests)

apart_by : (a b : ℕ) (t : Bool) → nat_eq a b ≡ t → (a ≡ b → ⊥) → not (nat_eq a b) ≡ true
apart_by a b true is apart = absurd (apart (same a b is))
apart_by a b false is apart = rw is refl

new_true : (id : ℕ) (ids : List ℕ) → IsNew id ids → is_new id ids ≡ true
new_true id [] h = refl
new_true id (k ∷ ks) h = rw (apart_by k id (nat_eq k id) refl h.0) (new_true id ks h.1)

pub distinct_true : (ids : List ℕ) → AreDistinct ids → are_distinct ids ≡ true
distinct_true [] h = refl
distinct_true (k ∷ ks) h = rw (new_true k ks h.0) (distinct_true ks h.1)

pub distinct_is : (ids : List ℕ) → are_distinct ids ≡ true → AreDistinct ids
distinct_is [] h = tt
distinct_is (k ∷ ks) h = let e = both (is_new k ks) (are_distinct ks) h in (new_of k ks e.0, distinct_is ks e.1)
