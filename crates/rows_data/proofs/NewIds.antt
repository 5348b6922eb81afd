-- An id that is none of a list.
use Rattle.std.proofs.Common.{◌≡◌, ℕ, List, [], ◌∷◌, Bool, true, false, ◌||◌, nat_eq, refl}
use Rattle.std.specs.List.{list_any}
use Rattle.std.proofs.lemmas.Bool.{eqb-false}
use Rattle.reql_term.specs.Params.{IsNew}

neither : (a b : Bool) → (a || b) ≡ false → (a ≡ false) × (b ≡ false)
neither true b h = cc
neither false b h = (refl, h)

pub new_among : (id : ℕ) (ids : List ℕ) → list_any (λ k. nat_eq k id) ids ≡ false → IsNew id ids
new_among id [] h = tt
new_among id (k ∷ ks) h = let e = neither _ _ h in (eqb-false k id e.0, new_among id ks e.1)
