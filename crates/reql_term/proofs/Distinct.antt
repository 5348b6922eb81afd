-- A list of distinct ids with one more at its end.
use Rattle.std.proofs.Common.{◌≡◌, ℕ, List, [], ◌∷◌, ◌++◌, Bool, true, false, if◌then◌else◌, sym}
use Rattle.reql_term.specs.Params.{IsNew, AreDistinct}

new_last : (k id : ℕ) (ids : List ℕ) → IsNew k ids → (id ≡ k → ⊥) → IsNew k (ids ++ id ∷ [])
new_last k id [] new apart = (apart, tt)
new_last k id (x ∷ xs) new apart = (new.0, new_last k id xs new.1 apart)

pub distinct_last : (ids : List ℕ) (id : ℕ) → AreDistinct ids → IsNew id ids → AreDistinct (ids ++ id ∷ [])
distinct_last [] id distinct new = (tt, tt)
distinct_last (k ∷ ks) id distinct new = (new_last k id ks distinct.0 (λ same. new.0 (sym same)), distinct_last ks id distinct.1 new.1)

-- a list that may have got one more
pub distinct_after : (ok : Bool) (ids new : List ℕ) (id : ℕ) → AreDistinct ids → IsNew id ids → new ≡ (if ok then ids ++ id ∷ [] else ids) → AreDistinct new
distinct_after true ids new id distinct fresh is = rw is (distinct_last ids id distinct fresh)
distinct_after false ids new id distinct fresh is = rw is distinct
