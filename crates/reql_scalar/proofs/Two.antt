-- A pair in a list, and an object of pairs.
use Rattle.std.proofs.Common.{◌≡◌, List, [], ◌∷◌, refl, ap, Ok}
use Rattle.reql_datum.specs.Answer.{◌>>=◌}
use Rattle.reql_datum.specs.Plain.{Plain, low, array, boolean, null, number, object, binary, time, text, high, items_of}
use Rattle.reql_datum.proofs.Back.{listed_back}
use Rattle.reql_rules.specs.Coercing.{pair_in, to_object}
use Rattle.reql_rules.specs.Lists.{Bytes, object_of}
use Rattle.reql_scalar.specs.Two.{two_in, put_pairs}

pub two_is : (vs : List Plain) → pair_in (array (items_of vs)) ≡ two_in vs
two_is [] = refl
two_is (low ∷ []) = refl
two_is (array us ∷ []) = refl
two_is (boolean b ∷ []) = refl
two_is (null ∷ []) = refl
two_is (number n ∷ []) = refl
two_is (object ms ∷ []) = refl
two_is (binary s ∷ []) = refl
two_is (time t ∷ []) = refl
two_is (text s ∷ []) = refl
two_is (high ∷ []) = refl
two_is (low ∷ v ∷ []) = refl
two_is (array us ∷ v ∷ []) = refl
two_is (boolean b ∷ v ∷ []) = refl
two_is (null ∷ v ∷ []) = refl
two_is (number n ∷ v ∷ []) = refl
two_is (object ms ∷ v ∷ []) = refl
two_is (binary s ∷ v ∷ []) = refl
two_is (time t ∷ v ∷ []) = refl
two_is (text s ∷ v ∷ []) = refl
two_is (high ∷ v ∷ []) = refl
two_is (low ∷ v ∷ w ∷ ws) = refl
two_is (array us ∷ v ∷ w ∷ ws) = refl
two_is (boolean b ∷ v ∷ w ∷ ws) = refl
two_is (null ∷ v ∷ w ∷ ws) = refl
two_is (number n ∷ v ∷ w ∷ ws) = refl
two_is (object ms ∷ v ∷ w ∷ ws) = refl
two_is (binary s ∷ v ∷ w ∷ ws) = refl
two_is (time t ∷ v ∷ w ∷ ws) = refl
two_is (text s ∷ v ∷ w ∷ ws) = refl
two_is (high ∷ v ∷ w ∷ ws) = refl

pub object_is : (kind : Bytes) (vs : List Plain) → to_object kind (array (items_of vs)) ≡ (put_pairs kind [] vs >>= λ ms. Ok (object_of ms))
object_is kind vs = ap (λ us. put_pairs kind [] us >>= λ ms. Ok (object_of ms)) (listed_back vs)
