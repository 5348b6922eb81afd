-- Arrays and objects of lists, and walks that may fail.
use Rattle.std.specs.Prelude.{ℕ, List, [], ◌∷◌, ◌++◌, Option, Some, None, Ok}
use Rattle.reql_datum.specs.Answer.{Answer, ◌>>=◌}
use Rattle.reql_datum.specs.Plain.{Plain, array, object, items_of, pairs_of}

-- the bytes of a text
abbrev pub Bytes : Type 0
Bytes = List ℕ

abbrev pub array_of : List Plain → Plain
array_of vs = array (items_of vs)

abbrev pub object_of : List (Bytes × Plain) → Plain
object_of ms = object (pairs_of ms)

module _ {A B : Type 0} where
  -- what f answers of each, in order; the first fault counts
  abbrev pub each : (A → Answer B) → List A → Answer (List B)
  each f [] = Ok []
  each f (x ∷ xs) = do
    y ← f x
    ys ← each f xs
    Ok (y ∷ ys)

  -- the lists that f answers of each, joined
  abbrev pub each_joined : (A → Answer (List B)) → List A → Answer (List B)
  each_joined f [] = Ok []
  each_joined f (x ∷ xs) = do
    ys ← f x
    zs ← each_joined f xs
    Ok (ys ++ zs)

module _ {A : Type 0} where
  -- one more in front, where there is one
  abbrev pub also : Option A → List A → List A
  also None xs = xs
  also (Some x) xs = x ∷ xs

  abbrev pub joined : List (List A) → List A
  joined [] = []
  joined (xs ∷ xss) = xs ++ joined xss
