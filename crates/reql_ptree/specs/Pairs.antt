-- Pairs of documents by rising key.
use Rattle.std.specs.Prelude.{List, [], ◌∷◌, Option}
use Rattle.reql_datum.specs.Plain.{Plain}
use Rattle.reql_datum.specs.Order.{order}
use Rattle.reql_memory.specs.Sorted.{AreRisingBy, find_by, put_by, without_by}

-- each key is below the keys after it
abbrev pub AreRising : List (Plain × Plain) → Type 0
AreRising = AreRisingBy order

-- the value at a key
abbrev pub find : Plain → List (Plain × Plain) → Option Plain
find = find_by order

-- with v at the key k
abbrev pub put : Plain → Plain → List (Plain × Plain) → List (Plain × Plain)
put = put_by order

-- with nothing at the key k
abbrev pub without : Plain → List (Plain × Plain) → List (Plain × Plain)
without = without_by order

-- what holds of the first key, where there is one
abbrev pub Opens : (Plain → Type 0) → List (Plain × Plain) → Type 0
Opens P [] = Unit {0}
Opens P (m ∷ ms) = P m.0
