-- Where a pair falls to in a tree, which the first keys of the chunks alone decide: to the last chunk whose first key isn't above it.
use Rattle.std.specs.Prelude.{◌≡◌, ℕ, List, [], ◌∷◌, ◌++◌, Bool, true, false}
use Rattle.reql_datum.specs.Plain.{Plain}
use Rattle.reql_datum.specs.Order.{order}
use Rattle.reql_ptree.specs.Next.{is_behind}
use Rattle.reql_ptree.specs.Turn.{AllBelow, OpensAbove}
use Rattle.reql_ptree.specs.declared.fall.Fall.{Fall}
use Rattle.reql_ptree.specs.declared.fall.Fall.TheVariants.{Left, Here, Right, Below}
use Rattle.reql_ptree.specs.declared.fall.Fell.{Fell}
use Rattle.reql_ptree.specs.declared.fall.Fell.TheVariants.{Put, Kept, Before}

-- there are keys, and the first of them isn't above k
abbrev pub Reaches : Plain → List (Plain × Plain) → Type 0
Reaches k [] = ⊥
Reaches k (m ∷ ms) = is_behind true (order k m.0) ≡ true

-- what one look at a node says of k, which may lie below the chunk that it goes to only where that is the least of all
abbrev pub IsFall : Plain → Bool → List (Plain × Plain) → List (Plain × Plain) → List (Plain × Plain) → Fall → Type 0
IsFall k least left chunk right Left = OpensAbove k (chunk ++ right)
IsFall k least left chunk right Here = (AllBelow k left × OpensAbove k right) × (least ≡ false → Reaches k chunk)
IsFall k least left chunk right Right = Reaches k chunk
IsFall k least left chunk right Below = OpensAbove k (left ++ (chunk ++ right))

-- whether the pair was put
abbrev pub is_put : Fell → Bool
is_put Put = true
is_put Kept = false
is_put Before = false

abbrev pub fell_of : Bool → Fell
fell_of true = Put
fell_of false = Kept

-- what is known then of k among the pairs that there were
abbrev pub Fallen : Plain → Bool → List (Plain × Plain) → Fell → Type 0
Fallen k least ms Put = least ≡ false → Reaches k ms
Fallen k least ms Kept = Unit {0}
Fallen k least ms Before = OpensAbove k ms

-- how many steps were taken past the nodes of the way: those in a chunk
abbrev pub steps_at : Fell → ℕ
steps_at Put = 4
steps_at Kept = 4
steps_at Before = 0
