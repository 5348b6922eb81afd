-- Pairs of a group and a member, in the order of their groups.
use Rattle.std.specs.Prelude.{◌≡◌, List, [], ◌∷◌, ◌++◌, false}
use Rattle.std.specs.declared.cmp.Ordering.{Ordering}
use Rattle.std.specs.Ordering.{is_lt}
use Rattle.reql_datum.specs.Order.{order}
use Rattle.reql_datum.specs.Plain.{Plain}
use Rattle.reql_memory.specs.Sorted.{AllBelowBy}
use Rattle.reql_rules.specs.Grouping.{gather_on, as_groups}

abbrev pub by_group : Plain × Plain → Plain × Plain → Ordering
by_group p q = order p.0 q.0

-- the first group isn't below g, nor any other below the one before it
abbrev pub RisesFrom : Plain → List (Plain × Plain) → Type 0
RisesFrom g [] = Unit {0}
RisesFrom g (p ∷ ps) = (is_lt (order p.0 g) ≡ false) × RisesFrom p.0 ps

abbrev pub Rises : List (Plain × Plain) → Type 0
Rises [] = Unit {0}
Rises (p ∷ ps) = RisesFrom p.0 ps

-- what came out, the group at hand with its members, and the pairs that are left, are all
pub record Gathers (out : List (Plain × Plain)) (g : Plain) (vs : List Plain) (rest all : List (Plain × Plain)) : Type 0 where
  pub below : AllBelowBy order g out
  pub on : out ++ as_groups (gather_on ((g, vs) ∷ []) rest) ≡ all
  pub rising : RisesFrom g rest
