-- A walk over the documents, from the last to the first, that looks for the neighbour of a pair.
use Rattle.std.specs.Prelude.{◌≡◌, ℕ, suc, Bool, List, ◌++◌, Option, Some, None, length, reverse}
use Rattle.std.specs.List.{filter}
use Rattle.std.specs.Ordering.{is_lt}
use Rattle.reql_datum.specs.Plain.{Plain}
use Rattle.reql_datum.specs.Order.{order}
use Rattle.reql_feed_limit.specs.Selection.{Element, Spot, facing, turned, index_list}
use Rattle.reql_feed_limit.specs.Boundary.{first_of, neighbour}

-- the document that is next is the last of those in front, and the best so far is the neighbour in the index of the rest
pub record Walked (d : Bool) (b : Plain) (spot : Spot) (docs : List (Plain × Plain)) (found : Option (Plain × Plain)) (best : Option Element) : Type 0 where
  pub front : List (Plain × Plain)
  pub rest : List (Plain × Plain)
  pub whole : docs ≡ front ++ rest
  pub next : found ≡ first_of (reverse front)
  pub near : best ≡ neighbour (facing d) b (turned d (index_list spot rest))

-- how many documents are still to come
abbrev pub left_to_walk : List (Plain × Plain) → Option (Plain × Plain) → ℕ
left_to_walk docs None = 0
left_to_walk docs (Some m) = suc (length (filter (λ e. is_lt (order e.0 m.0)) docs))
