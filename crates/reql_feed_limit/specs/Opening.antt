-- Where a reading of an index begins: at the bottom bound, or in the reverse at the top.
use Rattle.std.specs.Prelude.{◌≡◌, ◌≤◌, Bool, true, false, List, Option, length, take, drop}
use Rattle.std.specs.List.{filter}
use Rattle.reql_datum.specs.Plain.{Plain}
use Rattle.reql_feed_limit.specs.Selection.{Element, Limit, selection}
use Rattle.reql_feed_limit.specs.Boundary.{first_of}
use Rattle.reql_feed_limit.specs.Bounds.{Bounds, before}

abbrev pub begins : Bool → Bounds → Plain → Bool
begins false r p = before r.bottom_open r.bottom p
begins true r p = before r.top_open p r.top

-- the first element from there, of a list that goes that way
abbrev pub begin_in : Bool → Bounds → List Element → Option Element
begin_in d r es = first_of (filter (λ e. begins d r e.0) es)

-- the first elements of a selection so far, and the one that is next
pub record Opened (l : Limit) (docs : List (Plain × Plain)) (es : List Element) (next : Option Element) : Type 0 where
  pub taken : es ≡ take (length es) (selection l docs)
  pub few : length es ≤ l.size
  pub following : next ≡ first_of (drop (length es) (selection l docs))
