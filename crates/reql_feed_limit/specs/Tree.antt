-- What a look at a tree of pairs finds.
use Rattle.std.specs.Prelude.{Bool, List, Option, reverse}
use Rattle.std.specs.List.{filter}
use Rattle.reql_datum.specs.Plain.{Plain}
use Rattle.reql_feed_limit.specs.Selection.{Element}
use Rattle.reql_feed_limit.specs.Boundary.{first_of}
use Rattle.reql_feed_limit.specs.Bounds.{before}

-- the first pair from one on, or past it, with its document
abbrev pub next_in : Bool → Plain → List Element → Option Element
next_in past pair es = first_of (filter (λ e. before past pair e.0) es)

-- the same in the reverse
abbrev pub prev_in : Bool → Plain → List Element → Option Element
prev_in past pair es = first_of (filter (λ e. before past e.0 pair) (reverse es))
