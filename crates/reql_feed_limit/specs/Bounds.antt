-- Two pairs between which a list is cut.
use Rattle.std.specs.Prelude.{Bool, true, false, ◌&&◌}
use Rattle.std.specs.Ordering.{is_lt, is_le}
use Rattle.reql_datum.specs.Plain.{Plain}
use Rattle.reql_datum.specs.Order.{order}

pub record Bounds : Type 0 where
  pub bottom : Plain
  pub bottom_open : Bool
  pub top : Plain
  pub top_open : Bool

-- below, or not above
abbrev pub before : Bool → Plain → Plain → Bool
before true a b = is_lt (order a b)
before false a b = is_le (order a b)

abbrev pub in_bounds : Bounds → Plain → Bool
in_bounds r p = before r.bottom_open r.bottom p && before r.top_open p r.top
