-- The item of a limit feed: what differs between two values, with its places, and how a client folds it.
use Rattle.std.specs.Prelude.{ℕ, suc, Bool, false, ◌||◌, ◌&&◌, List, [], ◌∷◌, Option, Some, None, if◌then◌else◌}
use Rattle.std.specs.List.{insert, remove}
use Rattle.std.specs.Ordering.{is_eq}
use Rattle.reql_datum.specs.Order.{order}
use Rattle.reql_feed_limit.specs.Selection.{Element}

abbrev pub same : Element → Element → Bool
same d e = is_eq (order d.0 e.0) && is_eq (order d.1 e.1)

abbrev pub among : Element → List Element → Bool
among d [] = false
among d (e ∷ es) = same d e || among d es

-- an element with its place in a value
abbrev pub Placed : Type 0
Placed = ℕ × Element

-- the first of us that isn't among vs; places count from i
abbrev pub lacking_from : ℕ → List Element → List Element → Option Placed
lacking_from i [] vs = None
lacking_from i (u ∷ us) vs = if among u vs then lacking_from (suc i) us vs else Some (i, u)

-- the element that left, with its place in the old value, and the one that came, with its place in the new one
pub record Item : Type 0 where
  pub left : Option Placed
  pub came : Option Placed

abbrev pub item : List Element → List Element → Item
item us vs = record { left = lacking_from 0 us vs; came = lacking_from 0 vs us }

-- a client deletes at the old place, then inserts at the new one
abbrev pub deleted : Option Placed → List Element → List Element
deleted None es = es
deleted (Some p) es = remove es p.0

abbrev pub inserted : Option Placed → List Element → List Element
inserted None es = es
inserted (Some p) es = insert es p.0 p.1

abbrev pub folded : Item → List Element → List Element
folded i es = inserted i.came (deleted i.left es)
