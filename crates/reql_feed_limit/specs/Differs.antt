-- Two values that are one list but for an element that left and one that came.
use Rattle.std.specs.Prelude.{◌≡◌, ◌≤◌, false, List, Option, Some, None, length}
use Rattle.reql_feed_limit.specs.Selection.{Element}
use Rattle.reql_feed_limit.specs.Items.{same, Placed, Item, inserted}

abbrev pub Fits : Option Placed → List Element → Type 0
Fits None es = Unit {0}
Fits (Some p) es = p.0 ≤ length es

abbrev pub Apart : Option Placed → Option Placed → Type 0
Apart (Some p) (Some q) = same p.1 q.1 ≡ false
Apart p q = Unit {0}

pub record Differs (us vs : List Element) (i : Item) : Type 0 where
  pub core : List Element
  pub old : us ≡ inserted i.left core
  pub new : vs ≡ inserted i.came core
  pub left_fits : Fits i.left core
  pub came_fits : Fits i.came core
  pub apart : Apart i.left i.came
