-- What a feed keeps inside: room for its elements, its bounds as pairs, and the number of the tree of its order.
use Rattle.std.specs.Prelude.{◌≡◌, ◌<◌, ◌≤◌, ◌^◌, ℕ}
use Rattle.reql_feed_limit.specs.Bounds.{Bounds}
use Rattle.reql_feed_limit.specs.Feed.{IsTreeOf}
use Rattle.reql_feed_limit.specs.Order.{Order, IsSingle, bounds_in}

pub record Keeps (o : Order) (tree : ℕ) (r : Bounds) (room : ℕ) : Type 0 where
  pub roomy : o.most ≤ room
  pub bounds : r ≡ bounds_in o
  pub single : IsSingle o.index
  pub numbered : IsTreeOf tree o.index
  pub small : o.most < 2 ^ 32
