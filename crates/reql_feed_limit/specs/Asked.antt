-- A limit feed of a request.
use Rattle.std.specs.Prelude.{◌≡◌, Option, Some, None}
use Rattle.reql_feed_spec.specs.Feeds.{Watch, first_of, nothing}
use Rattle.reql_feed_spec.specs.declared.kind.FeedKind.TheVariants as kinds
use Rattle.reql_table_spec.specs.Table.{Held, feed_of}
use Rattle.reql_feed_limit.specs.Feed.{Feed}
use Rattle.reql_feed_limit.specs.Order.{Order, selection_of}

-- what an order shows
abbrev pub shown_by : Order → Watch
shown_by o = first_of o.most (selection_of o)

-- a feed follows what is kept of a request; there is none where that shows nothing
abbrev pub IsOf : Option Feed → Held → Type 0
IsOf None h = (feed_of h).watch ≡ nothing h.spec.kind
IsOf (Some f) h = ((feed_of h).watch ≡ shown_by f.order) × (h.spec.kind ≡ kinds.Limit f.order.most)

abbrev pub IsOfOne : Option Feed → Option Held → Type 0
IsOfOne o None = ⊥
IsOfOne o (Some h) = IsOf o h
