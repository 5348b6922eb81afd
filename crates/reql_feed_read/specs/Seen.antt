-- What orders and sources stand for, and what is read of an order before its index is known.
use Rattle.std.specs.Prelude.{Bool, option_map}
use Rattle.reql_datum.specs.View.{plain}
use Rattle.reql_rules.specs.Lists.{Bytes}
use Rattle.reql_term.specs.Views.{index_of}
use Rattle.reql_feed_spec.specs.Watched as law
use Rattle.reql_table_spec.specs.Followed as reading
use Rattle.reql_feed_read.specs.Order as the
use Rattle.reql_feed_read.specs.Source as sources
use Rattle.reql_feed_read.specs.declared.order.Order.{Order}
use Rattle.reql_feed_read.specs.declared.order.Part.{Part}
use Rattle.reql_feed_read.specs.declared.order.Part.TheVariants as parts
use Rattle.reql_feed_read.specs.declared.first.Ordered.{Ordered}
use Rattle.reql_feed_read.specs.declared.naming.Target.{Target}
use Rattle.reql_feed_read.specs.declared.source.Places.{Places}
use Rattle.reql_feed_read.specs.declared.source.Places.TheVariants as places
use Rattle.reql_feed_read.specs.declared.source.Source.{Source}

abbrev pub part_of : Part → law.Part
part_of parts.Whole = law.whole
part_of (parts.Between l lo h ho) = law.between (plain l) lo (plain h) ho

abbrev pub places_of : Places → sources.Places
places_of (places.InPart p) = sources.in_part (part_of p)
places_of (places.AtKeys ks) = sources.at_keys ks

abbrev pub source_of : Source → sources.Source
source_of s = record { index = option_map index_of s.index; places = places_of s.places }

abbrev pub order_of : Order → the.Order
order_of o = record { index = option_map index_of o.index; part = part_of o.part; down = o.down; most = o.most }

abbrev pub pointed_of : Target → Bytes × Bool
pointed_of p = (p.name.now, p.down)

abbrev pub ordered_of : Ordered → reading.Ordered
ordered_of o = record { part = part_of o.part; name = o.name; down = o.down }
