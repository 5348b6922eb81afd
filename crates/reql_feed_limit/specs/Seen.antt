-- What elements, steps and orders stand for.
use Rattle.std.specs.Prelude.{option_map}
use Rattle.reql_datum.specs.View.{plain}
use Rattle.reql_feed_limit.specs.Selection as sel
use Rattle.reql_feed_limit.specs.Items as its
use Rattle.reql_feed_limit.specs.declared.element.Element.{Element}
use Rattle.reql_feed_limit.specs.declared.element.Placed.{Placed}
use Rattle.reql_feed_limit.specs.declared.element.LimitStep.{LimitStep}
pub use Rattle.reql_feed_read.specs.Seen.{part_of, order_of}

abbrev pub seen : Element → sel.Element
seen e = (plain e.pair, plain e.doc)

abbrev pub seen_placed : Placed → its.Placed
seen_placed p = (p.place, seen p.element)

abbrev pub seen_step : LimitStep → its.Item
seen_step s = record { left = option_map seen_placed s.left; came = option_map seen_placed s.came }
