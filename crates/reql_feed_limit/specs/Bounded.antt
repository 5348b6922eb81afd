-- What bounds stand for.
use Rattle.reql_datum.specs.View.{plain}
use Rattle.reql_feed_limit.specs.Bounds as law
use Rattle.reql_feed_limit.specs.declared.bounds.Bounds.{Bounds}

abbrev pub bounds_of : Bounds → law.Bounds
bounds_of r = record { bottom = plain r.bottom; bottom_open = r.bottom_open; top = plain r.top; top_open = r.top_open }
