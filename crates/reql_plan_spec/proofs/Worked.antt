-- The worked rows, by computing.
use Rattle.std.specs.Prelude.{refl}
use Rattle.reql_faults.specs.Faults.{own}
use Rattle.reql_naming.specs.Named.{op_rule}
use Rattle.reql_plan_spec.specs.Worked.{Reads, Writes, Commands, Feeds, Planned, Carried}

pub reads : Reads
unfolding op_rule
reads = (refl, refl, refl, refl, refl, refl, refl, refl, refl, refl, refl, refl, refl, refl, refl)

pub writes : Writes
unfolding op_rule
writes = (refl, refl, refl, refl, refl, refl, refl, refl, refl, refl, refl, refl, refl, refl, refl, refl, refl, refl, refl, refl, refl, refl, refl, refl, refl, refl, refl)

pub commands : Commands
unfolding op_rule
commands = (refl, refl, refl, refl, refl, refl, refl, refl, refl, refl, refl, refl, refl, refl, refl)

pub feeds : Feeds
unfolding op_rule
feeds = (refl, refl, refl, refl, refl, refl, refl, refl, refl, refl, refl, refl, refl, refl, refl, refl, refl, refl, refl, refl, refl, refl, refl, refl, refl, refl, refl, refl, refl)

pub planned : Planned
planned = (refl, refl, refl, refl, refl, refl, refl, refl)

pub carried : Carried
unfolding op_rule own
carried = (refl, refl, refl, refl, refl, refl, refl)
