-- The worked rows, by computing.
use Rattle.std.specs.Prelude.{refl}
use Rattle.reql_faults.specs.Faults.{own}
use Rattle.reql_faults.specs.Worked.{Variables, Writes, Names, Feeds, Followed}

pub variables : Variables
unfolding own
variables = refl

pub writes : Writes
unfolding own
writes = refl

pub names : Names
unfolding own
names = refl

pub feeds : Feeds
unfolding own
feeds = refl

pub followed : Followed
followed = refl
