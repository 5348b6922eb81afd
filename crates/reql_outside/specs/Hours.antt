-- What a call of a clock is to what it tells of itself, and to the list that it plays.
use Rattle.std.specs.Prelude.{ℤ, Some, None}
use Rattle.reql_outside.specs.Source.{Source, Played, Gives, PlaysOn}
use Rattle.reql_outside.specs.declared.clock.Told.{Told}
use Rattle.reql_outside.specs.declared.clock.Told.TheVariants as told

abbrev pub Tells : Source ℤ → Source ℤ → Told → Type 0
Tells old new (told.At seconds) = Gives old new (Some seconds)
Tells old new told.Failed = Gives old new None

abbrev pub TellsOn : Played ℤ → Played ℤ → Told → Type 0
TellsOn old new (told.At seconds) = PlaysOn old new (Some seconds)
TellsOn old new told.Failed = PlaysOn old new None
