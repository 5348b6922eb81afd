-- What a roll of dice is to what they tell of themselves, and to the list that they play.
use Rattle.std.specs.Prelude.{ℕ, List, Some, None, replicate}
use Rattle.reql_outside.specs.Source.{Source, Played, Gives, PlaysOn}
use Rattle.reql_outside.specs.declared.dice.Rolled.{Rolled}
use Rattle.reql_outside.specs.declared.dice.Rolled.TheVariants as rolled

abbrev pub zeros : List ℕ
zeros = replicate 16 0

abbrev pub Rolls : Source (List ℕ) → Source (List ℕ) → Rolled → Type 0
Rolls old new (rolled.Bytes bytes) = Gives old new (Some bytes)
Rolls old new rolled.Failed = Gives old new None

abbrev pub RollsOn : Played (List ℕ) → Played (List ℕ) → Rolled → Type 0
RollsOn old new (rolled.Bytes bytes) = PlaysOn old new (Some bytes)
RollsOn old new rolled.Failed = PlaysOn old new None
