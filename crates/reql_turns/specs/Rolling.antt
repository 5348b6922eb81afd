-- Rolls of the dice by what handles a session's frames.
use Rattle.std.specs.Prelude.{◌≡◌, ℕ, List, [], ◌∷◌, Option}
use Rattle.reql_outside.specs.Source.{Gives}
use Rattle.reql_session_api.specs.World.{AtWork}

-- one call of the dice, by which nothing else changes
abbrev pub Rolls : AtWork → AtWork → Option (List ℕ) → Type 0
Rolls w x bytes = (x ≡ record w { dice = x.dice }) × Gives w.dice x.dice bytes

-- calls of them, one after another
abbrev pub RollsAll : AtWork → AtWork → List (Option (List ℕ)) → Type 0
RollsAll w x [] = x ≡ w
RollsAll w x (bytes ∷ more) = (y : AtWork) × Rolls w y bytes × RollsAll y x more
