-- The arms of feeds, whose slots are there.
use Rattle.std.specs.Prelude.{◌<◌, ℕ, List, All}
use Rattle.reql_session_spec.specs.Requests.{Arm}
use Rattle.reql_session_spec.specs.Books.{Open}

abbrev pub AreThere : ℕ → List Arm → Type 0
AreThere count arms = All (λ (a : Arm). a.slot < count) arms

abbrev pub AllThere : ℕ → List Open → Type 0
AllThere count fs = All (λ (f : Open). AreThere count f.arms) fs
