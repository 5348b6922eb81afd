-- What a list of pairs is after those of one left element more.
use Rattle.std.specs.Prelude.{List, [], ◌∷◌, ◌++◌, map, Bool, if◌then◌else◌, Ok}
use Rattle.reql_datum.specs.Answer.{Answer, ◌>>=◌}
use Rattle.reql_datum.specs.Plain.{Plain}
use Rattle.reql_rules.specs.Joining.{of_both, partnered, partners}
use Rattle.reql_rules.specs.Types.{truth}

abbrev pub tried_after : (Plain → Plain → Answer Plain) → Plain → Plain → List Plain → Answer (List Plain)
tried_after m l r pairs = m l r >>= λ v. Ok (if truth v then pairs ++ of_both l r ∷ [] else pairs)

abbrev pub pairs_after : (Plain → Plain → Answer Plain) → Plain → List Plain → List Plain → Answer (List Plain)
pairs_after m l rs pairs = partners m l rs >>= λ ps. Ok (pairs ++ map (of_both l) ps)

abbrev pub joined_after : Bool → (Plain → Plain → Answer Plain) → Plain → List Plain → List Plain → Answer (List Plain)
joined_after outer m l rs pairs = partners m l rs >>= λ ps. Ok (pairs ++ partnered outer l ps)
