-- The pattern of FILTER (ReQL API reference: filter by an object): its names by their bytes, rising. The first whose value differs says
-- no, the first that isn't there is NON_EXISTENCE; objects inside likewise, and what is no object doesn't fit.
use Rattle.std.specs.Prelude.{List, Bool, true, false, if◌then◌else◌, Option, Some, None, Ok}
use Rattle.reql_datum.specs.Answer.{Answer, ◌>>=◌}
use Rattle.reql_datum.specs.Members.{find}
use Rattle.reql_datum.specs.Kinds.{is_literal}
use Rattle.reql_datum.specs.Plain.{Plain, object, Pairs, no_pairs, pair}
use Rattle.reql_rules.specs.Fields.{attribute}
use Rattle.reql_rules.specs.Lists.{Bytes}
use Rattle.reql_rules.specs.Types.{object_in, same, truth}

-- of what is no object, no
abbrev pub inside : (List (Bytes × Plain) → Answer Bool) → Option (List (Bytes × Plain)) → Answer Bool
inside test None = Ok false
inside test (Some ms) = test ms

abbrev mutual
  pub matches : Plain → Plain → Answer Bool
  matches (object ps) = λ v. if is_literal ps then Ok (same (object ps) v) else inside (match_all ps) (object_in v)
  matches p = λ v. Ok (same p v)

  pub match_all : Pairs → List (Bytes × Plain) → Answer Bool
  match_all no_pairs = λ ms. Ok true
  match_all (pair k p ps) = λ ms. (attribute k (find k ms) >>= matches p) >>= λ b. if b then match_all ps ms else Ok false

-- an object is a pattern; anything else, a LITERAL too, is true or not
abbrev pub by_pattern : Plain → Plain → Option (List (Bytes × Plain)) → Answer Bool
by_pattern p d None = Ok (truth p)
by_pattern p d (Some ms) = matches p d

abbrev pub fits : Plain → Plain → Answer Bool
fits p d = by_pattern p d (object_in p)
