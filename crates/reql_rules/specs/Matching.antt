-- The constant pattern of FILTER (ReQL API reference: filter by an object): each name is there with an equal value, objects inside likewise.
use Rattle.std.specs.Prelude.{List, Bool, true, ◌&&◌, if◌then◌else◌}
use Rattle.reql_datum.specs.Members.{find}
use Rattle.reql_datum.specs.Kinds.{is_literal}
use Rattle.reql_datum.specs.Plain.{Plain, object, Pairs, no_pairs, pair}
use Rattle.reql_rules.specs.Lists.{Bytes}
use Rattle.reql_rules.specs.Types.{object_in, same}
use Rattle.reql_rules.specs.Patterns.{holds}

abbrev mutual
  pub matches : Plain → Plain → Bool
  matches (object ps) = λ v. if is_literal ps then same (object ps) v else holds (match_all ps) (object_in v)
  matches p = λ v. same p v

  pub match_all : Pairs → List (Bytes × Plain) → Bool
  match_all no_pairs = λ ms. true
  match_all (pair k p ps) = λ ms. holds (matches p) (find k ms) && match_all ps ms
