-- What a pattern of FILTER says of what is found under one of its names.
use Rattle.std.specs.Prelude.{Bool, Option}
use Rattle.reql_datum.specs.Answer.{Answer, ◌>>=◌}
use Rattle.reql_datum.specs.Plain.{Plain}
use Rattle.reql_rules.specs.Fields.{attribute}
use Rattle.reql_rules.specs.Lists.{Bytes}
use Rattle.reql_value_spec.specs.Matching.{matches}

-- it fits, it doesn't, or it isn't there
abbrev pub found_matches : Bytes → Plain → Option Plain → Answer Bool
found_matches name pattern found = attribute name found >>= matches pattern
