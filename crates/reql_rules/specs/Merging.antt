-- MERGE of two values (ReQL API reference: merge, literal): LITERAL of a value stands for it unmerged, LITERAL of nothing takes a name away.
use Rattle.std.specs.Prelude.{List, if◌then◌else◌, Option, Some, None, codes}
use Rattle.std.specs.Option.{unwrap_or}
use Rattle.reql_datum.specs.Members.{find, put, without}
use Rattle.reql_datum.specs.Kinds.{is_literal}
use Rattle.reql_datum.specs.Plain.{Plain, object, null, Pairs, no_pairs, pair, members}
use Rattle.reql_rules.specs.Lists.{Bytes, object_of}
use Rattle.reql_rules.specs.Types.{object_in}
use Rattle.reql_rules.specs.Patterns.{pair_also}

-- what a LITERAL holds
abbrev pub literal_value : Pairs → Option Plain
literal_value ms = find (codes "value") (members ms)

-- a new value that stands, with the LITERALs of its fields taken; nothing where it is LITERAL of nothing
abbrev mutual
  pub resolved : Plain → Option Plain
  resolved (object ms) = if is_literal ms then literal_value ms else Some (object (resolved_pairs ms))
  resolved v = Some v

  pub resolved_pairs : Pairs → Pairs
  resolved_pairs no_pairs = no_pairs
  resolved_pairs (pair k v ms) = pair_also k (resolved v) (resolved_pairs ms)

-- a name set to a value, or taken away
abbrev pub set_to : Bytes → Option Plain → List (Bytes × Plain) → List (Bytes × Plain)
set_to k None ms = without k ms
set_to k (Some v) ms = put k v ms

-- where the old value is no object the new one stands
abbrev pub onto : (List (Bytes × Plain) → Plain) → Option Plain → Option (List (Bytes × Plain)) → Option Plain
onto joined stands None = stands
onto joined stands (Some ms) = Some (joined ms)

abbrev pub onto_old : (List (Bytes × Plain) → Plain) → Option Plain → Option Plain → Option Plain
onto_old joined stands None = stands
onto_old joined stands (Some v) = onto joined stands (object_in v)

-- a new value on an old one, where there is one
abbrev mutual
  pub merged : Plain → Option Plain → Option Plain
  merged (object ms) = λ old. if is_literal ms then literal_value ms else onto_old (λ os. object_of (merged_pairs ms os)) (resolved (object ms)) old
  merged v = λ old. Some v

  pub merged_pairs : Pairs → List (Bytes × Plain) → List (Bytes × Plain)
  merged_pairs no_pairs = λ os. os
  merged_pairs (pair k v ms) = λ os. merged_pairs ms (set_to k (merged v (find k os)) os)

abbrev pub merge : Plain → Plain → Plain
merge old new = unwrap_or (merged new (Some old)) null
