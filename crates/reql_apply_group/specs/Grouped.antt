-- Groups by several keys, and by the entries of an index.
use Rattle.std.specs.Prelude.{List, map, Ok}
use Rattle.std.specs.List.{zip}
use Rattle.reql_datum.specs.Answer.{Answer, ◌>>=◌}
use Rattle.reql_datum.specs.Plain.{Plain}
use Rattle.reql_term.specs.Views.{Entry, beside}
use Rattle.reql_rules.specs.Grouping.{gather, or_null}
use Rattle.reql_rules.specs.Lists.{Bytes, each, array_of}
use Rattle.reql_value_spec.specs.Called.{answer_key}
use Rattle.reql_value_spec.specs.Groups.{group_in}
use Rattle.reql_value_spec.specs.Meant.{Meant, Given, Calls, Options, meant_of}
use Rattle.reql_value_spec.specs.Orders.{table_source}
use Rattle.reql_value_spec.specs.Wanted.{index_text}
use Rattle.reql_value_spec.specs.World.{World}

-- a key's value of an element, null where it is missing
abbrev pub key_or_null : Calls → Plain → Given → Answer Plain
key_or_null calls d g = or_null (answer_key calls g d)

-- the array of the values of keys
abbrev pub keys_value : Calls → List Given → Plain → Answer Plain
keys_value calls gs d = each (key_or_null calls d) gs >>= λ vs. Ok (array_of vs)

-- the groups of elements, by the index that is asked for where there are no keys
abbrev pub groups_of : World → Calls → Given → List Given → List Plain → Options → Answer (List (Plain × Plain))
groups_of w calls s ks ds opts = index_text opts >>= λ i. group_in w calls (meant_of s) ks ds i

-- a document with the value of its entry
abbrev pub entry_grouped : Entry → Plain × Plain
entry_grouped e = (e.0, e.1.1)

-- the documents of a table by the values of an index
abbrev pub groups_by : World → Bytes → Meant → Answer (List (Plain × Plain))
groups_by w name m = table_source w name m >>= λ es. Ok (gather (map entry_grouped es))

-- the values of the entries of a table, and beside them their documents
abbrev pub beside_source : World → Bytes → Meant → Answer (List Plain × List Plain)
beside_source w name m = table_source w name m >>= λ es. Ok (beside es)

abbrev pub groups_beside : World → Bytes → Meant → Answer (List (Plain × Plain))
groups_beside w name m = beside_source w name m >>= λ b. Ok (gather (zip b.0 b.1))
