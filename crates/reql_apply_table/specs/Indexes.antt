-- The texts among documents, and what is told of an index.
use Rattle.std.specs.Prelude.{List, [], ◌∷◌}
use Rattle.reql_datum.specs.Answer.{Answer, ◌>>=◌}
use Rattle.reql_datum.specs.Members.{find}
use Rattle.reql_datum.specs.Plain.{Plain, text}
use Rattle.reql_rules.specs.Lists.{Bytes, each}
use Rattle.reql_value_spec.specs.Meant.{Given}
use Rattle.reql_value_spec.specs.Tables.{status_of, index_names, or_all}
use Rattle.reql_value_spec.specs.Wanted.{as_text}
use Rattle.reql_value_spec.specs.World.{View}

abbrev pub and_text : Plain → List Bytes → List Bytes
and_text (text s) ss = s ∷ ss
and_text v ss = ss

abbrev pub texts_in : List Plain → List Bytes
texts_in [] = []
texts_in (v ∷ vs) = and_text v (texts_in vs)

abbrev pub status_in : View → Bytes → Answer Plain
status_in v name = status_of name (find name v.indexes)

-- what is told of the indexes that arguments name, or of all
abbrev pub statuses_asked : View → List Given → Answer (List Plain)
statuses_asked v gs = do
  names ← each as_text gs
  each (status_in v) (or_all (index_names v) names)
