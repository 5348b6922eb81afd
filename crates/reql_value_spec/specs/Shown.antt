-- What a request is answered with: a value, groups, or a sequence, each of which may be shown.
use Rattle.std.specs.Prelude.{List, [], ◌∷◌, map, if◌then◌else◌, Ok, Err, codes}
use Rattle.std.specs.Option.{unwrap_or}
use Rattle.reql_datum.specs.Answer.{Answer, ◌>>=◌}
use Rattle.reql_datum.specs.Kinds.{is_storable, reserved}
use Rattle.reql_datum.specs.Plain.{Plain, null, text}
use Rattle.reql_rules.specs.Faults.{misplaced, unshowable}
use Rattle.reql_rules.specs.Lists.{each, array_of, object_of}
use Rattle.reql_value_spec.specs.Meant.{Kind, rows_in_array, Meant, one, stream, selection, row, table, grouped, database, callable}
use Rattle.reql_value_spec.specs.Wanted.{wrong}
use Rattle.reql_value_spec.specs.World.{World, view_at, documents_of}

pub data Shown : Type 0 where
  atom : Plain → Shown
  groups : List (Plain × Plain) → Shown
  sequence : List Plain → Shown

abbrev pub may_show : Plain → Answer Plain
may_show d = if is_storable d then Ok d else Err unshowable

abbrev pub as_atom : Plain → Answer Shown
as_atom d = may_show d >>= λ e. Ok (atom e)

abbrev pub as_sequence : List Plain → Answer Shown
as_sequence ds = each may_show ds >>= λ es. Ok (sequence es)

abbrev pub group_pair : Plain × Plain → Plain
group_pair g = array_of (g.0 ∷ g.1 ∷ [])

abbrev pub as_groups : List (Plain × Plain) → Answer Shown
as_groups gs = each may_show (map group_pair gs) >>= λ ps. Ok (groups gs)

abbrev pub rows_shown : Kind → List Plain → Answer Shown
rows_shown rows_in_array ds = as_atom (array_of ds)
rows_shown k ds = as_sequence ds

abbrev pub shown : World → Meant → Answer Shown
shown w (one d) = as_atom d
shown w (stream ds) = as_sequence ds
shown w (selection n k ds) = rows_shown k ds
shown w (row n k d) = as_atom (unwrap_or d null)
shown w (table n) = view_at w n >>= λ v. as_sequence (documents_of v)
shown w (grouped gs) = as_groups gs
shown w (database name) = Err misplaced
shown w callable = Err (wrong (codes "DATUM") callable)

-- how groups print
abbrev pub grouped_data : List (Plain × Plain) → Plain
grouped_data gs = object_of ((reserved, text (codes "GROUPED_DATA")) ∷ (codes "data", array_of (map group_pair gs)) ∷ [])
