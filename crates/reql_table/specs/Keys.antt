-- How the entries of an index lie in its tree: an entry's key is the list of its value and its primary key.
use Rattle.std.specs.Prelude.{List, [], ◌∷◌, map, Bool, true, false, if◌then◌else◌}
use Rattle.reql_datum.specs.Plain.{Plain, array, null, high, Plains, no_items, item}
use Rattle.reql_term.specs.Views.{Entry}
use Rattle.reql_rules.specs.Lists.{array_of}

abbrev pub key_of : Entry → Plain
key_of e = array_of (e.0 ∷ e.1.0 ∷ [])

abbrev pub pair_of : Entry → Plain × Plain
pair_of e = (key_of e, e.1.1)

abbrev pub pairs_of : List Entry → List (Plain × Plain)
pairs_of = map pair_of

-- and back: the value, and the primary key, that such a key has
abbrev pub first_in : Plains → Plain
first_in no_items = null
first_in (item v vs) = v

abbrev pub second_in : Plains → Plain
second_in no_items = null
second_in (item v vs) = first_in vs

abbrev pub value_in : Plain → Plain
value_in (array vs) = first_in vs
value_in v = null

abbrev pub primary_in : Plain → Plain
primary_in (array vs) = second_in vs
primary_in v = null

-- the entry that a pair of a tree stands for: of an index, or of the primary order
abbrev pub entry_in : Bool → Plain × Plain → Entry
entry_in true m = (value_in m.0, (primary_in m.0, m.1))
entry_in false m = (m.0, (m.0, m.1))

-- keys that stand before and after the keys of all entries of a value
abbrev pub before : Plain → Plain
before v = array_of (v ∷ [])

abbrev pub after : Plain → Plain
after v = array_of (v ∷ high ∷ null ∷ [])

-- where a range of values begins and ends among the keys
abbrev pub low_end : Bool → Plain → Plain
low_end is_open v = if is_open then after v else before v

abbrev pub high_end : Bool → Plain → Plain
high_end is_open v = if is_open then before v else after v
