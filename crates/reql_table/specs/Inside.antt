-- What lies between two keys of a tree, in the order of the keys or in the reverse.
use Rattle.std.specs.Prelude.{List, map, reverse, Bool, if◌then◌else◌}
use Rattle.std.specs.List.{filter}
use Rattle.reql_datum.specs.Plain.{Plain}
use Rattle.reql_datum.specs.View.{plain}
use Rattle.reql_term.specs.Views.{Entry}
use Rattle.reql_ptree.specs.Range.{lies_within, range_of}
use Rattle.reql_table.specs.Keys.{entry_in}
use Rattle.reql_table.specs.declared.slice.Slice.{Slice}
use Rattle.reql_table.specs.declared.walk.Pair.{Pair}

-- the documents
abbrev pub inside : Slice → List Plain
inside s = range_of (plain s.low) s.low_open (plain s.high) s.high_open s.tree.now

-- the pairs past a place, and all
abbrev pub rest_of : Slice → Plain → Bool → List (Plain × Plain)
rest_of s k past = filter (lies_within k past (plain s.high) s.high_open) s.tree.now

abbrev pub pairs_inside : Slice → List (Plain × Plain)
pairs_inside s = rest_of s (plain s.low) s.low_open

-- the entries that they stand for
abbrev pub entries_inside : Slice → List Entry
entries_inside s = map (entry_in s.filed) (pairs_inside s)

abbrev pub along : Bool → List Plain → List Plain
along down ds = if down then reverse ds else ds

abbrev pub pair : Pair → Plain × Plain
pair p = (plain p.key, plain p.document)
