-- A range of keys, and the values in it.
use Rattle.std.specs.Prelude.{List, map, Bool, ◌&&◌, not}
use Rattle.std.specs.List.{filter}
use Rattle.reql_datum.specs.Plain.{Plain}
use Rattle.reql_ptree.specs.Next.{behind}

-- whether a pair's key lies from bottom to top, an end itself left out where it is open
abbrev pub lies_within : Plain → Bool → Plain → Bool → Plain × Plain → Bool
lies_within bottom low_open top high_open m = not (behind bottom low_open m) && behind top (not high_open) m

-- the values at the keys of a range, in order
abbrev pub range_of : Plain → Bool → Plain → Bool → List (Plain × Plain) → List Plain
range_of bottom low_open top high_open ms = map (λ m. m.1) (filter (lies_within bottom low_open top high_open) ms)
