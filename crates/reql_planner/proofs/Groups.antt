-- The object that groups print as.
use Rattle.std.proofs.Common.{◌≡◌, List, [], map, codes, refl}
use Rattle.reql_datum.specs.Members.{put}
use Rattle.reql_datum.specs.Plain.{Plain, text}
use Rattle.reql_rules.specs.Lists.{array_of, object_of}
use Rattle.reql_value_spec.specs.Shown.{grouped_data, group_pair}

pub puts : (gs : List (Plain × Plain)) → object_of (put (codes "data") (array_of (map group_pair gs)) (put (codes "$reql_type$") (text (codes "GROUPED_DATA")) [])) ≡ grouped_data gs
puts gs = refl
