-- Members that are put into an object one after another.
use Rattle.std.specs.Prelude.{List, [], ◌∷◌}
use Rattle.reql_datum.specs.Members.{put}
use Rattle.reql_datum.specs.Plain.{Plain}
use Rattle.reql_rules.specs.Lists.{Bytes}

-- with each of some members put in
abbrev pub put_all : List (Bytes × Plain) → List (Bytes × Plain) → List (Bytes × Plain)
put_all [] ms = ms
put_all (n ∷ ns) ms = put_all ns (put n.0 n.1 ms)
