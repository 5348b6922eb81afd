-- Members and items of an object and a list that are built, where there are any.
use Rattle.std.specs.Prelude.{List, [], ◌∷◌, ◌++◌, Option, Some, None}
use Rattle.reql_datum.specs.Members.{put}
use Rattle.reql_datum.specs.Plain.{Plain}
use Rattle.reql_rules.specs.Lists.{Bytes}

abbrev pub put_also : Bytes → Option Plain → List (Bytes × Plain) → List (Bytes × Plain)
put_also k None ms = ms
put_also k (Some v) ms = put k v ms

-- a member in front, where there is a value
abbrev pub member_also : Bytes → Option Plain → List (Bytes × Plain) → List (Bytes × Plain)
member_also k None ms = ms
member_also k (Some v) ms = (k, v) ∷ ms

-- one item more at the end, where there is one
abbrev pub push_also : Option Plain → List Plain → List Plain
push_also None vs = vs
push_also (Some v) vs = vs ++ v ∷ []
