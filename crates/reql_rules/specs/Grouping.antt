-- GROUP and UNGROUP (ReQL API reference: group, ungroup).
use Rattle.std.specs.Prelude.{List, [], ◌∷◌, ◌++◌, map, Ok, codes}
use Rattle.std.specs.Option.{unwrap_or}
use Rattle.reql_datum.specs.Answer.{Answer, ◌>>=◌}
use Rattle.reql_datum.specs.Order.{order}
use Rattle.reql_datum.specs.Plain.{Plain, null}
use Rattle.reql_memory.specs.Sorted.{find_by, put_by}
use Rattle.reql_rules.specs.Lists.{object_of, array_of, each}
use Rattle.reql_rules.specs.Mapping.{if_any}

-- groups rise by their values; each has its members in order
abbrev pub Gathered : Type 0
Gathered = List (Plain × List Plain)

abbrev pub members_at : Plain → Gathered → List Plain
members_at g gs = unwrap_or (find_by order g gs) []

abbrev pub joins : Plain → Plain → Gathered → Gathered
joins g v gs = put_by order g (members_at g gs ++ v ∷ []) gs

-- pairs of a group and a member, one after another
abbrev pub gather_on : Gathered → List (Plain × Plain) → Gathered
gather_on gs [] = gs
gather_on gs (p ∷ ps) = gather_on (joins p.0 p.1 gs) ps

-- the groups, each with the array of its members
abbrev pub as_groups : Gathered → List (Plain × Plain)
as_groups gs = map (λ g. (g.0, array_of g.1)) gs

abbrev pub gather : List (Plain × Plain) → List (Plain × Plain)
gather ps = as_groups (gather_on [] ps)

-- a value that is missing counts as null
abbrev pub or_null : Answer Plain → Answer Plain
or_null a = if_any a >>= λ k. Ok (unwrap_or k null)

abbrev pub with_group : (Plain → Answer Plain) → Plain → Answer (Plain × Plain)
with_group m v = do
  g ← or_null (m v)
  Ok (g, v)

abbrev pub group_all : (Plain → Answer Plain) → List Plain → Answer (List (Plain × Plain))
group_all m vs = do
  ps ← each (with_group m) vs
  Ok (gather ps)

abbrev pub reduction : Plain × Plain → Plain
reduction g = object_of ((codes "group", g.0) ∷ (codes "reduction", g.1) ∷ [])

abbrev pub ungroup : List (Plain × Plain) → List Plain
ungroup gs = map reduction gs
