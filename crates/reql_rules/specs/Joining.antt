-- INNER_JOIN, OUTER_JOIN, EQ_JOIN and ZIP (ReQL API reference: innerJoin, outerJoin, eqJoin, zip).
use Rattle.std.specs.Prelude.{List, [], ◌∷◌, map, Bool, if◌then◌else◌, Option, Some, None, Ok, codes}
use Rattle.reql_datum.specs.Answer.{Answer, ◌>>=◌}
use Rattle.reql_datum.specs.Members.{find}
use Rattle.reql_datum.specs.Plain.{Plain, null}
use Rattle.reql_rules.specs.Lists.{object_of, each, each_joined}
use Rattle.reql_rules.specs.Fields.{attribute}
use Rattle.reql_rules.specs.Types.{as_object, truth}
use Rattle.reql_rules.specs.Mapping.{if_any, passing}
use Rattle.reql_rules.specs.Merging.{merge}

abbrev pub of_left : Plain → Plain
of_left l = object_of ((codes "left", l) ∷ [])

abbrev pub of_both : Plain → Plain → Plain
of_both l r = object_of ((codes "left", l) ∷ (codes "right", r) ∷ [])

-- the pairs of one left element; without a partner it stands alone in an outer join
abbrev pub partnered : Bool → Plain → List Plain → List Plain
partnered outer l [] = if outer then of_left l ∷ [] else []
partnered outer l rs = map (of_both l) rs

abbrev pub partners : (Plain → Plain → Answer Plain) → Plain → List Plain → Answer (List Plain)
partners m l rs = passing (λ r. m l r >>= λ v. Ok (truth v)) rs

abbrev pub join_all : Bool → (Plain → Plain → Answer Plain) → List Plain → List Plain → Answer (List Plain)
join_all outer m ls rs = each_joined (λ l. partners m l rs >>= λ ps. Ok (partnered outer l ps)) ls

-- the pairs of one left element with the documents that have its key; none where the key is missing or null
abbrev pub matched : (Plain → List Plain) → Plain → Option Plain → List Plain
matched having l None = []
matched having l (Some null) = []
matched having l (Some k) = map (of_both l) (having k)

abbrev pub eq_join_all : (Plain → Answer Plain) → (Plain → List Plain) → List Plain → Answer (List Plain)
eq_join_all m having ls = each_joined (λ l. if_any (m l) >>= λ k. Ok (matched having l k)) ls

-- left merged with right, or left alone
abbrev pub zipped : Plain → Option Plain → Plain
zipped l None = l
zipped l (Some r) = merge l r

abbrev pub zip_one : Plain → Answer Plain
zip_one v = do
  ms ← as_object v
  l ← attribute (codes "left") (find (codes "left") ms)
  Ok (zipped l (find (codes "right") ms))

abbrev pub zip_all : List Plain → Answer (List Plain)
zip_all vs = each zip_one vs
