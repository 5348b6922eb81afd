-- SET_INSERT, SET_UNION, SET_INTERSECTION, SET_DIFFERENCE and DIFFERENCE (ReQL API reference: setInsert, setUnion, setIntersection,
-- setDifference, difference). A set is an array of each value once, in order of first appearance.
use Rattle.std.specs.Prelude.{List, [], ◌∷◌, ◌++◌, Bool, not, if◌then◌else◌}
use Rattle.std.specs.List.{filter, list_any}
use Rattle.reql_datum.specs.Plain.{Plain}
use Rattle.reql_rules.specs.Types.{same}
use Rattle.reql_rules.specs.declared.words.SetOp.{SetOp}
use Rattle.reql_rules.specs.declared.words.SetOp.TheVariants.{SetInsert, SetUnion, SetIntersection, SetDifference, Difference}

abbrev pub is_among : List Plain → Plain → Bool
is_among vs v = list_any (same v) vs

-- those that came, and then those of a list that hadn't come yet, in order of first appearance
abbrev pub with_new : List Plain → List Plain → List Plain
with_new came [] = came
with_new came (v ∷ vs) = with_new (if is_among came v then came else came ++ v ∷ []) vs

abbrev pub firsts : List Plain → List Plain
firsts vs = with_new [] vs

abbrev pub common : List Plain → List Plain → List Plain
common us vs = filter (is_among vs) us

abbrev pub others : List Plain → List Plain → List Plain
others us vs = filter (λ u. not (is_among vs u)) us

abbrev pub set_of : SetOp → List Plain → List Plain → List Plain
set_of SetInsert us vs = firsts (us ++ vs)
set_of SetUnion us vs = firsts (us ++ vs)
set_of SetIntersection us vs = firsts (common us vs)
set_of SetDifference us vs = firsts (others us vs)
set_of Difference us vs = others us vs
