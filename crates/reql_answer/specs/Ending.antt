-- What stands after the results of an answer.
use Rattle.std.specs.Prelude.{ℕ, List, [], ◌∷◌, ◌++◌, Bool, true, false, Option, Some, None, option_map, codes, decimal}
use Rattle.serde_json.specs.Written.{comma_if}
use Rattle.reql_datum.specs.declared.point.Point.{Point}
use Rattle.reql_answer.specs.Body.{Answer, Stamped, also, stamp_value, whole}

-- its members
abbrev pub ending : ℕ → Option Stamped → Answer
ending kind stamp = also (codes "s") (option_map stamp_value stamp) ++ ((codes "t", whole kind) ∷ [])

abbrev pub point_text : Point → List ℕ
point_text p = codes "[" ++ decimal p.slot ++ codes "," ++ decimal p.place ++ codes "," ++ decimal p.stamp ++ codes "]"

-- points with a comma before each, the first one only where one stands before
abbrev pub points_text : Bool → List Point → List ℕ
points_text later [] = []
points_text later (p ∷ ps) = (comma_if later ++ point_text p) ++ points_text true ps

-- the points that an answer names, as its member
abbrev pub stamp_text : Stamped → List ℕ
stamp_text s = codes ",\"s\":{\"c\":" ++ decimal s.catalogue ++ codes ",\"t\":[" ++ points_text false s.points ++ codes "]}"

abbrev pub stamp_text_if : Option Stamped → List ℕ
stamp_text_if None = []
stamp_text_if (Some s) = stamp_text s

abbrev pub kind_text : ℕ → List ℕ
kind_text kind = codes ",\"t\":" ++ decimal kind ++ codes "}"

-- the text of the members of `ending`, and the closing bracket
abbrev pub end_text : ℕ → Option Stamped → List ℕ
end_text kind stamp = stamp_text_if stamp ++ kind_text kind
