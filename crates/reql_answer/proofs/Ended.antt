-- The text that closes an answer is that of its last members.
use Rattle.std.proofs.Common.{◌≡◌, ℕ, List, [], ◌∷◌, ◌++◌, map, Bool, true, false, Option, Some, None, codes, decimal, refl, ap, ◌∙◌, append_assoc}
use Rattle.json.specs.Print.{escape_byte}
use Rattle.serde_json.specs.View.{items_of}
use Rattle.serde_json.specs.Written.{comma_if, compact_text, items_text, members_text}
use Rattle.reql_datum.specs.declared.point.Point.{Point}
use Rattle.reql_json.specs.Showing.{members_of}
use Rattle.reql_answer.specs.Body.{Stamped, point}
use Rattle.reql_answer.specs.Ending.{point_text, points_text, ending, end_text}

point_spelled : (p : Point) → compact_text (point p) ≡ point_text p
point_spelled p = simp append_assoc

one_more : (c p ps e : List ℕ) → c ++ (p ++ (ps ++ e)) ≡ ((c ++ p) ++ ps) ++ e
one_more c p ps e = simp append_assoc

points_spelled : (later : Bool) (ps : List Point) → items_text later (items_of (map point ps)) ≡ points_text later ps ++ 93 ∷ []
points_spelled later [] = refl
points_spelled later (p ∷ ps) =
    let rest = items_text true (items_of (map point ps)) in
    ap (λ t. comma_if later ++ (t ++ rest)) (point_spelled p) ∙ ap (λ t. comma_if later ++ (point_text p ++ t)) (points_spelled true ps)
    ∙ one_more (comma_if later) (point_text p) (points_text true ps) (93 ∷ [])

whole_end : (a c b ps k d e : List ℕ) → a ++ ((c ++ (b ++ ((ps ++ 93 ∷ []) ++ 125 ∷ []))) ++ (k ++ (d ++ e))) ≡ ((((a ++ c) ++ b) ++ ps) ++ (93 ∷ 125 ∷ [])) ++ ((k ++ d) ++ e)
whole_end a c b ps k d e = simp append_assoc

pub ending_spelled : (kind : ℕ) (stamp : Option Stamped) → members_text true (members_of (ending kind stamp)) ≡ end_text kind stamp
unfolding escape_byte
ending_spelled kind None = refl
ending_spelled kind (Some s) =
    rw (points_spelled false s.points) (whole_end (codes ",\"s\":{\"c\":") (decimal s.catalogue) (codes ",\"t\":[") (points_text false s.points) (codes ",\"t\":") (decimal kind) (codes "}"))
