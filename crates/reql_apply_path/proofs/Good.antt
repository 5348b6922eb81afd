-- One pattern more.
use Rattle.std.proofs.Common.{◌≡◌, refl, ap, ◌∙◌, List, [], ◌∷◌, ◌++◌, Bool, true, false, ◌&&◌}
use Rattle.reql_datum.specs.Plain.{Plain, items_of}
use Rattle.reql_rules.specs.Patterns.{is_pattern, are_patterns}

and_true : (b : Bool) → (b && true) ≡ b
and_true true = refl
and_true false = refl

and_more : (a b c x : Bool) → x ≡ (b && c) → (a && x) ≡ ((a && b) && c)
and_more true b c x h = h
and_more false b c x h = refl

one_more : (vs : List Plain) (v : Plain) → are_patterns (items_of (vs ++ v ∷ [])) ≡ (are_patterns (items_of vs) && is_pattern v)
one_more [] v = and_true (is_pattern v)
one_more (u ∷ us) v = and_more (is_pattern u) (are_patterns (items_of us)) (is_pattern v) (are_patterns (items_of (us ++ v ∷ []))) (one_more us v)

pub good_more : (vs : List Plain) (v : Plain) → are_patterns (items_of vs) ≡ true → is_pattern v ≡ true → are_patterns (items_of (vs ++ v ∷ [])) ≡ true
good_more vs v h i = one_more vs v ∙ ap (λ b. b && is_pattern v) h ∙ i

pub good_after : (vs ws : List Plain) (v : Plain) → ws ≡ vs ++ v ∷ [] → are_patterns (items_of vs) ≡ true → is_pattern v ≡ true → are_patterns (items_of ws) ≡ true
good_after vs ws v is h i = ap (λ us. are_patterns (items_of us)) is ∙ good_more vs v h i
