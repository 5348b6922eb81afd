-- Where entries lead.
use Rattle.std.specs.Prelude.{◌≡◌, ℕ, suc, List, [], ◌∷◌}

module _ {S E : Type 0} (after : S → E → S) where
  -- the state after some entries, one after the other
  abbrev pub led : S → List E → S
  led s [] = s
  led s (e ∷ es) = led (after s e) es

  abbrev pub CountsOne : (S → ℕ) → Type 0
  CountsOne place = (s : S) (e : E) → place (after s e) ≡ suc (place s)
