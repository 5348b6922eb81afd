-- The parameters of a function, no two alike.
use Rattle.std.specs.Prelude.{◌≡◌, ℕ, List, [], ◌∷◌}

-- an id that is none of these
abbrev pub IsNew : ℕ → List ℕ → Type 0
IsNew id [] = Unit {0}
IsNew id (k ∷ ks) = (k ≡ id → ⊥) × IsNew id ks

abbrev pub AreDistinct : List ℕ → Type 0
AreDistinct [] = Unit {0}
AreDistinct (k ∷ ks) = IsNew k ks × AreDistinct ks
