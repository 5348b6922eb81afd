-- BRACKET of two arguments goes by what the second is.
use Rattle.std.proofs.Common.{◌≡◌, refl, sym, ap, ◌∙◌, List, [], ◌∷◌, length, get_or, map, Option, Some, None, option_and_then, arith}
use Rattle.reql_datum.specs.Plain.{Plain, low, array, boolean, null, number, object, binary, time, text, high}
use Rattle.reql_rules.specs.Types.{number_in, text_in}
use Rattle.reql_value_spec.specs.Fields.{bracket, bracket_by}
use Rattle.reql_value_spec.specs.Meant.{Given, Calls, Options}
use Rattle.reql_value_spec.specs.Wanted.{seen}
use Rattle.reql_value_spec.specs.World.{World}
use Rattle.reql_apply_path.specs.Brackets.{bracket_at}

by_kind : (v : Option Plain) (w : World) (calls : Calls) (g h : Given) (opts : Options)
    → bracket_by v w calls (g ∷ h ∷ []) opts ≡ bracket_at (option_and_then number_in v) (option_and_then text_in v) w calls (g ∷ h ∷ []) h opts
by_kind (Some low) w calls g h opts = refl
by_kind (Some (array vs)) w calls g h opts = refl
by_kind (Some (boolean b)) w calls g h opts = refl
by_kind (Some null) w calls g h opts = refl
by_kind (Some (number n)) w calls g h opts = refl
by_kind (Some (object ms)) w calls g h opts = refl
by_kind (Some (binary s)) w calls g h opts = refl
by_kind (Some (time t)) w calls g h opts = refl
by_kind (Some (text s)) w calls g h opts = refl
by_kind (Some high) w calls g h opts = refl
by_kind None w calls g h opts = refl

pub bracket_is : {X : Type 0} (see : X → Given) (xs : List X) (y : X) (w : World) (calls : Calls) (opts : Options) → length xs ≡ 2 → y ≡ get_or xs 1 y
    → bracket w calls (map see xs) opts ≡ bracket_at (option_and_then number_in (seen (see y))) (option_and_then text_in (seen (see y))) w calls (map see xs) (see y) opts
bracket_is see [] y w calls opts two here = absurd (omega arith)
bracket_is see (a ∷ []) y w calls opts two here = absurd (omega arith)
bracket_is see (a ∷ b ∷ []) y w calls opts two here =
    by_kind (seen (see b)) w calls (see a) (see b) opts
    ∙ ap (λ z. bracket_at (option_and_then number_in (seen (see z))) (option_and_then text_in (seen (see z))) w calls (see a ∷ see b ∷ []) (see z) opts) (sym here)
bracket_is see (a ∷ b ∷ d ∷ xs) y w calls opts two here = absurd (omega arith)
