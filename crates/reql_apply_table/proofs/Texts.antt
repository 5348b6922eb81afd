-- The names of indexes as texts, and back.
use Rattle.std.proofs.Common.{◌≡◌, List, [], ◌∷◌, ◌++◌, map, refl, ap}
use Rattle.reql_datum.specs.Plain.{Plain, low, array, boolean, null, number, object, binary, time, text, high}
use Rattle.reql_term.specs.Views.{Index}
use Rattle.reql_rules.specs.Lists.{Bytes}
use Rattle.reql_apply_table.specs.Indexes.{texts_in}

pub names_as_texts : (is : List (Bytes × Index)) → map text (map (λ i. i.0) is) ≡ map (λ m. text m.0) is
names_as_texts [] = refl
names_as_texts (i ∷ is) = ap (λ vs. text i.0 ∷ vs) (names_as_texts is)

pub texts_back : (names : List Bytes) → texts_in (map text names) ≡ names
texts_back [] = refl
texts_back (n ∷ ns) = ap (λ ms. n ∷ ms) (texts_back ns)

pub texts_apart : (v : Plain) (vs : List Plain) → texts_in (v ∷ vs) ≡ texts_in (v ∷ []) ++ texts_in vs
texts_apart low vs = refl
texts_apart (array us) vs = refl
texts_apart (boolean b) vs = refl
texts_apart null vs = refl
texts_apart (number n) vs = refl
texts_apart (object ms) vs = refl
texts_apart (binary s) vs = refl
texts_apart (time t) vs = refl
texts_apart (text s) vs = refl
texts_apart high vs = refl
