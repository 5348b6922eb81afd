-- Names and documents in a map, as the members that they stand for.
use Rattle.std.proofs.Common.{◌≡◌, List, [], ◌∷◌, ◌++◌, Option, Some, None, option_map, is_some, true, false, ◌<◌, length, refl, sym, ap, ◌∙◌, append-nil, arith}
use Rattle.reql_memory.proofs.Mapped.{find_map, put_map}
use Rattle.reql_datum.specs.Members.{AreRising, text_order, find, put}
use Rattle.reql_datum.specs.Plain.{Plain}
use Rattle.reql_datum.specs.View.{plain}
use Rattle.reql_datum.specs.declared.datum.Datum.{Datum}
use Rattle.reql_datum.proofs.Members.{put_step, rising_values}
use Rattle.reql_rules.specs.Lists.{Bytes}
use Rattle.reql_scalar.specs.Two.{gathered}

there : (o : Option Datum) → is_some (option_map plain o) ≡ is_some o
there None = refl
there (Some d) = refl

pub found_there : (k : Bytes) (es : List (Bytes × Datum)) → is_some (find k es) ≡ is_some (find k (gathered es))
found_there k es = sym (ap is_some (find_map text_order text_order (λ j. j) plain (λ i j. refl) k es) ∙ there (find k es))

pub gathered_put : (k : Bytes) (d : Datum) (es fs : List (Bytes × Datum)) → fs ≡ put k d es → gathered fs ≡ put k (plain d) (gathered es)
gathered_put k d es fs is = ap gathered is ∙ sym (put_map text_order text_order (λ j. j) plain (λ i j. refl) k d es)

pub rising_gathered : (es : List (Bytes × Datum)) → AreRising es → AreRising (gathered es)
rising_gathered es up = rising_values plain es up

-- one member more, the first of those left
pub built_on : (done now : List (Bytes × Plain)) (left later : List (Bytes × Datum)) (all : List (Bytes × Plain)) (k : Bytes) (d : Datum)
    → AreRising all → left ≡ (k, d) ∷ later → now ≡ put k (plain d) done → done ++ gathered left ≡ all → now ++ gathered later ≡ all
built_on done now left later all k d up is put_is so = ap (λ t. t ++ gathered later) put_is ∙ put_step done (gathered later) all k (plain d) up (ap (λ t. done ++ gathered t) (sym is) ∙ so)

pub built_all : (done : List (Bytes × Plain)) (left : List (Bytes × Datum)) (all : List (Bytes × Plain)) → left ≡ [] → done ++ gathered left ≡ all → done ≡ all
built_all done left all is so = sym (append-nil done) ∙ ap (λ t. done ++ gathered t) (sym is) ∙ so

-- a map that gave no first member has none
pub none_left : {A : Type 0} (es : List A) → (0 < length es → false ≡ true) → es ≡ []
none_left [] h = refl
none_left (e ∷ es) h = absurd (let f : false ≡ true = h (omega arith) in cc)

-- the same from members in place to those of a map
pub moved_on : (done now left later all : List (Bytes × Plain)) (k : Bytes) (v : Plain)
    → AreRising all → left ≡ (k, v) ∷ later → now ≡ put k v done → done ++ left ≡ all → now ++ later ≡ all
moved_on done now left later all k v up is put_is so = ap (λ t. t ++ later) put_is ∙ put_step done later all k v up (ap (λ t. done ++ t) (sym is) ∙ so)
