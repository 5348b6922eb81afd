-- OBJECT's arguments are a name and its value each, or there is one too many.
use Rattle.std.proofs.Common.{◌≡◌, refl, ap, ◌∙◌, ℕ, suc, ◌%◌, nat_eq, List, [], ◌∷◌, length, map, Bool, true, false, if◌then◌else◌, Ok, Err, arith}
use Rattle.reql_datum.specs.Answer.{Answer, ◌>>=◌}
use Rattle.reql_datum.specs.Outcome.{Fails}
use Rattle.reql_datum.specs.declared.fault.Fault.{Fault}
use Rattle.reql_operand.proofs.Steps.{fails_on}
use Rattle.reql_rules.specs.Faults.{misplaced}
use Rattle.reql_rules.specs.Lists.{object_of}
use Rattle.reql_rules.specs.Objects.{object_by}
use Rattle.reql_value_spec.specs.Fields.{pairs_given, named_value}
use Rattle.reql_value_spec.specs.Meant.{Given}
use Rattle.reql_apply_path.specs.Pairs.{are_pairs, paired, put_pairs, object_of_pairs}

one_more : (b : Bool) (p : Given × Given) (ps : List (Given × Given)) (r : Answer (List (Given × Given))) → r ≡ (if b then Ok ps else Err misplaced)
    → (r >>= λ qs. Ok (p ∷ qs)) ≡ (if b then Ok (p ∷ ps) else Err misplaced)
one_more true p ps r h = rw h refl
one_more false p ps r h = rw h refl

pairs_are : (gs : List Given) → pairs_given gs ≡ (if are_pairs gs then Ok (paired gs) else Err misplaced)
pairs_are [] = refl
pairs_are (k ∷ []) = refl
pairs_are (k ∷ v ∷ gs) = one_more (are_pairs gs) (k, v) (paired gs) (pairs_given gs) (pairs_are gs)

then_put : (b : Bool) (ps : List (Given × Given)) (r : Answer (List (Given × Given))) → r ≡ (if b then Ok ps else Err misplaced)
    → (r >>= λ qs. object_by named_value qs) ≡ (if b then object_by named_value ps else Err misplaced)
then_put true ps r h = rw h refl
then_put false ps r h = rw h refl

pub object_is : (gs : List Given) → (pairs_given gs >>= λ ps. object_by named_value ps) ≡ object_of_pairs gs
object_is gs = then_put (are_pairs gs) (paired gs) (pairs_given gs) (pairs_are gs)

pub object_none : (gs : List Given) → are_pairs gs ≡ false → (pairs_given gs >>= λ ps. object_by named_value ps) ≡ Err misplaced
object_none gs h = object_is gs ∙ ap (λ b. if b then object_by named_value (paired gs) else Err misplaced) h

pub object_some : (gs : List Given) → are_pairs gs ≡ true → (pairs_given gs >>= λ ps. object_by named_value ps) ≡ (put_pairs [] gs >>= λ ms. Ok (object_of ms))
object_some gs h = object_is gs ∙ ap (λ b. if b then object_by named_value (paired gs) else Err misplaced) h

pub object_fails : (gs : List Given) (e : Fault) → are_pairs gs ≡ true → Fails e (put_pairs [] gs) → Fails e (pairs_given gs >>= λ ps. object_by named_value ps)
object_fails gs e h f = rw (object_some gs h) (fails_on e (put_pairs [] gs) (λ ms. Ok (object_of ms)) f)

two_more : (n : ℕ) → (n % 2) ≡ (suc (suc n) % 2)
two_more n = omega arith

-- they are two by two where there are evenly many
pub even_is : {X : Type 0} (see : X → Given) (xs : List X) → are_pairs (map see xs) ≡ nat_eq (length xs % 2) 0
even_is see [] = refl
even_is see (x ∷ []) = refl
even_is see (x ∷ y ∷ xs) = even_is see xs ∙ ap (λ n. nat_eq n 0) (two_more (length xs))
