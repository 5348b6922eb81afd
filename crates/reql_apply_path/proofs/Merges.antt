-- One argument merged in, and then the others.
use Rattle.std.proofs.Common.{◌≡◌, refl, ◌∙◌, List, [], ◌∷◌, Ok, Err}
use Rattle.reql_datum.specs.Answer.{Answer, ◌>>=◌}
use Rattle.reql_datum.specs.Plain.{Plain}
use Rattle.reql_rules.specs.Lists.{Bytes, object_of}
use Rattle.reql_rules.specs.Merging.{merge}
use Rattle.reql_value_spec.specs.Called.{answer}
use Rattle.reql_value_spec.specs.Fields.{merged_on}
use Rattle.reql_value_spec.specs.Meant.{Meant, Given, Calls}
use Rattle.reql_value_spec.specs.Wanted.{to_object}
use Rattle.reql_apply_path.specs.Merged.{object_answered, one_merged}

objects_on : (calls : Calls) (d : Plain) (gs : List Given) (r : Answer (List (Bytes × Plain)))
    → (r >>= λ ms. merged_on calls (merge d (object_of ms)) gs) ≡ ((r >>= λ ms. Ok (merge d (object_of ms))) >>= λ e. merged_on calls e gs)
objects_on calls d gs (Ok ms) = refl
objects_on calls d gs (Err e) = refl

answered_on : (calls : Calls) (d : Plain) (gs : List Given) (r : Answer Meant)
    → (r >>= λ m. (to_object m >>= λ ms. merged_on calls (merge d (object_of ms)) gs)) ≡ ((r >>= to_object) >>= λ ms. merged_on calls (merge d (object_of ms)) gs)
answered_on calls d gs (Ok m) = refl
answered_on calls d gs (Err e) = refl

pub merged_first : (calls : Calls) (d : Plain) (g : Given) (gs : List Given) → merged_on calls d (g ∷ gs) ≡ (one_merged calls g d >>= λ e. merged_on calls e gs)
merged_first calls d g gs = answered_on calls d gs (answer calls g (d ∷ [])) ∙ objects_on calls d gs (object_answered calls g d)
