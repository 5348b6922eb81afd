-- Lists that are walked, and what is kept of them.
use Rattle.std.proofs.Common.{◌≡◌, List, [], ◌∷◌, ◌++◌, map, Bool, true, false, cond, refl, ap, sym, ◌∙◌, append_assoc}
use Rattle.std.specs.List.{filter}
use Rattle.reql_datum.specs.Keys.{is_key}
use Rattle.reql_datum.specs.Plain.{Plain, items_of, listed}
use Rattle.reql_term.specs.Form.{forms_of}
use Rattle.reql_print.specs.Indexed.{made, all_made}

pub all_made_of : (vs : List Plain) → forms_of (map made vs) ≡ all_made (items_of vs)
all_made_of [] = refl
all_made_of (v ∷ vs) = rw (all_made_of vs) refl

pub listed_again : (vs : List Plain) → listed (items_of vs) ≡ vs
listed_again [] = refl
listed_again (v ∷ vs) = ap (λ us. v ∷ us) (listed_again vs)

-- a member that is kept, and one that is not
pub keeps_first : (v : Plain) (vs : List Plain) → is_key v ≡ true → filter is_key (v ∷ vs) ≡ v ∷ filter is_key vs
keeps_first v vs h = rw h refl

pub drops_first : (v : Plain) (vs : List Plain) → is_key v ≡ false → filter is_key (v ∷ vs) ≡ filter is_key vs
drops_first v vs h = rw h refl

pub ruleset kept = (keeps_first, drops_first)

again_by : (b : Bool) (v : Plain) (vs : List Plain) → is_key v ≡ b → filter is_key (filter is_key vs) ≡ filter is_key vs → filter is_key (cond b (v ∷ filter is_key vs) (filter is_key vs)) ≡ cond b (v ∷ filter is_key vs) (filter is_key vs)
again_by true v vs is h = keeps_first v (filter is_key vs) is ∙ ap (λ us. v ∷ us) h
again_by false v vs is h = h

pub kept_again : (vs : List Plain) → filter is_key (filter is_key vs) ≡ filter is_key vs
kept_again [] = refl
kept_again (v ∷ vs) = again_by (is_key v) v vs refl (kept_again vs)

pub keys_listed : (items keys : List Plain) → keys ≡ filter is_key items → keys ≡ filter is_key (listed (items_of items))
keys_listed items keys is = is ∙ ap (filter is_key) (sym (listed_again items))
