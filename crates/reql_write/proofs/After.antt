-- The documents after those that were treated so far.
use Rattle.std.proofs.Common.{◌≡◌, List, [], ◌∷◌, ◌++◌, map, refl, sym, ap, ◌∙◌}
use Rattle.std.proofs.lemmas.List.{append_assoc, append-nil}
use Rattle.reql_rules.specs.Lists.{joined}
use Rattle.reql_term.specs.Views.{Document}
use Rattle.reql_write_spec.specs.Treated.{Treated, Changed, changed, changes_of, changed_by}
use Rattle.reql_write_spec.specs.Treating.{treat_all}

changed_on : (docs : List Document) (xs ys : List Changed) → changed_by docs (xs ++ ys) ≡ changed_by (changed_by docs xs) ys
changed_on docs [] ys = refl
changed_on docs (x ∷ xs) ys = changed_on (changed docs x) xs ys

joined_more : (ts : List Treated) (t : Treated) → joined (map changes_of (ts ++ t ∷ [])) ≡ joined (map changes_of ts) ++ changes_of t
joined_more [] t = append-nil (changes_of t)
joined_more (u ∷ ts) t = ap (λ xs. changes_of u ++ xs) (joined_more ts t) ∙ sym (append_assoc (changes_of u) (joined (map changes_of ts)) (changes_of t))

pub after_one : (docs : List Document) (ts : List Treated) (t : Treated) (now after : List Document) → now ≡ changed_by docs (joined (map changes_of ts)) → after ≡ changed_by now (changes_of t)
    → after ≡ changed_by docs (joined (map changes_of (ts ++ t ∷ [])))
after_one docs ts t now after is e =
    e ∙ ap (λ ds. changed_by ds (changes_of t)) is ∙ sym (changed_on docs (joined (map changes_of ts)) (changes_of t)) ∙ ap (changed_by docs) (sym (joined_more ts t))

-- one treated more, and what is left is treated on the documents after it
pub treated_on : {A : Type 0} (f : List Document → A → Treated) (docs after : List Document) (v : A) (vs xs : List A) (ts : List Treated) (t : Treated) (whole : List Treated)
    → xs ≡ v ∷ vs → t ≡ f docs v → after ≡ changed_by docs (changes_of t) → ts ++ treat_all f docs xs ≡ whole → (ts ++ t ∷ []) ++ treat_all f after vs ≡ whole
treated_on f docs after v vs xs ts t whole left here turned so =
    append_assoc ts (t ∷ []) (treat_all f after vs)
    ∙ (ap (λ ds. ts ++ t ∷ treat_all f ds vs) turned
    ∙ (ap (λ u. ts ++ u ∷ treat_all f (changed_by docs (changes_of u)) vs) here
    ∙ (ap (λ ys. ts ++ treat_all f docs ys) (sym left) ∙ so)))
