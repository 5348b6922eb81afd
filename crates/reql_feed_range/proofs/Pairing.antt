-- The printed items of two lists in pairs, one place after another.
use Rattle.std.proofs.Common.{◌≡◌, ℕ, zero, suc, ◌+◌, ◌<◌, max, List, [], ◌∷◌, ◌++◌, length, drop, slice_get, map, Option, None, refl, sym, ap, ◌∙◌, arith, append_assoc, add-one}
use Rattle.reql_datum.specs.Plain.{Plain}
use Rattle.reql_feed_spec.specs.Items.{Difference, of_values, paired}

right_step : (p : ℕ) (cs : List Plain) → p < length cs → paired [] (drop p cs) ≡ of_values None (slice_get cs p) ∷ paired [] (drop (suc p) cs)
right_step p [] h = absurd (omega arith)
right_step zero (c ∷ cs) h = refl
right_step (suc p) (c ∷ cs) h = right_step p cs (omega arith)

left_step : (p : ℕ) (ls : List Plain) → p < length ls → paired (drop p ls) [] ≡ of_values (slice_get ls p) None ∷ paired (drop (suc p) ls) []
left_step p [] h = absurd (omega arith)
left_step zero (l ∷ ls) h = refl
left_step (suc p) (l ∷ ls) h = left_step p ls (omega arith)

pair_step : (p : ℕ) (ls cs : List Plain) → p < max (length ls) (length cs) → paired (drop p ls) (drop p cs) ≡ of_values (slice_get ls p) (slice_get cs p) ∷ paired (drop (suc p) ls) (drop (suc p) cs)
pair_step zero [] [] h = absurd (omega arith)
pair_step zero [] (c ∷ cs) h = refl
pair_step zero (l ∷ ls) [] h = refl
pair_step zero (l ∷ ls) (c ∷ cs) h = refl
pair_step (suc p) [] [] h = absurd (omega arith)
pair_step (suc p) [] (c ∷ cs) h = right_step p cs (omega arith)
pair_step (suc p) (l ∷ ls) [] h = left_step p ls (omega arith)
pair_step (suc p) (l ∷ ls) (c ∷ cs) h = pair_step p ls cs (omega arith)

pub told_more : (print : Difference → Plain) (p : ℕ) (ls cs : List Plain) (o n : Option Plain) (before after all : List Plain) → p < max (length ls) (length cs) → o ≡ slice_get ls p → n ≡ slice_get cs p
    → after ≡ before ++ print (of_values o n) ∷ [] → before ++ map print (paired (drop p ls) (drop p cs)) ≡ all
    → after ++ map print (paired (drop (p + 1) ls) (drop (p + 1) cs)) ≡ all
told_more print p ls cs o n before after all h old new now so_far =
    let rest : List Plain = map print (paired (drop (suc p) ls) (drop (suc p) cs)) in
    let step : map print (paired (drop p ls) (drop p cs)) ≡ print (of_values o n) ∷ rest = ap (map print) (pair_step p ls cs h) ∙ rw (old, new) refl in
    rw (add-one, now) (append_assoc before (print (of_values o n) ∷ []) rest ∙ ap (λ (t : List Plain). before ++ t) (sym step) ∙ so_far)
