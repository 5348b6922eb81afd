-- A walk that may fail, over what g sees of a list: one step, a failed one, and the end.
use Rattle.std.proofs.Common.{◌≡◌, refl, sym, ap, ◌∙◌, ℕ, ◌+◌, ◌<◌, ◌≤◌, List, [], ◌∷◌, ◌++◌, append_assoc, append-nil, length, get_or, drop, map, Ok, Err}
use Rattle.std.proofs.lemmas.List.{drop_all, drop_more}
use Rattle.reql_datum.specs.Answer.{Answer, ◌>>=◌}
use Rattle.reql_datum.specs.Outcome.{Fails}
use Rattle.reql_datum.specs.declared.fault.Fault.{Fault}
use Rattle.reql_datum.specs.declared.fault.Fault.TheVariants.{QueryLogic, NonExistence, ResourceLimit, OpFailed, User, Empty, Memory}
use Rattle.reql_rules.specs.Lists.{each}

-- what failed first, fails all
pub fails_on : {A B : Type 0} (e : Fault) (a : Answer A) (k : A → Answer B) → Fails e a → Fails e (a >>= k)
fails_on (QueryLogic s) a k h = rw h refl
fails_on (NonExistence s) a k h = rw h refl
fails_on (ResourceLimit s) a k h = rw h refl
fails_on (OpFailed s) a k h = rw h refl
fails_on (User s) a k h = rw h refl
fails_on Empty a k h = rw h refl
fails_on Memory a k h = tt

one_more : {B : Type 0} (ys : List B) (y : B) (r : Answer (List B)) → ((r >>= λ zs. Ok (y ∷ zs)) >>= λ zs. Ok (ys ++ zs)) ≡ (r >>= λ zs. Ok ((ys ++ y ∷ []) ++ zs))
one_more ys y (Ok zs) = ap Ok (sym (append_assoc ys (y ∷ []) zs))
one_more ys y (Err e) = refl

rest_is : {X : Type 0} (xs : List X) (i : ℕ) (x : X) → i < length xs → x ≡ get_or xs i x → drop i xs ≡ x ∷ drop (i + 1) xs
rest_is xs i x below here = drop_more xs i x below ∙ ap (λ u. u ∷ drop (i + 1) xs) (sym here)

pub each_step : {X A B : Type 0} (f : A → Answer B) (g : X → A) (xs : List X) (i : ℕ) (x : X) (y : B) (ys more : List B) (all : Answer (List B))
    → i < length xs → x ≡ get_or xs i x → f (g x) ≡ Ok y → more ≡ ys ++ y ∷ []
    → all ≡ (each f (map g (drop i xs)) >>= λ zs. Ok (ys ++ zs)) → all ≡ (each f (map g (drop (i + 1) xs)) >>= λ zs. Ok (more ++ zs))
each_step f g xs i x y ys more all below here gives m invariant =
    let before = rw gives at (rw (rest_is xs i x below here) at invariant) in
    rw m (before ∙ one_more ys y (each f (map g (drop (i + 1) xs))))

pub each_fails : {X A B : Type 0} (f : A → Answer B) (g : X → A) (xs : List X) (i : ℕ) (x : X) (e : Fault) (ys : List B) (all : Answer (List B))
    → i < length xs → x ≡ get_or xs i x → Fails e (f (g x))
    → all ≡ (each f (map g (drop i xs)) >>= λ zs. Ok (ys ++ zs)) → Fails e all
each_fails f g xs i x e ys all below here fails invariant =
    let before = rw (rest_is xs i x below here) at invariant in
    let walk = fails_on e (f (g x)) (λ y. each f (map g (drop (i + 1) xs)) >>= λ zs. Ok (y ∷ zs)) fails in
    rw before (fails_on e (each f (map g (x ∷ drop (i + 1) xs))) (λ zs. Ok (ys ++ zs)) walk)

pub each_done : {X A B : Type 0} (f : A → Answer B) (g : X → A) (xs : List X) (i : ℕ) (ys : List B) (all : Answer (List B))
    → length xs ≤ i → all ≡ (each f (map g (drop i xs)) >>= λ zs. Ok (ys ++ zs)) → all ≡ Ok ys
each_done f g xs i ys all past invariant = (rw (drop_all i xs past) at invariant) ∙ ap Ok (append-nil ys)
