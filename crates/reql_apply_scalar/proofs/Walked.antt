-- The walk of arithmetic over its arguments, as g sees them: one step, a failed one, and the end; and the first of arguments.
use Rattle.std.proofs.Common.{◌≡◌, refl, sym, ap, ◌∙◌, ℕ, ◌+◌, ◌<◌, ◌≤◌, List, [], ◌∷◌, ◌++◌, append_assoc, append-nil, length, get_or, drop, map, Ok, Err, ◌-◌, take, arith}
use Rattle.std.proofs.lemmas.List.{drop_all, drop_more, take_all}
use Rattle.reql_datum.specs.Answer.{Answer, ◌>>=◌}
use Rattle.reql_datum.specs.Outcome.{Fails}
use Rattle.reql_datum.specs.Plain.{Plain}
use Rattle.reql_datum.specs.declared.fault.Fault.{Fault}
use Rattle.reql_operand.proofs.Steps.{fails_on}
use Rattle.reql_rules.specs.declared.words.Arith.{Arith}
use Rattle.reql_value_spec.specs.Meant.{Given}
use Rattle.reql_value_spec.specs.Wanted.{seen}
use Rattle.reql_apply_scalar.specs.declared.adding.Want.{Want}
use Rattle.reql_apply_scalar.specs.Operands.{want_of, after, operand, operands, run, on_operands}

one_more : {B : Type 0} (ys : List B) (y : B) (r : Answer (List B)) → ((r >>= λ zs. Ok (y ∷ zs)) >>= λ zs. Ok (ys ++ zs)) ≡ (r >>= λ zs. Ok ((ys ++ y ∷ []) ++ zs))
one_more ys y (Ok zs) = ap Ok (sym (append_assoc ys (y ∷ []) zs))
one_more ys y (Err e) = refl

rest_is : {X : Type 0} (xs : List X) (i : ℕ) (x : X) → i < length xs → x ≡ get_or xs i x → drop i xs ≡ x ∷ drop (i + 1) xs
rest_is xs i x below here = drop_more xs i x below ∙ ap (λ u. u ∷ drop (i + 1) xs) (sym here)

pub operands_step : {X : Type 0} (g : X → Given) (xs : List X) (i : ℕ) (x : X) (y : Plain) (ys more : List Plain) (u v : Want) (all : Answer (List Plain))
    → i < length xs → x ≡ get_or xs i x → operand u (g x) ≡ Ok y → v ≡ after u y → more ≡ ys ++ y ∷ []
    → all ≡ (operands u (map g (drop i xs)) >>= λ zs. Ok (ys ++ zs)) → all ≡ (operands v (map g (drop (i + 1) xs)) >>= λ zs. Ok (more ++ zs))
operands_step g xs i x y ys more u v all below here gives next m invariant =
    let before = rw gives at (rw (rest_is xs i x below here) at invariant) in
    rw m (rw next (before ∙ one_more ys y (operands (after u y) (map g (drop (i + 1) xs)))))

pub operands_fail : {X : Type 0} (g : X → Given) (xs : List X) (i : ℕ) (x : X) (e : Fault) (ys : List Plain) (u : Want) (all : Answer (List Plain))
    → i < length xs → x ≡ get_or xs i x → Fails e (operand u (g x))
    → all ≡ (operands u (map g (drop i xs)) >>= λ zs. Ok (ys ++ zs)) → Fails e all
operands_fail g xs i x e ys u all below here fails invariant =
    let before = rw (rest_is xs i x below here) at invariant in
    let walk = fails_on e (operand u (g x)) (λ y. operands (after u y) (map g (drop (i + 1) xs)) >>= λ zs. Ok (y ∷ zs)) fails in
    rw before (fails_on e (operands u (map g (x ∷ drop (i + 1) xs))) (λ zs. Ok (ys ++ zs)) walk)

pub operands_done : {X : Type 0} (g : X → Given) (xs : List X) (i : ℕ) (ys : List Plain) (u : Want) (all : Answer (List Plain))
    → length xs ≤ i → all ≡ (operands u (map g (drop i xs)) >>= λ zs. Ok (ys ++ zs)) → all ≡ Ok ys
operands_done g xs i ys u all past invariant = (rw (drop_all i xs past) at invariant) ∙ ap Ok (append-nil ys)

pub first_is : {X : Type 0} (op : Arith) (g : X → Given) (xs : List X) (x : X) (u : Want) → 1 ≤ length xs → x ≡ get_or xs 0 x → u ≡ want_of op (seen (g x))
    → on_operands op (map g xs) ≡ run op u (map g xs)
first_is op g [] x u some here is = absurd (omega arith)
first_is op g (y ∷ ys) x u some here is = ap (λ z. run op (want_of op (seen (g z))) (map g (y ∷ ys))) (sym here) ∙ ap (λ w. run op w (map g (y ∷ ys))) (sym is)

-- the first and the others
pub headed : {X : Type 0} (g : X → Given) (xs : List X) (x : X) → 1 ≤ length xs → x ≡ get_or xs 0 x → map g xs ≡ g x ∷ map g (take (length xs - 1) (drop 1 xs))
headed g [] x some here = absurd (omega arith)
headed g (y ∷ ys) x some here = ap (λ z. g z ∷ map g ys) (sym here) ∙ ap (λ zs. g x ∷ map g zs) (sym (take_all (length (y ∷ ys) - 1) ys (omega arith)))
