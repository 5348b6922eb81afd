-- A list by its first and the rest, as a slice is matched.
use Rattle.std.proofs.Common.{◌≡◌, ◌-◌, ◌≤◌, Result, List, [], ◌∷◌, length, get_or, drop, take, map, Ok, sym, ap, ◌∙◌, subst, arith}
use Rattle.std.proofs.lemmas.List.{take_all}
use Rattle.reql_datum.specs.Answer.{Answer, ◌>>=◌}
use Rattle.reql_datum.specs.Outcome.{Gives}
use Rattle.reql_datum.specs.Plain.{Plain}
use Rattle.reql_datum.specs.declared.fault.Fault.{Fault}
use Rattle.reql_value_spec.specs.Meant.{Given, Calls, Options, meant_of}
use Rattle.reql_value_spec.specs.Sequenced.{like, like_first}
use Rattle.reql_value_spec.specs.World.{World}
use Rattle.reql_operand.specs.Seen.{meant}
use Rattle.reql_operand.specs.declared.value.Value.{Value}
use Rattle.reql_apply.specs.Wrapped.{of_like}

pub headed : {X : Type 0} (xs : List X) (x : X) → 1 ≤ length xs → x ≡ get_or xs 0 x → xs ≡ x ∷ take (length xs - 1) (drop 1 xs)
headed [] x some here = absurd (omega arith)
headed (a ∷ xs) x some here = ap (λ z. z ∷ xs) (sym here) ∙ ap (λ zs. x ∷ zs) (sym (take_all (length (a ∷ xs) - 1) xs (omega arith)))

-- a sequence of the kind of the first argument
pub gives_like_first : {X : Type 0} (f : World → Calls → List Given → Options → Answer (List Plain)) (w : World) (calls : Calls) (opts : Options) (see : X → Given) (xs : List X) (x : X) (r : Result Value Fault)
    → 1 ≤ length xs → x ≡ get_or xs 0 x
    → Gives (meant w) r (of_like (see x) (f w calls (map see xs) opts)) → Gives (meant w) r (like_first f w calls (map see xs) opts)
gives_like_first f w calls opts see [] x r some here gives = absurd (omega arith)
gives_like_first {X = X} f w calls opts see (a ∷ xs) x r some here gives =
    subst (λ (z : X). Gives (meant w) r (f w calls (see a ∷ map see xs) opts >>= λ ds. Ok (like (meant_of (see z)) ds))) here gives
