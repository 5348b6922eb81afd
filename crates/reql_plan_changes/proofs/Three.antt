-- Three terms, as the test of BETWEEN takes them.
use Rattle.std.proofs.Common.{◌≡◌, ℕ, Result, List, [], ◌∷◌, map, length, get_or, arith}
use Rattle.reql_datum.specs.Outcome.{Gives}
use Rattle.reql_datum.specs.declared.fault.Fault.{Fault}
use Rattle.reql_term.specs.Form.{Form}
use Rattle.reql_rules.specs.Lists.{Bytes}
use Rattle.reql_plan_spec.specs.Feeding.{between_test}
use Rattle.reql_plan_changes.specs.Tests.{bounds_test}

pub three_test : {X : Type 0} (view : X → Form) (ts : List X) (l h : X) (ms : List (Bytes × Form)) (r : Result (Unit {0}) Fault) → length ts ≡ 3 → l ≡ get_or ts 1 l → h ≡ get_or ts 2 h
    → Gives (λ u. u) r (bounds_test (view l) (view h) ms) → Gives (λ u. u) r (between_test (map view ts) ms)
three_test view [] l h ms r count is_l is_h gives = absurd (omega (arith, count))
three_test view (a ∷ []) l h ms r count is_l is_h gives = absurd (omega (arith, count))
three_test view (a ∷ b ∷ []) l h ms r count is_l is_h gives = absurd (omega (arith, count))
three_test view (a ∷ b ∷ c ∷ []) l h ms r count is_l is_h gives = rw (is_l, is_h) at gives
three_test view (a ∷ b ∷ c ∷ d ∷ ts) l h ms r count is_l is_h gives = absurd (omega (arith, count))
