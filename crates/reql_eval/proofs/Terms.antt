-- Weights of terms among others.
use Rattle.std.proofs.Common.{◌≡◌, ℕ, zero, suc, ◌<◌, drop, List, [], ◌∷◌, ap, arith}
use Rattle.reql_term.specs.Form.{Form, weight, fields_weight}
use Rattle.reql_rules.specs.Lists.{Bytes}

-- a term by name weighs less than all of them
pub named_rest : (ms : List (Bytes × Form)) (i : ℕ) (k : Bytes) (f : Form) (rest : List (Bytes × Form)) → drop i ms ≡ (k, f) ∷ rest → weight f < fields_weight ms
named_rest [] zero k f rest h = cc
named_rest [] (suc i) k f rest h = cc
named_rest (m ∷ ms) zero k f rest h =
    let e : m ≡ (k, f) = cc in
    let w : weight m.1 ≡ weight f = ap (λ (n : Bytes × Form). weight n.1) e in
    omega (arith, w)
named_rest (m ∷ ms) (suc i) k f rest h = omega (arith, named_rest ms i k f rest h)
