-- What is so of a session with its key, its password, its limits, its names and its engines, as they are called otherwise.
use Rattle.std.proofs.Common.{◌≡◌, ℕ, List, subst}
use Rattle.reql_catalog.specs.declared.catalog.Catalog.{Catalog}
use Rattle.reql_table_spec.specs.Machine.{State}
use Rattle.reql_table_spec.specs.declared.limits.Limits.{Limits}

pub moved : (P : List ℕ → List ℕ → Limits → Catalog → List State → Type 0) (k k' w w' : List ℕ) (l l' : Limits) (n n' : Catalog) (es es' : List State)
    → k ≡ k' → w ≡ w' → l ≡ l' → n ≡ n' → es ≡ es' → P k w l n es → P k' w' l' n' es'
moved P k k' w w' l l' n n' es es' key password limits names engines so =
    subst (λ x. P k' w' l' n' x) engines (subst (λ x. P k' w' l' x es) names (subst (λ x. P k' w' x n es) limits (subst (λ x. P k' x l n es) password (subst (λ x. P x w l n es) key so))))
