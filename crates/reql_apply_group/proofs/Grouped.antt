-- The entries of an index as pairs, and as two lists beside one another.
use Rattle.std.proofs.Common.{◌≡◌, refl, ap, List, [], ◌∷◌, map, Ok, Err}
use Rattle.std.specs.List.{zip}
use Rattle.reql_datum.specs.Answer.{Answer, ◌>>=◌}
use Rattle.reql_term.specs.Views.{Entry, values_in, documents_in, beside}
use Rattle.reql_rules.specs.Grouping.{gather}
use Rattle.reql_rules.specs.Lists.{Bytes}
use Rattle.reql_value_spec.specs.Meant.{Meant}
use Rattle.reql_value_spec.specs.Orders.{table_source}
use Rattle.reql_value_spec.specs.World.{World}
use Rattle.reql_apply_group.specs.Grouped.{entry_grouped, groups_by, groups_beside}

zipped : (es : List Entry) → map entry_grouped es ≡ zip (values_in es) (documents_in es)
zipped [] = refl
zipped (e ∷ es) = ap (λ ps. entry_grouped e ∷ ps) (zipped es)

source_on : (a : Answer (List Entry))
    → (a >>= λ es. Ok (gather (map entry_grouped es))) ≡ ((a >>= λ es. Ok (beside es)) >>= λ b. Ok (gather (zip b.0 b.1)))
source_on (Ok es) = ap (λ ps. Ok (gather ps)) (zipped es)
source_on (Err e) = refl

pub grouped_beside : (w : World) (name : Bytes) (m : Meant) → groups_by w name m ≡ groups_beside w name m
grouped_beside w name m = source_on (table_source w name m)
