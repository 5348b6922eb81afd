-- The documents of one key, by an index that is there.
use Rattle.std.proofs.Common.{◌≡◌, Result, List, [], ◌∷◌, Ok}
use Rattle.reql_datum.specs.Outcome.{Gives}
use Rattle.reql_datum.specs.Plain.{Plain}
use Rattle.reql_datum.specs.declared.fault.Fault.{Fault}
use Rattle.reql_term.specs.Views.{Entry}
use Rattle.reql_rules.specs.Lists.{Bytes}
use Rattle.reql_value_spec.specs.Joins.{having}
use Rattle.reql_value_spec.specs.World.{View, entries_named}
use Rattle.reql_apply_table.specs.Sources.{having as having_named}

pub rows_of_key : (v : View) (name : Bytes) (es : List Entry) (k : Plain) (r : Result (List Plain) Fault) → entries_named v name ≡ Ok es
    → Gives (λ items. items) r (having_named v name (k ∷ [])) → Gives (λ items. items) r (Ok (having es k))
rows_of_key v name es k r named gives = rw named at gives
