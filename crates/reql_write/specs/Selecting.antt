-- The rows that a term selects of the table in its one slot.
use Rattle.std.specs.Prelude.{◌≡◌, ℕ, List, [], ◌∷◌, map, true, false, Option, Some, None, Ok}
use Rattle.reql_datum.specs.Answer.{Answer, ◌>>=◌}
use Rattle.reql_datum.specs.Plain.{Plain, low, high}
use Rattle.reql_datum.specs.View.{plain}
use Rattle.reql_term.specs.Form.{Form}
use Rattle.reql_term.specs.Views.{Document, Index}
use Rattle.reql_term.specs.declared.range.Range.{Range}
use Rattle.reql_rules.specs.Lists.{Bytes}
use Rattle.reql_value_spec.specs.Meaning.{value}
use Rattle.reql_value_spec.specs.World.{World}
use Rattle.reql_write_spec.specs.Selecting.{is_selection, slots, own_view, row_keys}

-- a table in some slots
abbrev pub world_of : Bytes → List Document → List (Bytes × Index) → List ℕ → World
world_of field docs indexes ns = record {
  tables = map (λ n. (n, own_view field docs indexes)) ns;
  databases = [];
  array_limit = 100000;
}

abbrev pub selected_at : Bytes → List Document → List (Bytes × Index) → List ℕ → Form → Answer (List Plain)
selected_at field docs indexes ns rows = value rows (world_of field docs indexes ns) [] >>= λ m. Ok (row_keys field docs m)

-- the slot of a selection, none of what is no selection
abbrev pub SelectsIn : Form → Option ℕ → Type 0
SelectsIn f None = is_selection f ≡ false
SelectsIn f (Some n) = (is_selection f ≡ true) × (slots f ≡ n ∷ [])

-- all of the primary order
pub record IsWhole (r : Range) : Type 0 where
  pub primary : r.index ≡ None
  pub least : plain r.low.value ≡ low
  pub with_least : r.low.is_open ≡ false
  pub highest : plain r.high.value ≡ high
  pub with_highest : r.high.is_open ≡ false
  pub up : r.down ≡ false
