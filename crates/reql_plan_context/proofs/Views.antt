-- A view as it is read is the plain view of its documents and indexes, where it holds their entries.
use Rattle.std.proofs.Common.{◌≡◌, ℕ, List, Option, Some, None, option_map, refl, ap}
use Rattle.std.proofs.Math.Path.{fun_ext}
use Rattle.reql_term.specs.Views.{Document, Entry, Index}
use Rattle.reql_rules.specs.Lists.{Bytes}
use Rattle.reql_catalog.specs.declared.database.Database.{Database}
use Rattle.reql_value_spec.specs.Index.{plain_view, index_lists}
use Rattle.reql_value_spec.specs.World.{View}
use Rattle.reql_table_spec.specs.Engines.{HoldsEntries}
use Rattle.reql_plan_spec.specs.Held.{number_in}

abbrev with_entries : ℕ → Bytes → ℕ → Bytes → Bytes → List Document → List (Bytes × Index) → (Bytes → List Entry) → ℕ × View
with_entries slot db number name key docs indexes entries = (slot, record { db = db; db_number = number; name = name; key = key; documents = docs; indexes = indexes; entries = entries })

pub views : {V : Type 0} (documents : V → List Document) (indexes : V → List (Bytes × Index)) (entries : V → Bytes → List Entry) → HoldsEntries documents indexes entries
    → (slot : ℕ) (db : Bytes) (number : ℕ) (name key : Bytes) (v : V)
    → with_entries slot db number name key (documents v) (indexes v) (entries v) ≡ (slot, plain_view db number name key (documents v) (indexes v))
views documents indexes entries holds slot db number name key v = ap (λ es. with_entries slot db number name key (documents v) (indexes v) es) (fun_ext (holds v))

pub numbers : (o : Option Database) (n : ℕ) → option_map (λ d. d.number) o ≡ Some n → n ≡ number_in o
numbers None n h = cc
numbers (Some d) n h = cc

pub no_number : (o : Option Database) → option_map (λ d. d.number) o ≡ None → 0 ≡ number_in o
no_number None h = refl
no_number (Some d) h = cc
