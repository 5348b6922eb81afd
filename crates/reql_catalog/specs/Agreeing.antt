-- Names and slots agree, and a slot that was given never stands for another table.
use Rattle.std.specs.Prelude.{◌≡◌, ◌<◌, ◌⊎◌, ◌↔◌, ℕ, List, [], ◌∷◌, length, Some, None}
use Rattle.reql_catalog.specs.Catalog.{Named, slot_of, table_at, names_at}
use Rattle.reql_catalog.specs.Machine.{after, opening}
use Rattle.reql_catalog.specs.declared.catalog.Catalog.{Catalog}
use Rattle.reql_catalog.specs.declared.command.CatCmd.{CatCmd}

-- a table is found at a slot by its names exactly where that slot stands for the table of these names
abbrev pub Agree : Named → Type 0
Agree n = (db table : List ℕ) (slot : ℕ) → (slot_of db table n ≡ Some slot) ↔ (names_at slot n ≡ Some (db, table))

-- the catalogue after a history
abbrev pub after_all : Catalog → List CatCmd → Catalog
after_all c [] = c
after_all c (x ∷ xs) = after_all (after c x) xs

-- whatever tables it was opened with
abbrev pub NamesAgree : Type 0
NamesAgree = (tables : List (List ℕ × List ℕ)) (most : ℕ) (history : List CatCmd) → Agree (after_all (opening tables most) history).names

-- a slot that was given stands for the same table, with the same key field, until that is dropped, and then for none
abbrev pub SlotsStay : Type 0
SlotsStay = (c : Catalog) (history : List CatCmd) (slot : ℕ) → slot < length c.names.slots
    → (table_at slot (after_all c history).names ≡ table_at slot c.names) ⊎ (table_at slot (after_all c history).names ≡ None)
