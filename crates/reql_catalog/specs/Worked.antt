-- Worked rows of the catalogue machine.
use Rattle.std.specs.Prelude.{◌≡◌, ◌-◌, ◌^◌, ℕ, List, [], ◌∷◌, Some, None, codes}
use Rattle.std.specs.Map.{keys_of}
use Rattle.reql_datum.specs.Members.{find}
use Rattle.reql_catalog.specs.Catalog.{Named, slot_of, key_at, names_at, tables_of}
use Rattle.reql_catalog.specs.Machine.{after, reply, answer, opening}
use Rattle.reql_catalog.specs.declared.catalog.Catalog.{Catalog}
use Rattle.reql_catalog.specs.declared.command.CatCmd.{CatCmd}
use Rattle.reql_catalog.specs.declared.command.CatCmd.TheVariants as cmds
use Rattle.reql_catalog.specs.declared.command.CatSaid.TheVariants as said

-- two slots, and the table docs of test in the first
abbrev at_first : Catalog
at_first = opening ((codes "test", codes "docs") ∷ []) 2

abbrev doc_key : List ℕ
doc_key = codes "id"

-- a database zoo is made, with a table birds; then the table docs of test is dropped
abbrev with_zoo : Catalog
with_zoo = after at_first (cmds.DbCreate (codes "zoo"))

abbrev with_birds : Catalog
with_birds = after with_zoo (cmds.TableCreate (codes "zoo") (codes "birds") (codes "ring"))

abbrev without_docs : Catalog
without_docs = after with_birds (cmds.TableDrop (codes "test") (codes "docs"))

-- a database that was dropped and made again has another number
abbrev again : Catalog
again = after (after with_zoo (cmds.DbDrop (codes "zoo"))) (cmds.DbCreate (codes "zoo"))

abbrev pub Rows : Type 0
Rows =
    (keys_of at_first.names.dbs ≡ codes "test" ∷ [])
    × (tables_of (codes "test") at_first.names ≡ codes "docs" ∷ [])
    × (slot_of (codes "test") (codes "docs") at_first.names ≡ Some 0)
    × (key_at 0 at_first.names ≡ Some doc_key)
    × (at_first.names.place ≡ 0)
    × (reply at_first (cmds.DbCreate (codes "zoo")) ≡ record { place = 1; said = said.Made })
    × (reply at_first (cmds.DbCreate (codes "test")) ≡ record { place = 1; said = said.DbExists })
    × (reply at_first (cmds.DbCreate (codes "a zoo")) ≡ record { place = 1; said = said.BadName })
    × (reply at_first (cmds.DbDrop (codes "zoo")) ≡ record { place = 1; said = said.DbMissing })
    × (reply at_first (cmds.TableCreate (codes "zoo") (codes "") doc_key) ≡ record { place = 1; said = said.BadName })
    × (reply at_first (cmds.TableCreate (codes "test") (codes "birds") (codes "$reql_type$")) ≡ record { place = 1; said = said.BadName })
    × (reply at_first (cmds.TableCreate (codes "zoo") (codes "docs") doc_key) ≡ record { place = 1; said = said.DbMissing })
    × (reply at_first (cmds.TableCreate (codes "test") (codes "docs") doc_key) ≡ record { place = 1; said = said.TableExists })
    × (keys_of with_zoo.names.dbs ≡ codes "test" ∷ codes "zoo" ∷ [])
    × (slot_of (codes "zoo") (codes "birds") with_birds.names ≡ Some 1)
    × (names_at 1 with_birds.names ≡ Some (codes "zoo", codes "birds"))
    × (reply with_birds (cmds.TableDrop (codes "test") (codes "birds")) ≡ record { place = 3; said = said.TableMissing })
    × (reply with_birds (cmds.TableDrop (codes "test") (codes "docs")) ≡ record { place = 3; said = said.Dropped (0 ∷ []) })
    × (reply with_birds (cmds.DbDrop (codes "zoo")) ≡ record { place = 3; said = said.Dropped (1 ∷ []) })
    × (names_at 0 without_docs.names ≡ None)
    × (slot_of (codes "test") (codes "docs") without_docs.names ≡ None)
    × (reply without_docs (cmds.TableCreate (codes "test") (codes "docs") doc_key) ≡ record { place = 4; said = said.SlotsFull 2 })
    × (again.made ≡ 3)
    × (reply (record { names = record { place = 2 ^ 64 - 1; dbs = []; slots = [] }; made = 0; most = 0 }) (cmds.DbCreate (codes "")) ≡ record { place = 2 ^ 64 - 1; said = said.HistoryFull (2 ^ 64 - 1) })
