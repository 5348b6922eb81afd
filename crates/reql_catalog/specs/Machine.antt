-- The catalogue machine: what commands on names do, and what they are answered.
use Rattle.std.specs.Prelude.{ℕ, suc, ◌-◌, ◌^◌, List, [], ◌∷◌, ◌++◌, length, map, slice_set, Option, Some, None, Bool, true, false, ◌&&◌, nat_eq, nat_lt, cond, codes}
use Rattle.reql_datum.specs.Members.{find, put, without}
use Rattle.reql_shared.specs.Machine.{Machine}
use Rattle.reql_shared.specs.declared.engine.Snap.{Snap}
use Rattle.reql_catalog.specs.Catalog.{Named, is_name, is_key_field, holds, slots_of, slot_of}
use Rattle.reql_catalog.specs.declared.catalog.Catalog.{Catalog}
use Rattle.reql_catalog.specs.declared.database.Database.{Database}
use Rattle.reql_catalog.specs.declared.slot.Slot.{Slot}
use Rattle.reql_catalog.specs.declared.command.CatCmd.{CatCmd}
use Rattle.reql_catalog.specs.declared.command.CatCmd.TheVariants as cmds
use Rattle.reql_catalog.specs.declared.command.CatReply.{CatReply}
use Rattle.reql_catalog.specs.declared.command.CatSaid.{CatSaid}
use Rattle.reql_catalog.specs.declared.command.CatSaid.TheVariants as said

-- names are tested before they are looked for
abbrev pub if_good : Bool → CatSaid → CatSaid
if_good good s = cond good s said.BadName

abbrev pub makes_db : Option Database → CatSaid
makes_db None = said.Made
makes_db (Some d) = said.DbExists

abbrev pub drops_db : List ℕ → Option Database → CatSaid
drops_db slots None = said.DbMissing
drops_db slots (Some d) = said.Dropped slots

-- a slot that was given is never given again
abbrev pub makes_at : ℕ → ℕ → Option ℕ → CatSaid
makes_at given most None = cond (nat_lt given most) said.Made (said.SlotsFull most)
makes_at given most (Some slot) = said.TableExists

abbrev pub makes_table : ℕ → ℕ → List ℕ → Option Database → CatSaid
makes_table given most table None = said.DbMissing
makes_table given most table (Some d) = makes_at given most (find table d.tables)

abbrev pub drops_at : Option ℕ → CatSaid
drops_at None = said.TableMissing
drops_at (Some slot) = said.Dropped (slot ∷ [])

abbrev pub drops_table : List ℕ → Option Database → CatSaid
drops_table table None = said.DbMissing
drops_table table (Some d) = drops_at (find table d.tables)

-- what a command is answered where the history has room for it
abbrev pub says : Catalog → CatCmd → CatSaid
says c (cmds.DbCreate db) = if_good (is_name db) (makes_db (find db c.names.dbs))
says c (cmds.DbDrop db) = if_good (is_name db) (drops_db (slots_of db c.names.slots) (find db c.names.dbs))
says c (cmds.TableCreate db table key) = if_good (is_name db && (is_name table && is_key_field key)) (makes_table (length c.names.slots) c.most table (find db c.names.dbs))
says c (cmds.TableDrop db table) = if_good (is_name db && is_name table) (drops_table table (find db c.names.dbs))

-- the databases, where the tables of one are others
abbrev pub with_tables : List ℕ → Option Database → (List (List ℕ × ℕ) → List (List ℕ × ℕ)) → List (List ℕ × Database) → List (List ℕ × Database)
with_tables db None f dbs = dbs
with_tables db (Some d) f dbs = put db (record { number = d.number; tables = f d.tables }) dbs

abbrev pub none_at : Slot
none_at = record { table = None }

-- the slots without the tables of a database
abbrev pub cleared : List ℕ → Slot → Slot
cleared db s = cond (holds db s) none_at s

abbrev pub with_db : List ℕ → Catalog → Catalog
with_db db c = record {
  names = record { place = c.names.place; dbs = put db (record { number = c.made; tables = [] }) c.names.dbs; slots = c.names.slots };
  made = suc c.made;
  most = c.most;
}

abbrev pub without_db : List ℕ → Catalog → Catalog
without_db db c = record {
  names = record { place = c.names.place; dbs = without db c.names.dbs; slots = map (cleared db) c.names.slots };
  made = c.made;
  most = c.most;
}

abbrev pub with_table : List ℕ → List ℕ → List ℕ → Catalog → Catalog
with_table db table key c = record {
  names = record {
    place = c.names.place;
    dbs = with_tables db (find db c.names.dbs) (put table (length c.names.slots)) c.names.dbs;
    slots = c.names.slots ++ record { table = Some (record { db = db; name = table; key = key }) } ∷ [];
  };
  made = c.made;
  most = c.most;
}

abbrev pub emptied : Option ℕ → List Slot → List Slot
emptied None slots = slots
emptied (Some slot) slots = slice_set slots slot none_at

abbrev pub without_table : List ℕ → List ℕ → Catalog → Catalog
without_table db table c = record {
  names = record {
    place = c.names.place;
    dbs = with_tables db (find db c.names.dbs) (without table) c.names.dbs;
    slots = emptied (slot_of db table c.names) c.names.slots;
  };
  made = c.made;
  most = c.most;
}

abbrev pub on_made : CatCmd → Catalog → Catalog
on_made (cmds.DbCreate db) c = with_db db c
on_made (cmds.TableCreate db table key) c = with_table db table key c
on_made other c = c

abbrev pub on_dropped : CatCmd → Catalog → Catalog
on_dropped (cmds.DbDrop db) c = without_db db c
on_dropped (cmds.TableDrop db table) c = without_table db table c
on_dropped other c = c

-- what a command that is answered so does
abbrev pub effect : CatCmd → CatSaid → Catalog → Catalog
effect cmd said.Made c = on_made cmd c
effect cmd (said.Dropped slots) c = on_dropped cmd c
effect cmd other c = c

abbrev pub one_more : Catalog → Catalog
one_more c = record {
  names = record { place = suc c.names.place; dbs = c.names.dbs; slots = c.names.slots };
  made = c.made;
  most = c.most;
}

-- a history's numbers end at 2^64 - 1
abbrev pub is_past : Catalog → Bool
is_past c = nat_eq c.names.place (2 ^ 64 - 1)

abbrev pub answer : Catalog → CatCmd → CatSaid
answer c cmd = cond (is_past c) (said.HistoryFull (2 ^ 64 - 1)) (says c cmd)

abbrev pub adds : CatSaid → Bool
adds (said.HistoryFull count) = false
adds other = true

abbrev pub after : Catalog → CatCmd → Catalog
after c cmd = cond (is_past c) c (one_more (effect cmd (says c cmd) c))

abbrev pub reply : Catalog → CatCmd → CatReply
reply c cmd = record { place = (after c cmd).names.place; said = answer c cmd }

-- the catalogue machine
abbrev pub catalogue_machine : Machine Catalog CatCmd CatReply Snap Named
catalogue_machine = record { reply = λ c by cmd. reply c cmd; recorded = λ r. adds r.said; after = λ c by cmd. after c cmd; answer = λ c q. c.names; place = λ c. c.names.place }

-- the names that are there at first: the database test, then each database and table of a list as if it were made by commands, which are no entries
abbrev pub done : CatCmd → Catalog → Catalog
done cmd c = effect cmd (says c cmd) c

abbrev pub opened : List (List ℕ × List ℕ) → Catalog → Catalog
opened [] c = c
opened (p ∷ ps) c = opened ps (done (cmds.TableCreate p.0 p.1 (codes "id")) (done (cmds.DbCreate p.0) c))

abbrev pub no_names : ℕ → Catalog
no_names most = record { names = record { place = 0; dbs = []; slots = [] }; made = 0; most = most }

abbrev pub opening : List (List ℕ × List ℕ) → ℕ → Catalog
opening tables most = opened tables (done (cmds.DbCreate (codes "test")) (no_names most))
