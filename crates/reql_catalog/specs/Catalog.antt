-- The names of databases and tables, and the slots that they stand for.
use Rattle.std.specs.Prelude.{ℕ, ◌+◌, List, [], ◌∷◌, length, slice_get, Option, Some, None, Bool, false, ◌&&◌, ◌||◌, ◌==◌, not, nat_le, cond, codes}
use Rattle.std.specs.List.{list_all}
use Rattle.std.specs.Map.{keys_of}
use Rattle.std.specs.Ordering.{is_eq}
use Rattle.reql_datum.specs.Members.{text_order, find}
use Rattle.reql_catalog.specs.declared.database.Database.{Database}
use Rattle.reql_catalog.specs.declared.slot.Slot.{Slot}
use Rattle.reql_catalog.specs.declared.slot.Table.{Table}

-- the databases by rising name; what stands in each slot that was given, from slot 0, nothing where its table was dropped; and how many commands were recorded
pub record Named : Type 0 where
  pub place : ℕ
  pub dbs : List (List ℕ × Database)
  pub slots : List Slot

-- a character of a name: A-Z a-z 0-9 _ -
abbrev pub is_name_byte : ℕ → Bool
is_name_byte b = (nat_le 65 b && nat_le b 90) || (nat_le 97 b && nat_le b 122) || (nat_le 48 b && nat_le b 57) || (b == 95) || (b == 45)

-- the rule of names: 1 to 127 of them
abbrev pub is_name : List ℕ → Bool
is_name s = nat_le 1 (length s) && (nat_le (length s) 127 && list_all is_name_byte s)

abbrev pub is_text : List ℕ → List ℕ → Bool
is_text s t = is_eq (text_order s t)

-- a table's key field may have any name but the one that marks what is no document
abbrev pub is_key_field : List ℕ → Bool
is_key_field key = not (is_text key (codes "$reql_type$"))

-- whether a slot holds a table of this database
abbrev pub is_table_of : List ℕ → Option Table → Bool
is_table_of db None = false
is_table_of db (Some t) = is_text t.db db

abbrev pub holds : List ℕ → Slot → Bool
holds db s = is_table_of db s.table

-- the slots of a database's tables, rising from the first place on
abbrev pub slots_from : ℕ → List ℕ → List Slot → List ℕ
slots_from place db [] = []
slots_from place db (s ∷ ss) = cond (holds db s) (place ∷ slots_from (place + 1) db ss) (slots_from (place + 1) db ss)

abbrev pub slots_of : List ℕ → List Slot → List ℕ
slots_of db slots = slots_from 0 db slots

-- the slot of a table, and the table of a slot
abbrev pub slot_in : List ℕ → Option Database → Option ℕ
slot_in table None = None
slot_in table (Some d) = find table d.tables

abbrev pub slot_of : List ℕ → List ℕ → Named → Option ℕ
slot_of db table n = slot_in table (find db n.dbs)

abbrev pub in_slot : Option Slot → Option Table
in_slot None = None
in_slot (Some s) = s.table

abbrev pub table_at : ℕ → Named → Option Table
table_at slot n = in_slot (slice_get n.slots slot)

-- the name of a slot's key field, and the names of its database and its table
abbrev pub key_in : Option Table → Option (List ℕ)
key_in None = None
key_in (Some t) = Some t.key

abbrev pub key_at : ℕ → Named → Option (List ℕ)
key_at slot n = key_in (table_at slot n)

abbrev pub names_in : Option Table → Option (List ℕ × List ℕ)
names_in None = None
names_in (Some t) = Some (t.db, t.name)

abbrev pub names_at : ℕ → Named → Option (List ℕ × List ℕ)
names_at slot n = names_in (table_at slot n)

-- the names of a database's tables
abbrev pub tables_in : Option Database → List (List ℕ)
tables_in None = []
tables_in (Some d) = keys_of d.tables

abbrev pub tables_of : List ℕ → Named → List (List ℕ)
tables_of db n = tables_in (find db n.dbs)
