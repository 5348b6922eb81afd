-- Records of a table, and their text.
use Rattle.std.specs.Prelude.{ℕ, List, [], ◌∷◌, map, codes, Bool, Option, Some, None}
use Rattle.serde_json.specs.Data.{Data, boolean, string, array, Items, no_items, item}
use Rattle.serde_json.specs.Written.{compact_text}
use Rattle.reql_datum.specs.Plain.{Plain}
use Rattle.reql_json.specs.Showing.{shown}
use Rattle.reql_rules.specs.Lists.{Bytes}
use Rattle.reql_table_spec.specs.Engines.{kept_of}
use Rattle.reql_table_records.specs.declared.record.TableRecord.{TableRecord}
use Rattle.reql_table_records.specs.declared.record.TableRecord.TheVariants as v

-- a change of one document: its key, and the document that is there after it
abbrev pub Change : Type 0
Change = Plain × Option Plain

-- the changes of a write; an index more, with the text of its function; one less; one of another name; and that the table was dropped
pub data Recorded : Type 0 where
  wrote : List Change → Recorded
  created : Bytes → Bool → Bytes → Recorded
  dropped : Bytes → Recorded
  renamed : Bytes → Bytes → Recorded
  shut : Recorded

abbrev pub record_of : TableRecord → Recorded
record_of (v.Write changes) = wrote (map kept_of changes.items)
record_of (v.IndexCreate name multi text) = created name multi text
record_of (v.IndexDrop name) = dropped name
record_of (v.IndexRename old new) = renamed old new
record_of v.Shut = shut

-- ---- as JSON

abbrev pub flag : Bool → Data
flag b = boolean b

abbrev pub one : Data → Items
one d = item d no_items

abbrev pub new_items : Option Plain → Items
new_items None = no_items
new_items (Some d) = one (shown d)

-- [key, new], or [key] of a deletion
abbrev pub change_data : Change → Data
change_data c = array (item (shown c.0) (new_items c.1))

abbrev pub changes_items : List Change → Items
changes_items [] = no_items
changes_items (c ∷ cs) = item (change_data c) (changes_items cs)

-- an array that begins with the letter of its kind
abbrev pub tagged : List ℕ → Items → Data
tagged letter ds = array (item (string letter) ds)

abbrev pub data_of : Recorded → Data
data_of (wrote cs) = tagged (codes "w") (one (array (changes_items cs)))
data_of (created name multi text) = tagged (codes "c") (item (string name) (item (flag multi) (one (string text))))
data_of (dropped name) = tagged (codes "d") (one (string name))
data_of (renamed old new) = tagged (codes "r") (item (string old) (one (string new)))
data_of shut = tagged (codes "x") no_items

abbrev pub text_of : Recorded → List ℕ
text_of r = compact_text (data_of r)
