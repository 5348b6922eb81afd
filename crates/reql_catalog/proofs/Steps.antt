-- What a command keeps of the catalogue: its place, its most, and the bounds on what it counts.
use Rattle.std.proofs.Common.{◌≡◌, ℕ, suc, ◌+◌, ◌-◌, ◌^◌, ◌<◌, ◌≤◌, List, [], ◌∷◌, ◌++◌, length, map, Option, Some, None, Bool, true, false, ◌&&◌, cond, nat_lt, nat_eq, slice_set, codes, refl, sym, ap, ◌∙◌, arith}
use Rattle.std.proofs.lemmas.List.{length-map, length-append, length-set}
use Rattle.reql_datum.specs.Members.{find}
use Rattle.reql_catalog.specs.Catalog.{Named, is_name, is_key_field, slots_of, slot_of}
use Rattle.reql_catalog.specs.Machine.{if_good, makes_db, drops_db, makes_at, makes_table, drops_at, drops_table, says, effect, done, none_at, cleared, emptied, one_more, is_past, after, reply, answer, opened, opening, no_names}
use Rattle.reql_catalog.specs.Bounds.{Keeps, OpensFrom}
use Rattle.reql_catalog.specs.declared.catalog.Catalog.{Catalog}
use Rattle.reql_catalog.specs.declared.database.Database.{Database}
use Rattle.reql_catalog.specs.declared.slot.Slot.{Slot}
use Rattle.reql_catalog.specs.declared.command.CatCmd.{CatCmd}
use Rattle.reql_catalog.specs.declared.command.CatCmd.TheVariants as cmds
use Rattle.reql_catalog.specs.declared.command.CatReply.{CatReply}
use Rattle.reql_catalog.specs.declared.command.CatSaid.TheVariants as said
use Rattle.std.proofs.lemmas.Bool.Decides.{nat_tests}

itself : (c : Catalog) → Keeps c c
itself c = record { place = refl; most = refl; made = omega arith; slots = λ h. h }

length_set : (ss : List Slot) (i : ℕ) (s : Slot) → length (slice_set ss i s) ≡ length ss
length_set ss i s = length-set ss i s

length_emptied : (o : Option ℕ) (ss : List Slot) → length (emptied o ss) ≡ length ss
length_emptied None ss = refl
length_emptied (Some i) ss = length_set ss i none_at

db_create : (db : List ℕ) (c : Catalog) (b : Bool) (o : Option Database) → Keeps c (effect (cmds.DbCreate db) (if_good b (makes_db o)) c)
db_create db c false o = itself c
db_create db c true None = record { place = refl; most = refl; made = omega arith; slots = λ h. h }
db_create db c true (Some d) = itself c

db_drop : (db : List ℕ) (c : Catalog) (slots : List ℕ) (b : Bool) (o : Option Database) → Keeps c (effect (cmds.DbDrop db) (if_good b (drops_db slots o)) c)
db_drop db c slots false o = itself c
db_drop db c slots true None = itself c
db_drop db c slots true (Some d) = record { place = refl; most = refl; made = omega arith; slots = λ h. rw (length-map c.names.slots (cleared db)) h }

table_made : (db table key : List ℕ) (c : Catalog) (b : Bool) → nat_lt (length c.names.slots) c.most ≡ b → Keeps c (effect (cmds.TableCreate db table key) (cond b said.Made (said.SlotsFull c.most)) c)
table_made db table key c false e = itself c
table_made db table key c true e = record { place = refl; most = refl; made = omega arith; slots = λ h. grind (arith, length-append {A = Slot}, nat_tests) }

table_create : (db table key : List ℕ) (c : Catalog) (b : Bool) (o : Option Database) → Keeps c (effect (cmds.TableCreate db table key) (if_good b (makes_table (length c.names.slots) c.most table o)) c)
table_create db table key c false o = itself c
table_create db table key c true None = itself c
table_create db table key c true (Some d) = table_at (find table d.tables) where
  table_at : (o : Option ℕ) → Keeps c (effect (cmds.TableCreate db table key) (makes_at (length c.names.slots) c.most o) c)
  table_at None = table_made db table key c (nat_lt (length c.names.slots) c.most) refl
  table_at (Some slot) = itself c

table_drop : (db table : List ℕ) (c : Catalog) (b : Bool) (o : Option Database) → Keeps c (effect (cmds.TableDrop db table) (if_good b (drops_table table o)) c)
table_drop db table c false o = itself c
table_drop db table c true None = itself c
table_drop db table c true (Some d) = drop_at (find table d.tables) where
  drop_at : (o : Option ℕ) → Keeps c (effect (cmds.TableDrop db table) (drops_at o) c)
  drop_at None = itself c
  drop_at (Some slot) = record { place = refl; most = refl; made = omega arith; slots = λ h. rw (length_emptied (slot_of db table c.names) c.names.slots) h }

pub keeps : (cmd : CatCmd) (c : Catalog) → Keeps c (done cmd c)
keeps (cmds.DbCreate db) c = db_create db c (is_name db) (find db c.names.dbs)
keeps (cmds.DbDrop db) c = db_drop db c (slots_of db c.names.slots) (is_name db) (find db c.names.dbs)
keeps (cmds.TableCreate db table key) c = table_create db table key c (is_name db && (is_name table && is_key_field key)) (find db c.names.dbs)
keeps (cmds.TableDrop db table) c = table_drop db table c (is_name db && is_name table) (find db c.names.dbs)

-- a command for which the history has room, and one for which it hasn't
pub reply_to : (c : Catalog) (cmd : CatCmd) → is_past c ≡ false → record { place = suc c.names.place; said = says c cmd } ≡ reply c cmd
reply_to c cmd room =
    let at : (done cmd c).names.place ≡ c.names.place = (keeps cmd c).place in
    let said_is : answer c cmd ≡ says c cmd = ap (λ b. cond b (said.HistoryFull (2 ^ 64 - 1)) (says c cmd)) room in
    let after_is : after c cmd ≡ one_more (done cmd c) = ap (λ b. cond b c (one_more (done cmd c))) room in
    let place_is : (after c cmd).names.place ≡ suc c.names.place = ap (λ (d : Catalog). d.names.place) after_is ∙ ap suc at in
    cc

pub after_is : (c : Catalog) (cmd : CatCmd) → is_past c ≡ false → one_more (done cmd c) ≡ after c cmd
after_is c cmd room = ap (λ b. cond b c (one_more (done cmd c))) (sym room)

-- a table of an opening
pub opens_from : (p : List ℕ × List ℕ) (c : Catalog) → OpensFrom c (opened (p ∷ []) c)
opens_from p c =
    let db = keeps (cmds.DbCreate p.0) c in
    let table = keeps (cmds.TableCreate p.0 p.1 (codes "id")) (done (cmds.DbCreate p.0) c) in
    record { place = table.place ∙ db.place; most = table.most ∙ db.most; made = omega (arith, table.made, db.made); slots = λ h. table.slots (db.slots h) }

pub opens_to : (p : List ℕ × List ℕ) (c d : Catalog) → d ≡ opened (p ∷ []) c → OpensFrom c d
opens_to p c d is = rw is (opens_from p c)

pub first_opens : (most : ℕ) (d : Catalog) → d ≡ opening [] most → OpensFrom (no_names most) d
first_opens most d is =
    let kept = keeps (cmds.DbCreate (codes "test")) (no_names most) in
    rw is (record { place = kept.place; most = kept.most; made = omega (arith, kept.made); slots = kept.slots })
