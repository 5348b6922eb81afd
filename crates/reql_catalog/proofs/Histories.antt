-- Along histories names and slots agree, and a slot that was given stands for the same table until that is dropped.
use Rattle.std.proofs.Common.{◌≡◌, ℕ, zero, suc, ◌<◌, ◌≤◌, List, [], ◌∷◌, ◌++◌, length, map, Option, Some, None, Bool, true, false, cond, ◌&&◌, nat_lt, slice_get, slice_set, codes, refl, ap, ◌∙◌, ◌⊎◌, inl, inr, arith}
use Rattle.std.proofs.lemmas.List.{length-map, length-append, length-set}
use Rattle.reql_datum.specs.Members.{find}
use Rattle.reql_datum.proofs.Members.{rising_nil}
use Rattle.reql_catalog.specs.Agreeing.{after_all, NamesAgree, SlotsStay}
use Rattle.reql_catalog.specs.Catalog.{is_name, is_key_field, holds, slots_of, slot_of, in_slot}
use Rattle.reql_catalog.specs.Machine.{if_good, makes_db, drops_db, makes_at, makes_table, drops_at, drops_table, effect, done, none_at, cleared, emptied, one_more, is_past, after, opened, opening, no_names}
use Rattle.reql_catalog.specs.declared.catalog.Catalog.{Catalog}
use Rattle.reql_catalog.specs.declared.database.Database.{Database}
use Rattle.reql_catalog.specs.declared.slot.Slot.{Slot}
use Rattle.reql_catalog.specs.declared.slot.Table.{Table}
use Rattle.reql_catalog.specs.declared.command.CatCmd.{CatCmd}
use Rattle.reql_catalog.specs.declared.command.CatCmd.TheVariants as cmds
use Rattle.reql_catalog.specs.declared.command.CatSaid.TheVariants as said
use Rattle.reql_catalog.proofs.Agreeing.{Text, Sound, db_made, db_dropped, table_made, table_dropped}
use Rattle.reql_catalog.proofs.Places.{get_before, get_set}

-- ---- what a command does
module _ (c : Catalog) (s : Sound c.names) where
  db_create : (db : Text) (b : Bool) (o : Option Database) → find db c.names.dbs ≡ o → Sound (effect (cmds.DbCreate db) (if_good b (makes_db o)) c).names
  db_create db false o e = s
  db_create db true None e = db_made db c s e
  db_create db true (Some d) e = s

  db_drop : (db : Text) (slots : List ℕ) (b : Bool) (o : Option Database) → Sound (effect (cmds.DbDrop db) (if_good b (drops_db slots o)) c).names
  db_drop db slots false o = s
  db_drop db slots true None = s
  db_drop db slots true (Some d) = db_dropped db c s

  new_table : (db table key : Text) (d : Database) (b : Bool) → find db c.names.dbs ≡ Some d → find table d.tables ≡ None → Sound (effect (cmds.TableCreate db table key) (cond b said.Made (said.SlotsFull c.most)) c).names
  new_table db table key d false there none = s
  new_table db table key d true there none = table_made db table key c s d there none

  table_create : (db table key : Text) (b : Bool) (o : Option Database) → find db c.names.dbs ≡ o → Sound (effect (cmds.TableCreate db table key) (if_good b (makes_table (length c.names.slots) c.most table o)) c).names
  table_create db table key false o e = s
  table_create db table key true None e = s
  table_create db table key true (Some d) e = by_table (find table d.tables) refl where
    by_table : (x : Option ℕ) → find table d.tables ≡ x → Sound (effect (cmds.TableCreate db table key) (makes_at (length c.names.slots) c.most x) c).names
    by_table None f = new_table db table key d (nat_lt (length c.names.slots) c.most) e f
    by_table (Some slot) f = s

  table_drop : (db table : Text) (b : Bool) (o : Option Database) → find db c.names.dbs ≡ o → Sound (effect (cmds.TableDrop db table) (if_good b (drops_table table o)) c).names
  table_drop db table false o e = s
  table_drop db table true None e = s
  table_drop db table true (Some d) e = by_table (find table d.tables) refl where
    by_table : (x : Option ℕ) → find table d.tables ≡ x → Sound (effect (cmds.TableDrop db table) (drops_at x) c).names
    by_table None f = s
    by_table (Some slot) f = table_dropped db table c s d slot e f

  sound_done : (x : CatCmd) → Sound (done x c).names
  sound_done (cmds.DbCreate db) = db_create db (is_name db) (find db c.names.dbs) refl
  sound_done (cmds.DbDrop db) = db_drop db (slots_of db c.names.slots) (is_name db) (find db c.names.dbs)
  sound_done (cmds.TableCreate db table key) = table_create db table key (is_name db && (is_name table && is_key_field key)) (find db c.names.dbs) refl
  sound_done (cmds.TableDrop db table) = table_drop db table (is_name db && is_name table) (find db c.names.dbs) refl

-- the place alone is another
placed : (c : Catalog) → Sound c.names → Sound (one_more c).names
placed c s = record { rising = s.rising; tables = s.tables; found = s.found; named = s.named }

sound_after : (c : Catalog) (x : CatCmd) → Sound c.names → Sound (after c x).names
sound_after c x s = by_room (is_past c) where
  by_room : (b : Bool) → Sound (cond b c (one_more (done x c))).names
  by_room true = s
  by_room false = placed (done x c) (sound_done c s x)

sound_all : (c : Catalog) (history : List CatCmd) → Sound c.names → Sound (after_all c history).names
sound_all c [] s = s
sound_all c (x ∷ xs) s = sound_all (after c x) xs (sound_after c x s)

sound_opened : (tables : List (Text × Text)) (c : Catalog) → Sound c.names → Sound (opened tables c).names
sound_opened [] c s = s
sound_opened (p ∷ ps) c s =
    let d : Catalog = done (cmds.DbCreate p.0) c in
    sound_opened ps (done (cmds.TableCreate p.0 p.1 (codes "id")) d) (sound_done d (sound_done c s (cmds.DbCreate p.0)) (cmds.TableCreate p.0 p.1 (codes "id")))

no_names_sound : (most : ℕ) → Sound (no_names most).names
no_names_sound most = record {
  rising = rising_nil Database;
  tables = λ db d h. absurd (cc (h));
  found = λ db table slot h. absurd (cc (h));
  named = λ db table slot h. absurd (cc (h));
}

pub names_agree : NamesAgree
names_agree tables most history =
    let s = sound_all (opening tables most) history (sound_opened tables (done (cmds.DbCreate (codes "test")) (no_names most)) (sound_done (no_names most) (no_names_sound most) (cmds.DbCreate (codes "test")))) in
    λ db table slot. (s.found db table slot, s.named db table slot)

-- ---- a slot that was given
abbrev slot_table : List Slot → ℕ → Option Table
slot_table ss slot = in_slot (slice_get ss slot)

-- its table stays or goes, and there are no fewer slots
record Stays (ss ts : List Slot) : Type 0 where
  longer : length ss ≤ length ts
  stays : (slot : ℕ) → slot < length ss → (slot_table ts slot ≡ slot_table ss slot) ⊎ (slot_table ts slot ≡ None)

stays_itself : (ss : List Slot) → Stays ss ss
stays_itself ss = record { longer = omega arith; stays = λ slot h. inl refl }

stays_on : (ss ts us : List Slot) → Stays ss ts → Stays ts us → Stays ss us
stays_on ss ts us f g = record {
  longer = omega (arith, f.longer, g.longer);
  stays = λ slot h. elim (g.stays slot (omega (arith, f.longer, h))) [
    | inr q ↦ inr q
    | inl q ↦ (elim (f.stays slot h) [
      | inl p ↦ inl (q ∙ p)
      | inr p ↦ inr (q ∙ p)
    ])
  ];
}

cleared_table : (db : Text) (o : Option Table) → ((cleared db (record { table = o })).table ≡ o) ⊎ ((cleared db (record { table = o })).table ≡ None)
cleared_table db o = by_test (holds db (record { table = o })) where
  by_test : (b : Bool) → ((cond b none_at (record { table = o })).table ≡ o) ⊎ ((cond b none_at (record { table = o })).table ≡ None)
  by_test true = inr refl
  by_test false = inl refl

cleared_at : (db : Text) (ss : List Slot) (slot : ℕ) → (slot_table (map (cleared db) ss) slot ≡ slot_table ss slot) ⊎ (slot_table (map (cleared db) ss) slot ≡ None)
cleared_at db [] slot = inl refl
cleared_at db (x ∷ xs) zero = cleared_table db x.table
cleared_at db (x ∷ xs) (suc slot) = cleared_at db xs slot

stays_cleared : (db : Text) (ss : List Slot) → Stays ss (map (cleared db) ss)
stays_cleared db ss = record { longer = omega (arith, length-map ss (cleared db)); stays = λ slot h. cleared_at db ss slot }

stays_longer : (ss ts : List Slot) → Stays ss (ss ++ ts)
stays_longer ss ts = record { longer = omega (arith, length-append ss ts); stays = λ slot h. inl (ap in_slot (get_before ss ts slot h)) }

emptied_at : (ss : List Slot) (k slot : ℕ) → (slot_table (slice_set ss k none_at) slot ≡ slot_table ss slot) ⊎ (slot_table (slice_set ss k none_at) slot ≡ None)
emptied_at ss k slot = elim (get_set ss none_at k slot) [
  | inl e ↦ inl (ap in_slot e)
  | inr e ↦ inr (ap in_slot e)
]

stays_emptied : (o : Option ℕ) (ss : List Slot) → Stays ss (emptied o ss)
stays_emptied None ss = stays_itself ss
stays_emptied (Some k) ss = record { longer = omega (arith, length-set ss k none_at); stays = λ slot h. emptied_at ss k slot }

module _ (c : Catalog) where
  abbrev StaysIn : Catalog → Type 0
  StaysIn d = Stays c.names.slots d.names.slots

  db_create_stays : (db : Text) (b : Bool) (o : Option Database) → StaysIn (effect (cmds.DbCreate db) (if_good b (makes_db o)) c)
  db_create_stays db false o = stays_itself c.names.slots
  db_create_stays db true None = stays_itself c.names.slots
  db_create_stays db true (Some d) = stays_itself c.names.slots

  db_drop_stays : (db : Text) (slots : List ℕ) (b : Bool) (o : Option Database) → StaysIn (effect (cmds.DbDrop db) (if_good b (drops_db slots o)) c)
  db_drop_stays db slots false o = stays_itself c.names.slots
  db_drop_stays db slots true None = stays_itself c.names.slots
  db_drop_stays db slots true (Some d) = stays_cleared db c.names.slots

  new_table_stays : (db table key : Text) (b : Bool) → StaysIn (effect (cmds.TableCreate db table key) (cond b said.Made (said.SlotsFull c.most)) c)
  new_table_stays db table key false = stays_itself c.names.slots
  new_table_stays db table key true = stays_longer c.names.slots (record { table = Some (record { db = db; name = table; key = key }) } ∷ [])

  made_at_stays : (db table key : Text) (x : Option ℕ) → StaysIn (effect (cmds.TableCreate db table key) (makes_at (length c.names.slots) c.most x) c)
  made_at_stays db table key None = new_table_stays db table key (nat_lt (length c.names.slots) c.most)
  made_at_stays db table key (Some slot) = stays_itself c.names.slots

  table_create_stays : (db table key : Text) (b : Bool) (o : Option Database) → StaysIn (effect (cmds.TableCreate db table key) (if_good b (makes_table (length c.names.slots) c.most table o)) c)
  table_create_stays db table key false o = stays_itself c.names.slots
  table_create_stays db table key true None = stays_itself c.names.slots
  table_create_stays db table key true (Some d) = made_at_stays db table key (find table d.tables)

  drops_at_stays : (db table : Text) (x : Option ℕ) → StaysIn (effect (cmds.TableDrop db table) (drops_at x) c)
  drops_at_stays db table None = stays_itself c.names.slots
  drops_at_stays db table (Some slot) = stays_emptied (slot_of db table c.names) c.names.slots

  table_drop_stays : (db table : Text) (b : Bool) (o : Option Database) → StaysIn (effect (cmds.TableDrop db table) (if_good b (drops_table table o)) c)
  table_drop_stays db table false o = stays_itself c.names.slots
  table_drop_stays db table true None = stays_itself c.names.slots
  table_drop_stays db table true (Some d) = drops_at_stays db table (find table d.tables)

  done_stays : (x : CatCmd) → StaysIn (done x c)
  done_stays (cmds.DbCreate db) = db_create_stays db (is_name db) (find db c.names.dbs)
  done_stays (cmds.DbDrop db) = db_drop_stays db (slots_of db c.names.slots) (is_name db) (find db c.names.dbs)
  done_stays (cmds.TableCreate db table key) = table_create_stays db table key (is_name db && (is_name table && is_key_field key)) (find db c.names.dbs)
  done_stays (cmds.TableDrop db table) = table_drop_stays db table (is_name db && is_name table) (find db c.names.dbs)

  after_stays : (x : CatCmd) → StaysIn (after c x)
  after_stays x = by_room (is_past c) where
    by_room : (b : Bool) → StaysIn (cond b c (one_more (done x c)))
    by_room true = stays_itself c.names.slots
    by_room false = done_stays x

stay_all : (c : Catalog) (history : List CatCmd) → Stays c.names.slots (after_all c history).names.slots
stay_all c [] = stays_itself c.names.slots
stay_all c (x ∷ xs) = stays_on c.names.slots (after c x).names.slots (after_all (after c x) xs).names.slots (after_stays c x) (stay_all (after c x) xs)

pub slots_stay : SlotsStay
slots_stay c history slot h = (stay_all c history).stays slot h
