-- Each command leaves names and slots agreeing.
use Rattle.std.proofs.Common.{◌≡◌, ℕ, zero, suc, ◌<◌, List, [], ◌∷◌, ◌++◌, length, map, Option, Some, None, Bool, true, false, cond, if◌then◌else◌, slice_get, slice_set, refl, sym, ap, ◌∙◌, subst, inl, inr}
use Rattle.std.specs.Ordering.{is_eq}
use Rattle.std.proofs.lemmas.Cmp.{tied_itself, nat_list_cmp_total}
use Rattle.reql_memory.proofs.Finds.{is_equal, find_put, find_without}
use Rattle.reql_datum.specs.Members.{text_order, find, put, without, AreRising}
use Rattle.reql_datum.proofs.Finds.{equal_texts}
use Rattle.reql_datum.proofs.Members.{rising_nil, rising_put, rising_without}
use Rattle.reql_catalog.specs.Catalog.{Named, is_text, slot_in, slot_of, in_slot, names_in, names_at}
use Rattle.reql_catalog.specs.Machine.{with_tables, none_at, cleared, emptied, with_db, without_db, with_table, without_table}
use Rattle.reql_catalog.specs.declared.catalog.Catalog.{Catalog}
use Rattle.reql_catalog.specs.declared.database.Database.{Database}
use Rattle.reql_catalog.specs.declared.slot.Slot.{Slot}
use Rattle.reql_catalog.specs.declared.slot.Table.{Table}
use Rattle.reql_catalog.proofs.Places.{within, get_before, get_last, get_new, get_replaced, get_other}

abbrev pub Text : Type 0
Text = List ℕ

-- ---- tests on names
by_test : {G : Type 0} (b : Bool) → (b ≡ true → G) → (b ≡ false → G) → G
by_test true here there = here refl
by_test false here there = there refl

same_texts : (s t : Text) → is_text s t ≡ true → s ≡ t
same_texts s t h = equal_texts s t (is_equal (text_order s t) h)

text_itself : (s : Text) → is_text s s ≡ true
text_itself s = ap is_eq (tied_itself nat_list_cmp_total s)

not_same : (s t : Text) → is_text s t ≡ false → s ≡ t → ⊥
not_same s t off e =
    let h : true ≡ false = sym (subst (λ x. is_text s x ≡ true) e (text_itself s)) ∙ off in
    cc

module _ {A : Type 0} where
  if_yes : (b : Bool) (x y : A) → b ≡ true → (if b then x else y) ≡ x
  if_yes true x y h = refl
  if_yes false x y h = absurd (cc (h))

  if_no : (b : Bool) (x y : A) → b ≡ false → (if b then x else y) ≡ y
  if_no true x y h = absurd (cc (h))
  if_no false x y h = refl

  same_some : (x y : A) → Some x ≡ Some y → x ≡ y
  same_some x y h = cc

-- ---- what agrees
pub record Sound (n : Named) : Type 0 where
  pub rising : AreRising n.dbs
  pub tables : (db : Text) (d : Database) → find db n.dbs ≡ Some d → AreRising d.tables
  pub found : (db table : Text) (slot : ℕ) → slot_of db table n ≡ Some slot → names_at slot n ≡ Some (db, table)
  pub named : (db table : Text) (slot : ℕ) → names_at slot n ≡ Some (db, table) → slot_of db table n ≡ Some slot

abbrev names_of : List Slot → ℕ → Option (Text × Text)
names_of ss slot = names_in (in_slot (slice_get ss slot))

name_within : (ss : List Slot) (slot : ℕ) (p : Text × Text) → names_of ss slot ≡ Some p → slot < length ss
name_within ss slot p h = by_slot (slice_get ss slot) refl h where
  by_slot : (o : Option Slot) → slice_get ss slot ≡ o → names_in (in_slot o) ≡ Some p → slot < length ss
  by_slot None e h = absurd (cc (h))
  by_slot (Some s) e h = within ss slot s e

-- ---- what is found after a database is put
slot_put : (db : Text) (d : Database) (dbs : List (Text × Database)) (q t : Text) → slot_in t (find q (put db d dbs)) ≡ (if is_text q db then find t d.tables else slot_in t (find q dbs))
slot_put db d dbs q t = ap (slot_in t) (find_put text_order nat_list_cmp_total dbs db d q) ∙ chosen (is_text q db) (find q dbs) where
  chosen : (b : Bool) (o : Option Database) → slot_in t (if b then Some d else o) ≡ (if b then find t d.tables else slot_in t o)
  chosen true o = refl
  chosen false o = refl

tables_put : (db : Text) (d : Database) (dbs : List (Text × Database)) → AreRising d.tables → ((q : Text) (e : Database) → find q dbs ≡ Some e → AreRising e.tables) → (q : Text) (e : Database) → find q (put db d dbs) ≡ Some e → AreRising e.tables
tables_put db d dbs up all q e h = chosen (is_text q db) (sym (find_put text_order nat_list_cmp_total dbs db d q) ∙ h) where
  chosen : (b : Bool) → (if b then Some d else find q dbs) ≡ Some e → AreRising e.tables
  chosen true h = subst (λ (x : Database). AreRising x.tables) (same_some d e h) up
  chosen false h = all q e h

-- ---- a database is made
module _ (db : Text) (c : Catalog) (s : Sound c.names) (none : find db c.names.dbs ≡ None) where
  abbrev empty_db : Database
  empty_db = record { number = c.made; tables = [] }

  made_slot : (b : Bool) (q t : Text) → is_text q db ≡ b → (if b then find t (empty_db).tables else slot_of q t c.names) ≡ slot_of q t c.names
  made_slot true q t e = sym (ap (slot_in t) (subst (λ x. find x c.names.dbs ≡ None) (sym (same_texts q db e)) none))
  made_slot false q t e = refl

  slot_same : (q t : Text) → slot_of q t (with_db db c).names ≡ slot_of q t c.names
  slot_same q t = slot_put db empty_db c.names.dbs q t ∙ made_slot (is_text q db) q t refl

  pub db_made : Sound (with_db db c).names
  db_made = record {
    rising = rising_put db empty_db c.names.dbs s.rising;
    tables = tables_put db empty_db c.names.dbs (rising_nil ℕ) s.tables;
    found = λ q t slot h. s.found q t slot (sym (slot_same q t) ∙ h);
    named = λ q t slot h. slot_same q t ∙ s.named q t slot h;
  }

-- ---- a database is dropped, and its tables with it
module _ (db : Text) (c : Catalog) (s : Sound c.names) where
  find_dropped : (q : Text) → find q (without db c.names.dbs) ≡ (if is_text db q then None else find q c.names.dbs)
  find_dropped q = find_without text_order nat_list_cmp_total c.names.dbs db q s.rising

  slot_dropped : (q t : Text) → slot_of q t (without_db db c).names ≡ (if is_text db q then None else slot_of q t c.names)
  slot_dropped q t = ap (slot_in t) (find_dropped q) ∙ chosen (is_text db q) (find q c.names.dbs) where
    chosen : (b : Bool) (o : Option Database) → slot_in t (if b then None else o) ≡ (if b then None else slot_in t o)
    chosen true o = refl
    chosen false o = refl

  dropped_from : (b : Bool) (o : Option Database) (e : Database) → (if b then None else o) ≡ Some e → o ≡ Some e
  dropped_from true o e h = absurd (cc (h))
  dropped_from false o e h = h

  abbrev unless_here : Option (Text × Text) → Option (Text × Text)
  unless_here None = None
  unless_here (Some p) = if is_text p.0 db then None else Some p

  cleared_name : (o : Option Table) → names_in (cleared db (record { table = o })).table ≡ unless_here (names_in o)
  cleared_name None = refl
  cleared_name (Some t) = chosen (is_text t.db db) where
    chosen : (b : Bool) → names_in (cond b none_at (record { table = Some t })).table ≡ (if b then None else Some (t.db, t.name))
    chosen true = refl
    chosen false = refl

  names_cleared : (ss : List Slot) (slot : ℕ) → names_of (map (cleared db) ss) slot ≡ unless_here (names_of ss slot)
  names_cleared [] slot = refl
  names_cleared (x ∷ xs) zero = cleared_name x.table
  names_cleared (x ∷ xs) (suc slot) = names_cleared xs slot

  pub db_dropped : Sound (without_db db c).names
  db_dropped = record {
    rising = rising_without db c.names.dbs s.rising;
    tables = λ q e h. s.tables q e (dropped_from (is_text db q) (find q c.names.dbs) e (sym (find_dropped q) ∙ h));
    found = λ q t slot h. found_after (is_text db q) q t slot refl (sym (slot_dropped q t) ∙ h);
    named = λ q t slot h. named_after q t slot (names_of c.names.slots slot) refl (sym (names_cleared c.names.slots slot) ∙ h);
  } where
    turned : (q : Text) → is_text db q ≡ false → is_text q db ≡ false
    turned q off = by_test (is_text q db) (λ it. absurd (not_same db q off (sym (same_texts q db it)))) (λ e. e)

    turned_back : (q : Text) → is_text q db ≡ false → is_text db q ≡ false
    turned_back q off = by_test (is_text db q) (λ it. absurd (not_same q db off (sym (same_texts db q it)))) (λ e. e)

    found_after : (b : Bool) (q t : Text) (slot : ℕ) → is_text db q ≡ b → (if b then None else slot_of q t c.names) ≡ Some slot → names_at slot (without_db db c).names ≡ Some (q, t)
    found_after true q t slot e h = absurd (cc (h))
    found_after false q t slot e h = names_cleared c.names.slots slot ∙ ap unless_here (s.found q t slot h) ∙ if_no (is_text q db) None (Some (q, t)) (turned q e)

    named_after : (q t : Text) (slot : ℕ) (o : Option (Text × Text)) → names_of c.names.slots slot ≡ o → unless_here o ≡ Some (q, t) → slot_of q t (without_db db c).names ≡ Some slot
    named_after q t slot None e h = absurd (cc (h))
    named_after q t slot (Some p) e h = by_test (is_text p.0 db)
        (λ it. absurd (let f : None ≡ Some (q, t) = sym (if_yes (is_text p.0 db) None (Some p) it) ∙ h in cc))
        (λ other.
        let f : p ≡ (q, t) = same_some p (q, t) (sym (if_no (is_text p.0 db) None (Some p) other) ∙ h) in
        let off : is_text q db ≡ false = subst (λ (x : Text × Text). is_text x.0 db ≡ false) f other in
        slot_dropped q t ∙ if_no (is_text db q) None (slot_of q t c.names) (turned_back q off) ∙ s.named q t slot (e ∙ ap (λ x. Some x) f))

-- ---- a table is made
module _ (db table key : Text) (c : Catalog) (s : Sound c.names) (d : Database) (there : find db c.names.dbs ≡ Some d) (none : find table d.tables ≡ None) where
  abbrev new_slot : Slot
  new_slot = record { table = Some (record { db = db; name = table; key = key }) }

  abbrev new_db : Database
  new_db = record { number = d.number; tables = put table (length c.names.slots) d.tables }

  abbrev new_names : Named
  new_names = record { place = c.names.place; dbs = put db new_db c.names.dbs; slots = c.names.slots ++ new_slot ∷ [] }

  in_db : (q t : Text) → is_text q db ≡ true → slot_of q t c.names ≡ find t d.tables
  in_db q t e = ap (slot_in t) (subst (λ x. find x c.names.dbs ≡ Some d) (sym (same_texts q db e)) there)

  slot_made : (q t : Text) → slot_of q t new_names ≡ (if is_text q db then (if is_text t table then Some (length c.names.slots) else find t d.tables) else slot_of q t c.names)
  slot_made q t = slot_put db new_db c.names.dbs q t ∙ ap (λ (o : Option ℕ). if is_text q db then o else slot_of q t c.names) (find_put text_order nat_list_cmp_total d.tables table (length c.names.slots) t)

  -- the new table, another one of this database, or one of another
  new_one : (q t : Text) → is_text q db ≡ true → is_text t table ≡ true → slot_of q t new_names ≡ Some (length c.names.slots)
  new_one q t here it = slot_made q t ∙ if_yes (is_text q db) (if is_text t table then Some (length c.names.slots) else find t d.tables) (slot_of q t c.names) here ∙ if_yes (is_text t table) (Some (length c.names.slots)) (find t d.tables) it

  beside : (q t : Text) → is_text q db ≡ true → is_text t table ≡ false → slot_of q t new_names ≡ slot_of q t c.names
  beside q t here off = slot_made q t ∙ if_yes (is_text q db) (if is_text t table then Some (length c.names.slots) else find t d.tables) (slot_of q t c.names) here ∙ if_no (is_text t table) (Some (length c.names.slots)) (find t d.tables) off ∙ sym (in_db q t here)

  elsewhere : (q t : Text) → is_text q db ≡ false → slot_of q t new_names ≡ slot_of q t c.names
  elsewhere q t off = slot_made q t ∙ if_no (is_text q db) (if is_text t table then Some (length c.names.slots) else find t d.tables) (slot_of q t c.names) off

  -- no table of these names was there
  was_none : (q t : Text) (slot : ℕ) → is_text q db ≡ true → is_text t table ≡ true → slot_of q t c.names ≡ Some slot → ⊥
  was_none q t slot here it h =
      let e : find t d.tables ≡ None = subst (λ x. find x d.tables ≡ None) (sym (same_texts t table it)) none in
      let f : None ≡ Some slot = sym e ∙ sym (in_db q t here) ∙ h in
      cc

  kept_name : (slot : ℕ) (p : Text × Text) → names_of c.names.slots slot ≡ Some p → names_of (c.names.slots ++ new_slot ∷ []) slot ≡ Some p
  kept_name slot p h = ap (λ o. names_in (in_slot o)) (get_before c.names.slots (new_slot ∷ []) slot (name_within c.names.slots slot p h)) ∙ h

  table_found : (q t : Text) (slot : ℕ) → slot_of q t new_names ≡ Some slot → names_at slot new_names ≡ Some (q, t)
  table_found q t slot h = by_test (is_text q db)
      (λ here. by_test (is_text t table)
      (λ it.
      let at : length c.names.slots ≡ slot = same_some (length c.names.slots) slot (sym (new_one q t here it) ∙ h) in
      let names : Some (db, table) ≡ Some (q, t) = λ i. Some (sym (same_texts q db here) i, sym (same_texts t table it) i) in
      ap (λ k. names_of (c.names.slots ++ new_slot ∷ []) k) (sym at) ∙ ap (λ o. names_in (in_slot o)) (get_last c.names.slots new_slot) ∙ names)
      (λ off. kept_name slot (q, t) (s.found q t slot (sym (beside q t here off) ∙ h))))
      (λ off. kept_name slot (q, t) (s.found q t slot (sym (elsewhere q t off) ∙ h)))

  still_there : (q t : Text) (slot : ℕ) → slot_of q t c.names ≡ Some slot → slot_of q t new_names ≡ Some slot
  still_there q t slot h = by_test (is_text q db)
      (λ here. by_test (is_text t table) (λ it. absurd (was_none q t slot here it h)) (λ off. beside q t here off ∙ h))
      (λ off. elsewhere q t off ∙ h)

  table_named : (q t : Text) (slot : ℕ) → names_at slot new_names ≡ Some (q, t) → slot_of q t new_names ≡ Some slot
  table_named q t slot h = by_slot (slice_get (c.names.slots ++ new_slot ∷ []) slot) refl h where
    by_slot : (o : Option Slot) → slice_get (c.names.slots ++ new_slot ∷ []) slot ≡ o → names_in (in_slot o) ≡ Some (q, t) → slot_of q t new_names ≡ Some slot
    by_slot None e h = absurd (cc (h))
    by_slot (Some z) e h = elim (get_new c.names.slots new_slot z slot e) [
      | inl g ↦ still_there q t slot (s.named q t slot (ap (λ o. names_in (in_slot o)) g ∙ h))
      | inr g ↦ (let f : Some (db, table) ≡ Some (q, t) = ap (λ (y : Slot). names_in y.table) g.1 ∙ h in
          let p : (db, table) ≡ (q, t) = same_some (db, table) (q, t) f in
          let here : is_text q db ≡ true = subst (λ (x : Text × Text). is_text x.0 db ≡ true) p (text_itself db) in
          let it : is_text t table ≡ true = subst (λ (x : Text × Text). is_text x.1 table ≡ true) p (text_itself table) in
          new_one q t here it ∙ ap (λ k. Some k) (sym g.0))
    ]

  new_sound : Sound new_names
  new_sound = record {
    rising = rising_put db new_db c.names.dbs s.rising;
    tables = tables_put db new_db c.names.dbs (rising_put table (length c.names.slots) d.tables (s.tables db d there)) s.tables;
    found = table_found;
    named = table_named;
  }

  pub table_made : Sound (with_table db table key c).names
  table_made = subst (λ o. Sound (record { place = c.names.place; dbs = with_tables db o (put table (length c.names.slots)) c.names.dbs; slots = c.names.slots ++ new_slot ∷ [] })) (sym there) new_sound

-- ---- a table is dropped
module _ (db table : Text) (c : Catalog) (s : Sound c.names) (d : Database) (slot : ℕ) (there : find db c.names.dbs ≡ Some d) (at : find table d.tables ≡ Some slot) where
  abbrev less_db : Database
  less_db = record { number = d.number; tables = without table d.tables }

  abbrev less_names : Named
  less_names = record { place = c.names.place; dbs = put db less_db c.names.dbs; slots = slice_set c.names.slots slot none_at }

  was_in_db : (q t : Text) → is_text q db ≡ true → slot_of q t c.names ≡ find t d.tables
  was_in_db q t e = ap (slot_in t) (subst (λ x. find x c.names.dbs ≡ Some d) (sym (same_texts q db e)) there)

  was_at : slot_of db table c.names ≡ Some slot
  was_at = was_in_db db table (text_itself db) ∙ at

  slot_lost : (q t : Text) → slot_of q t less_names ≡ (if is_text q db then (if is_text table t then None else find t d.tables) else slot_of q t c.names)
  slot_lost q t = slot_put db less_db c.names.dbs q t ∙ ap (λ (o : Option ℕ). if is_text q db then o else slot_of q t c.names) (find_without text_order nat_list_cmp_total d.tables table t (s.tables db d there))

  gone : (q t : Text) → is_text q db ≡ true → is_text table t ≡ true → slot_of q t less_names ≡ None
  gone q t here it = slot_lost q t ∙ if_yes (is_text q db) (if is_text table t then None else find t d.tables) (slot_of q t c.names) here ∙ if_yes (is_text table t) None (find t d.tables) it

  left_beside : (q t : Text) → is_text q db ≡ true → is_text table t ≡ false → slot_of q t less_names ≡ slot_of q t c.names
  left_beside q t here off = slot_lost q t ∙ if_yes (is_text q db) (if is_text table t then None else find t d.tables) (slot_of q t c.names) here ∙ if_no (is_text table t) None (find t d.tables) off ∙ sym (was_in_db q t here)

  left_elsewhere : (q t : Text) → is_text q db ≡ false → slot_of q t less_names ≡ slot_of q t c.names
  left_elsewhere q t off = slot_lost q t ∙ if_no (is_text q db) (if is_text table t then None else find t d.tables) (slot_of q t c.names) off

  -- another name stands for another slot
  abbrev IsOther : Text × Text → Type 0
  IsOther p = p ≡ (db, table) → ⊥

  apart : (q t : Text) (k : ℕ) → names_at k c.names ≡ Some (q, t) → IsOther (q, t) → slot ≡ k → ⊥
  apart q t k h other e = other (same_some (q, t) (db, table) (sym h ∙ subst (λ j. names_at j c.names ≡ Some (db, table)) e (s.found db table slot was_at)))

  name_kept : (q t : Text) (k : ℕ) → names_at k c.names ≡ Some (q, t) → IsOther (q, t) → names_at k less_names ≡ Some (q, t)
  name_kept q t k h other = ap (λ o. names_in (in_slot o)) (get_other c.names.slots none_at slot k (apart q t k h other)) ∙ h

  left_found : (q t : Text) (k : ℕ) → slot_of q t less_names ≡ Some k → names_at k less_names ≡ Some (q, t)
  left_found q t k h = by_test (is_text q db)
      (λ here. by_test (is_text table t)
      (λ it. absurd (let f : None ≡ Some k = sym (gone q t here it) ∙ h in cc))
      (λ off. name_kept q t k (s.found q t k (sym (left_beside q t here off) ∙ h)) (λ e. not_same table t off (ap (λ (x : Text × Text). x.1) (sym e)))))
      (λ off. name_kept q t k (s.found q t k (sym (left_elsewhere q t off) ∙ h)) (λ e. not_same q db off (ap (λ (x : Text × Text). x.0) e)))

  -- the slot of the table holds none
  emptied_slot : (k : ℕ) (p : Text × Text) → slot ≡ k → names_at k less_names ≡ Some p → ⊥
  emptied_slot k p e h =
      let f : names_at slot less_names ≡ Some p = subst (λ j. names_at j less_names ≡ Some p) (sym e) h in
      let g : names_at slot less_names ≡ None = ap (λ o. names_in (in_slot o)) (get_replaced c.names.slots none_at slot (name_within c.names.slots slot (db, table) (s.found db table slot was_at))) in
      let i : None ≡ Some p = sym g ∙ f in
      cc

  left_named : (q t : Text) (k : ℕ) → names_at k less_names ≡ Some (q, t) → slot_of q t less_names ≡ Some k
  left_named q t k h =
      let other : slot ≡ k → ⊥ = λ e. emptied_slot k (q, t) e h in
      let was : slot_of q t c.names ≡ Some k = s.named q t k (ap (λ o. names_in (in_slot o)) (sym (get_other c.names.slots none_at slot k other)) ∙ h) in
      by_test (is_text q db)
      (λ here. by_test (is_text table t)
      (λ it. absurd (other (same_some slot k (sym (subst (λ x. find x d.tables ≡ Some slot) (same_texts table t it) at) ∙ sym (was_in_db q t here) ∙ was))))
      (λ off. left_beside q t here off ∙ was))
      (λ off. left_elsewhere q t off ∙ was)

  less_sound : Sound less_names
  less_sound = record {
    rising = rising_put db less_db c.names.dbs s.rising;
    tables = tables_put db less_db c.names.dbs (rising_without table d.tables (s.tables db d there)) s.tables;
    found = left_found;
    named = left_named;
  }

  pub table_dropped : Sound (without_table db table c).names
  table_dropped = subst (λ o. Sound (record { place = c.names.place; dbs = with_tables db (find db c.names.dbs) (without table) c.names.dbs; slots = emptied o c.names.slots })) (sym was_at)
      (subst (λ o. Sound (record { place = c.names.place; dbs = with_tables db o (without table) c.names.dbs; slots = slice_set c.names.slots slot none_at })) (sym there) less_sound)
