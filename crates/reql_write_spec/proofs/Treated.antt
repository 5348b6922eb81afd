-- What a write makes of a document at a key is a change of what is there, to a document that has this key; so each change comes, and a good table stays one.
use Rattle.std.proofs.Common.{◌≡◌, refl, sym, subst, ap, ◌∙◌, Bool, true, false, is_eq, List, [], ◌∷◌, ◌++◌, map, if◌then◌else◌, Option, Some, None, Ok, Err}
use Rattle.std.specs.List.{AllByRecursion}
use Rattle.reql_datum.specs.Answer.{Answer, ◌>>=◌}
use Rattle.reql_datum.specs.Kinds.{is_storable}
use Rattle.reql_datum.specs.Order.{order}
use Rattle.reql_datum.specs.Plain.{Plain, low, array, boolean, null, number, object, binary, time, text, high}
use Rattle.reql_datum.specs.Total.{order_total}
use Rattle.reql_memory.specs.Sorted.{find_by, put_by, without_by}
use Rattle.reql_memory.proofs.Finds.{is_equal, find_put, find_without}
use Rattle.reql_memory.proofs.Sorted.{some_inside, rising_put, rising_without}
use Rattle.reql_term.specs.Form.{Form}
use Rattle.reql_term.specs.Views.{Document, Index}
use Rattle.reql_rules.specs.Faults.{unshowable}
use Rattle.reql_rules.specs.Lists.{Bytes, joined}
use Rattle.reql_rules.specs.Merging.{merge}
use Rattle.reql_rules.specs.Patterns.{holds}
use Rattle.reql_rules.specs.Types.{same, as_object}
use Rattle.reql_bag.proofs.Rising.{equal_is}
use Rattle.reql_write_spec.specs.Laws.{AllCome, ChangesCome, IsGoodDocument, IsLeftGood, ChangesLeaveGood, IsGood, GoodTablesStay}
use Rattle.reql_write_spec.specs.Selecting.{selected}
use Rattle.reql_write_spec.specs.Treated.{Treated, inserted, replaced, deleted, unchanged, skipped, failed, Changed, changes_of, changed, changed_by}
use Rattle.reql_write_spec.specs.Treating.{key_changed, or_failed, standing, storing, field_in, keeping_stored, key_of, by_key, met, inserting, keyed, given_by, updated, updating, without_doc, replaced_by, replacing, treat_all, at_key}
use Rattle.reql_write_spec.specs.Write.{treated, all_changes}
use Rattle.reql_write_spec.specs.declared.command.Act.{Act}
use Rattle.reql_write_spec.specs.declared.command.Act.TheVariants as act
use Rattle.reql_write_spec.specs.declared.command.Conflict.{Conflict}
use Rattle.reql_write_spec.specs.declared.command.Conflict.TheVariants as conflict

-- ---- equal values are one
same_is : (a b : Plain) → same a b ≡ true → a ≡ b
same_is a b h = equal_is a b (is_equal (order a b) h)

key_held : (key : Plain) (o : Option Plain) → holds (same key) o ≡ true → o ≡ Some key
key_held key None h = cc
key_held key (Some k) h = ap Some (sym (same_is key k h))

-- ---- one document
-- of the document at a key, if one is there, this was made; a new one has this key and may be stored
module _ (field : Bytes) (key : Plain) where
  abbrev IsOf : Option Plain → Treated → Type 0
  IsOf old (inserted k new) = (k ≡ key) × (old ≡ None) × IsGoodDocument field key new
  IsOf old (replaced k o new) = (k ≡ key) × (old ≡ Some o) × (same o new ≡ false) × IsGoodDocument field key new
  IsOf old (deleted k o) = (k ≡ key) × (old ≡ Some o)
  IsOf old (unchanged d) = Unit {0}
  IsOf old skipped = Unit {0}
  IsOf old (failed why d) = Unit {0}

  module _ (old : Option Plain) where
    after : {A : Type 0} (d : Option Plain) (a : Answer A) (f : A → Answer Treated) → ((x : A) → IsOf old (or_failed d (f x))) → IsOf old (or_failed d (a >>= f))
    after d (Ok x) f h = h x
    after d (Err e) f h = tt

  standing_by : (b : Bool) (o new : Plain) → same o new ≡ b → IsGoodDocument field key new → IsOf (Some o) (if b then unchanged o else replaced key o new)
  standing_by true o new is h = tt
  standing_by false o new is h = (refl, refl, is, h)

  standing_is : (old : Option Plain) (new : Plain) → IsGoodDocument field key new → IsOf old (standing key new old)
  standing_is None new h = (refl, refl, h)
  standing_is (Some o) new h = standing_by (same o new) o new refl h

  storing_by : (b : Bool) (old d : Option Plain) (new : Plain) → is_storable new ≡ b → field_in field new ≡ Some key → IsOf old (or_failed d (if b then Ok (standing key new old) else Err unshowable))
  storing_by true old d new is h = standing_is old new (is, h)
  storing_by false old d new is h = tt

  keeping_by : (b : Bool) (old d : Option Plain) (new : Plain) → holds (same key) (field_in field new) ≡ b → IsOf old (or_failed d ((if b then Ok new else Err (key_changed field)) >>= storing key old))
  keeping_by true old d new is = storing_by (is_storable new) old d new refl (key_held key (field_in field new) is)
  keeping_by false old d new is = tt

  keeps : (old d : Option Plain) (new : Plain) → IsOf old (or_failed d (keeping_stored field key old new))
  keeps old d new = keeping_by (holds (same key) (field_in field new)) old d new refl

  meets : (c : Conflict) (doc : Plain) (old : Option Plain) → IsOf old (met field c doc key old)
  meets c doc None = keeps None None doc
  meets conflict.Error doc (Some o) = tt
  meets conflict.Replace doc (Some o) = keeps (Some o) (Some o) doc
  meets conflict.Update doc (Some o) = keeps (Some o) (Some o) (merge o doc)

  updates : (change : Form) (old : Option Plain) → IsOf old (updating field change key old)
  updates change None = tt
  updates change (Some o) = after (Some o) (Some o) (given_by change (Some o)) (updated field key o)
      (λ d. after (Some o) (Some o) (as_object d) (λ _. keeping_stored field key (Some o) (merge o d)) (λ _. keeps (Some o) (Some o) (merge o d)))

  goes : (old : Option Plain) → IsOf old (without_doc key old)
  goes None = tt
  goes (Some o) = (refl, refl)

  by_object : (old : Option Plain) (d : Plain) → IsOf old (or_failed old (as_object d >>= λ _. keeping_stored field key old d))
  by_object old d = after old old (as_object d) (λ _. keeping_stored field key old d) (λ _. keeps old old d)

  replaces_by : (old : Option Plain) (d : Plain) → IsOf old (or_failed old (replaced_by field key old d))
  replaces_by old null = goes old
  replaces_by old low = by_object old low
  replaces_by old (array vs) = by_object old (array vs)
  replaces_by old (boolean b) = by_object old (boolean b)
  replaces_by old (number n) = by_object old (number n)
  replaces_by old (object ms) = by_object old (object ms)
  replaces_by old (binary s) = by_object old (binary s)
  replaces_by old (time t) = by_object old (time t)
  replaces_by old (text s) = by_object old (text s)
  replaces_by old high = by_object old high

  replaces : (change : Form) (old : Option Plain) → IsOf old (replacing field change key old)
  replaces change old = after old old (given_by change old) (replaced_by field key old) (replaces_by old)

-- ---- a list of them
module _ (field : Bytes) where
  -- made of what is at some key
  abbrev Fits : List Document → Treated → Type 0
  Fits docs t = (key : Plain) × IsOf field key (find_by order key docs) t

  abbrev AllFit : List Document → List Treated → Type 0
  AllFit docs [] = Unit {0}
  AllFit docs (t ∷ ts) = Fits docs t × AllFit (changed_by docs (changes_of t)) ts

  all_fit : {A : Type 0} (treat : List Document → A → Treated) → ((docs : List Document) (x : A) → Fits docs (treat docs x)) → (docs : List Document) (xs : List A) → AllFit docs (treat_all treat docs xs)
  all_fit treat h docs [] = tt
  all_fit treat h docs (x ∷ xs) = (h docs x, all_fit treat h (changed_by docs (changes_of (treat docs x))) xs)

  key_fits : (c : Conflict) (docs : List Document) (doc : Plain) (a : Answer Plain) → Fits docs (by_key (λ key. met field c doc key (find_by order key docs)) a)
  key_fits c docs doc (Ok key) = (key, meets field key c doc (find_by order key docs))
  key_fits c docs doc (Err e) = (null, tt)

  insert_fits : (c : Conflict) (docs : List Document) (doc : Plain) → Fits docs (inserting field c docs doc)
  insert_fits c docs doc = key_fits c docs doc (key_of field doc)

  abbrev AllFitIn : List Document → Answer (List Treated) → Type 0
  AllFitIn docs (Ok ts) = AllFit docs ts
  AllFitIn docs (Err e) = Unit {0}

  rows_fit : (f : Plain → Option Plain → Treated) → ((key : Plain) (old : Option Plain) → IsOf field key old (f key old)) → (docs : List Document) (a : Answer (List Plain)) → AllFitIn docs (a >>= λ keys. Ok (treat_all (at_key f) docs keys))
  rows_fit f h docs (Ok keys) = all_fit (at_key f) (λ ds key. (key, h key (find_by order key ds))) docs keys
  rows_fit f h docs (Err e) = tt

  treated_fit : (docs : List Document) (indexes : List (Bytes × Index)) (a : Act) → AllFitIn docs (treated field docs indexes a)
  treated_fit docs indexes (act.Insert new c made) = all_fit (inserting field c) (insert_fits c) docs (keyed field made new)
  treated_fit docs indexes (act.Update rows change) = rows_fit (updating field change) (λ key old. updates field key change old) docs (selected field docs indexes rows)
  treated_fit docs indexes (act.Replace rows change) = rows_fit (replacing field change) (λ key old. replaces field key change old) docs (selected field docs indexes rows)
  treated_fit docs indexes (act.Delete rows) = rows_fit without_doc (λ key old. goes field key old) docs (selected field docs indexes rows)

  -- ---- each change comes
  change_comes : (docs : List Document) (key : Plain) (t : Treated) → IsOf field key (find_by order key docs) t → AllCome docs (changes_of t)
  change_comes docs key (inserted k new) h = (record { there = rw h.0 h.1; differs = refl }, tt)
  change_comes docs key (replaced k o new) h = (record { there = rw h.0 h.1; differs = h.2 }, tt)
  change_comes docs key (deleted k o) h = (record { there = rw h.0 h.1; differs = refl }, tt)
  change_comes docs key (unchanged d) h = tt
  change_comes docs key skipped h = tt
  change_comes docs key (failed why d) h = tt

  come_on : (docs : List Document) (cs ds : List Changed) → AllCome docs cs → AllCome (changed_by docs cs) ds → AllCome docs (cs ++ ds)
  come_on docs [] ds h k = k
  come_on docs (c ∷ cs) ds h k = (h.0, come_on (changed docs c) cs ds h.1 k)

  all_come : (docs : List Document) (ts : List Treated) → AllFit docs ts → AllCome docs (joined (map changes_of ts))
  all_come docs [] h = tt
  all_come docs (t ∷ ts) h = come_on docs (changes_of t) (joined (map changes_of ts)) (change_comes docs h.0.0 t h.0.1) (all_come (changed_by docs (changes_of t)) ts h.1)

  come_in : (docs : List Document) (a : Answer (List Treated)) → AllFitIn docs a → AllCome docs (all_changes a)
  come_in docs (Ok ts) h = all_come docs ts h
  come_in docs (Err e) h = tt

  -- ---- what each leaves is good
  abbrev AllLeft : List Changed → Type 0
  AllLeft cs = AllByRecursion (λ (c : Changed). IsLeftGood field c.key c.new) cs

  change_leaves : (old : Option Plain) (key : Plain) (t : Treated) → IsOf field key old t → AllLeft (changes_of t)
  change_leaves old key (inserted k new) h = (subst (λ z. IsGoodDocument field z new) (sym h.0) h.2, tt)
  change_leaves old key (replaced k o new) h = (subst (λ z. IsGoodDocument field z new) (sym h.0) h.3, tt)
  change_leaves old key (deleted k o) h = (tt, tt)
  change_leaves old key (unchanged d) h = tt
  change_leaves old key skipped h = tt
  change_leaves old key (failed why d) h = tt

  leave_on : (cs ds : List Changed) → AllLeft cs → AllLeft ds → AllLeft (cs ++ ds)
  leave_on [] ds h k = k
  leave_on (c ∷ cs) ds h k = (h.0, leave_on cs ds h.1 k)

  all_leave : (docs : List Document) (ts : List Treated) → AllFit docs ts → AllLeft (joined (map changes_of ts))
  all_leave docs [] h = tt
  all_leave docs (t ∷ ts) h = leave_on (changes_of t) (joined (map changes_of ts)) (change_leaves (find_by order h.0.0 docs) h.0.0 t h.0.1) (all_leave (changed_by docs (changes_of t)) ts h.1)

  leave_in : (docs : List Document) (a : Answer (List Treated)) → AllFitIn docs a → AllLeft (all_changes a)
  leave_in docs (Ok ts) h = all_leave docs ts h
  leave_in docs (Err e) h = tt

  -- ---- a good table stays one
  put_found : (b : Bool) (q key new doc : Plain) (docs : List Document) → is_eq (order q key) ≡ b → IsGood field docs → IsGoodDocument field key new
      → (if b then Some new else find_by order q docs) ≡ Some doc → IsGoodDocument field q doc
  put_found true q key new doc docs is g n h = let e : q ≡ key = same_is q key is in let f : new ≡ doc = some_inside new doc h in rw (e, ← f) n
  put_found false q key new doc docs is g n h = g.all q doc h

  put_good : (docs : List Document) (key new : Plain) → IsGood field docs → IsGoodDocument field key new → IsGood field (put_by order key new docs)
  put_good docs key new g n = record {
    rising = rising_put order order_total key new docs g.rising;
    all = λ q doc h. put_found (is_eq (order q key)) q key new doc docs refl g n (sym (find_put order order_total docs key new q) ∙ h);
  }

  gone_found : (b : Bool) (q doc : Plain) (docs : List Document) → IsGood field docs → (if b then None else find_by order q docs) ≡ Some doc → IsGoodDocument field q doc
  gone_found true q doc docs g h = absurd (cc (h))
  gone_found false q doc docs g h = g.all q doc h

  gone_good : (docs : List Document) (key : Plain) → IsGood field docs → IsGood field (without_by order key docs)
  gone_good docs key g = record {
    rising = rising_without order order_total key docs g.rising;
    all = λ q doc h. gone_found (is_eq (order key q)) q doc docs g (sym (find_without order order_total docs key q g.rising) ∙ h);
  }

  change_good : (docs : List Document) (key : Plain) (t : Treated) → IsOf field key (find_by order key docs) t → IsGood field docs → IsGood field (changed_by docs (changes_of t))
  change_good docs key (inserted k new) h g = rw h.0 (put_good docs key new g h.2)
  change_good docs key (replaced k o new) h g = rw h.0 (put_good docs key new g h.3)
  change_good docs key (deleted k o) h g = gone_good docs k g
  change_good docs key (unchanged d) h g = g
  change_good docs key skipped h g = g
  change_good docs key (failed why d) h g = g

  changed_on : (docs : List Document) (cs ds : List Changed) → changed_by docs (cs ++ ds) ≡ changed_by (changed_by docs cs) ds
  changed_on docs [] ds = refl
  changed_on docs (c ∷ cs) ds = changed_on (changed docs c) cs ds

  all_good : (docs : List Document) (ts : List Treated) → AllFit docs ts → IsGood field docs → IsGood field (changed_by docs (joined (map changes_of ts)))
  all_good docs [] h g = g
  all_good docs (t ∷ ts) h g =
      subst (IsGood field) (sym (changed_on docs (changes_of t) (joined (map changes_of ts)))) (all_good (changed_by docs (changes_of t)) ts h.1 (change_good docs h.0.0 t h.0.1 g))

  good_in : (docs : List Document) (a : Answer (List Treated)) → AllFitIn docs a → IsGood field docs → IsGood field (changed_by docs (all_changes a))
  good_in docs (Ok ts) h g = all_good docs ts h g
  good_in docs (Err e) h g = g

pub changes_come : ChangesCome
changes_come docs indexes cmd = come_in cmd.key docs (treated cmd.key docs indexes cmd.act) (treated_fit cmd.key docs indexes cmd.act)

pub changes_leave_good : ChangesLeaveGood
changes_leave_good docs indexes cmd = leave_in cmd.key docs (treated cmd.key docs indexes cmd.act) (treated_fit cmd.key docs indexes cmd.act)

pub good_tables_stay : GoodTablesStay
good_tables_stay docs indexes cmd g = good_in cmd.key docs (treated cmd.key docs indexes cmd.act) (treated_fit cmd.key docs indexes cmd.act) g
