-- The changes of a write lead where the table machine goes.
use Rattle.std.proofs.Common.{◌≡◌, ℕ, List, [], ◌∷◌, map, Bool, true, false, ◌&&◌, if◌then◌else◌, Option, Some, None, is_some, option_map, option_and_then, refl, sym, ap, ◌∙◌, subst}
use Rattle.std.specs.List.{AllByRecursion}
use Rattle.reql_memory.specs.Sorted.{find_by}
use Rattle.reql_datum.specs.Keys.{is_key}
use Rattle.reql_datum.specs.Order.{order}
use Rattle.reql_datum.specs.Plain.{Plain, low, array, boolean, null, number, object, binary, time, text, high}
use Rattle.reql_term.specs.Views.{Document}
use Rattle.reql_rules.specs.Lists.{Bytes}
use Rattle.reql_feed_spec.specs.Value.{changed}
use Rattle.reql_write_spec.specs.Laws.{is_same, Comes, AllCome, IsLeftGood}
use Rattle.reql_write_spec.specs.Treated.{Changed, set_at}
use Rattle.reql_write_spec.specs.Treating.{field_in}
use Rattle.reql_table_machine_spec.specs.Feeds.{after_change, after_changes}
use Rattle.reql_table_spec.specs.Table.{DocumentTable, feeding, at_key}
use Rattle.reql_table_records.specs.Laws.{IsChangeHeld}
use Rattle.reql_table_records.specs.Standing.{is_object, leaves, with_change, with_changes}

same_set : (key : Plain) (new : Option Plain) (docs : List Document) → set_at key new docs ≡ changed key new docs
same_set key None docs = refl
same_set key (Some d) docs = refl

-- what has a field is an object
object_by : (field : Bytes) (key doc : Plain) → field_in field doc ≡ Some key → is_object doc ≡ true
object_by field key low h = absurd (let g : None ≡ Some key = h in cc)
object_by field key (array vs) h = absurd (let g : None ≡ Some key = h in cc)
object_by field key (boolean b) h = absurd (let g : None ≡ Some key = h in cc)
object_by field key null h = absurd (let g : None ≡ Some key = h in cc)
object_by field key (number z) h = absurd (let g : None ≡ Some key = h in cc)
object_by field key (object ms) h = refl
object_by field key (binary s) h = absurd (let g : None ≡ Some key = h in cc)
object_by field key (time t) h = absurd (let g : None ≡ Some key = h in cc)
object_by field key (text s) h = absurd (let g : None ≡ Some key = h in cc)
object_by field key high h = absurd (let g : None ≡ Some key = h in cc)

leaves_by : (field : Bytes) (docs : List Document) (key : Plain) (old new : Option Plain) → find_by order key docs ≡ old → is_same old new ≡ false → IsLeftGood field key new → leaves docs key new ≡ true
leaves_by field docs key None None there differs good = absurd (let g : true ≡ false = differs in cc)
leaves_by field docs key (Some d) None there differs good = ap is_some there
leaves_by field docs key old (Some d) there differs good = object_by field key d good.1

done : (docs after : List Document) (a b : Bool) → a ≡ true → b ≡ true → (if a && b then Some after else None) ≡ Some after
done docs after a b h i = rw (h, i) refl

module _ (n : ℕ) (field : Bytes) where
  pub changes_lead : (t : DocumentTable) (xs : List Changed) → AllCome t.docs xs → AllByRecursion (λ (c : Changed). IsLeftGood field c.key c.new) xs → AllByRecursion IsChangeHeld (map at_key xs)
      → with_changes t.docs (map at_key xs) ≡ Some ((after_changes (feeding n) t xs).docs)
  changes_lead t [] come good held = refl
  changes_lead t (x ∷ xs) come good held =
      let same = same_set x.key x.new t.docs in
      let fit = leaves_by field t.docs x.key x.old x.new come.0.there come.0.differs good.0 in
      let first : with_change t.docs (at_key x) ≡ Some (changed x.key x.new t.docs) = done t.docs (set_at x.key x.new t.docs) (is_key x.key) (leaves t.docs x.key x.new) held.0.0 fit ∙ ap Some same in
      ap (option_and_then (λ docs. with_changes docs (map at_key xs))) first
      ∙ changes_lead (after_change (feeding n) t x) xs (subst (λ docs. AllCome docs xs) same come.1) good.1 held.1

  pub indexes_stay : (t : DocumentTable) (xs : List Changed) → (after_changes (feeding n) t xs).indexes ≡ t.indexes
  indexes_stay t [] = refl
  indexes_stay t (x ∷ xs) = indexes_stay (after_change (feeding n) t x) xs

  pub shut_stays : (t : DocumentTable) (xs : List Changed) → (after_changes (feeding n) t xs).shut ≡ t.shut
  shut_stays t [] = refl
  shut_stays t (x ∷ xs) = shut_stays (after_change (feeding n) t x) xs
