-- Every kind of feed folds over good documents.
use Rattle.std.proofs.Common.{◌≡◌, ◌<◌, ◌≤◌, ℕ, suc, Bool, true, false, List, [], ◌∷◌, ◌++◌, map, Option, Some, None, refl, sym, ap, ◌∙◌}
use Rattle.std.specs.List.{AllByRecursion}
use Rattle.reql_datum.specs.Order.{order}
use Rattle.reql_datum.specs.Plain.{Plain, low, array, boolean, null, number, object, binary, time, text, high}
use Rattle.reql_rules.specs.Lists.{Bytes}
use Rattle.reql_rules.specs.Types.{is_null}
use Rattle.reql_term.specs.Views.{Document}
use Rattle.reql_write_spec.specs.Laws.{IsGoodDocument, IsLeftGood}
use Rattle.reql_write_spec.specs.Treated.{Changed, set_at, changed_by as written_by}
use Rattle.reql_write_spec.specs.Write.{write}
use Rattle.reql_write_spec.specs.declared.command.WriteCmd.{WriteCmd}
use Rattle.reql_write_spec.proofs.Treated.{changes_leave_good}
use Rattle.reql_feed_spec.specs.Feeds as feeds
use Rattle.reql_feed_spec.specs.Folds.{AllFollow}
use Rattle.reql_feed_spec.specs.Moving.{AreNoNulls, IsNoNull, BringNoNulls}
use Rattle.reql_feed_spec.specs.Value.{Change, changed}
use Rattle.reql_feed_spec.proofs.Keeping.{kept_follow}
use Rattle.reql_feed_spec.proofs.Owed.{keep_order, one_change, joined_changes, nothing_joins, stay_above, stay_below}
use Rattle.reql_feed_spec.proofs.Watched.{changed_no_nulls}
use Rattle.reql_table_machine_spec.specs.Feeding.{Folds, fold, changed as changed_from, appended, bare, Comes}
use Rattle.reql_table_spec.specs.Followed.{followed}
use Rattle.reql_table_spec.specs.Indexes.{Indexes}
use Rattle.reql_table_spec.specs.Laws.{AreGood, May, WritesLand, KindsFold}
use Rattle.reql_table_spec.specs.Table.{Held, feed_of, at_key, feeding}

-- ---- changes
same_changed : (key : Plain) (new : Option Plain) (docs : List Document) → changed key new docs ≡ set_at key new docs
same_changed key None docs = refl
same_changed key (Some doc) docs = refl

same_changes : (docs : List Document) (xs : List Changed) → feeds.changed_by docs (map at_key xs) ≡ written_by docs xs
same_changes docs [] = refl
same_changes docs (x ∷ xs) = ap (λ z. feeds.changed_by z (map at_key xs)) (same_changed x.key x.new docs) ∙ same_changes (set_at x.key x.new docs) xs

pub writes_land : WritesLand
writes_land docs indexes w = same_changes docs (write docs indexes w).changes

-- ---- a document that has its key is no null
real_document : (field : Bytes) (key doc : Plain) → IsGoodDocument field key doc → is_null doc ≡ false
real_document field key null g = absurd (cc (g.1))
real_document field key low g = refl
real_document field key (array vs) g = refl
real_document field key (boolean b) g = refl
real_document field key (number n) g = refl
real_document field key (object ms) g = refl
real_document field key (binary s) g = refl
real_document field key (time t) g = refl
real_document field key (text s) g = refl
real_document field key high g = refl

left_real : (field : Bytes) (key : Plain) (new : Option Plain) → IsLeftGood field key new → IsNoNull new
left_real field key None g = tt
left_real field key (Some doc) g = real_document field key doc g

module _ (most : ℕ) where
  pub changes_come : (field : Bytes) (docs : List Document) (xs : List Changed) → AllByRecursion (λ (x : Changed). IsLeftGood field x.key x.new) xs → Comes (feeding most) May docs xs
  changes_come field docs [] all = tt
  changes_come field docs (x ∷ xs) all = (left_real field x.key x.new all.0, changes_come field (changed x.key x.new docs) xs all.1)

  pub writes_come : (docs : List Document) (indexes : Indexes) (w : WriteCmd) → Comes (feeding most) May docs (write docs indexes w).changes
  writes_come docs indexes w = changes_come w.key docs (write docs indexes w).changes (changes_leave_good docs indexes w)

  pub good_after : (docs : List Document) (x : Changed) → AreGood docs → May docs x → AreGood (changed x.key x.new docs)
  good_after docs x g may = record { rising = keep_order docs (at_key x) g.rising; real = changed_no_nulls x.key x.new docs may g.real }

  -- ---- the words of both crates
  fold_is : (h : Held) (vs is : List Plain) → fold (feeding most) h vs is ≡ feeds.fold (feed_of h) vs is
  fold_is h vs [] = refl
  fold_is h vs (i ∷ is) = fold_is h ((feeding most).apply h vs i) is

  appended_is : (h : Held) (docs : List Document) (n : ℕ) (xs : List Changed) → appended (feeding most) h docs n xs ≡ feeds.appended (feed_of h) docs n (map at_key xs)
  appended_is h docs n [] = refl
  appended_is h docs n (x ∷ xs) = ap (λ z. map (λ i. (suc n, i)) (feeds.queued (feed_of h) docs (at_key x)) ++ z) (appended_is h (changed x.key x.new docs) (suc n) xs)

  changed_is : (docs : List Document) (xs : List Changed) → changed_from (feeding most) docs xs ≡ feeds.changed_by docs (map at_key xs)
  changed_is docs [] = refl
  changed_is docs (x ∷ xs) = changed_is (changed x.key x.new docs) xs

  brings : (docs : List Document) (xs : List Changed) → Comes (feeding most) May docs xs → BringNoNulls (map at_key xs)
  brings docs [] c = tt
  brings docs (x ∷ xs) c = (c.0, brings (changed x.key x.new docs) xs c.1)

  -- ---- the laws
  follow : (h : Held) (docs : List Document) (xs : List Changed) → AreGood docs → Comes (feeding most) May docs xs → AllFollow (feed_of h).watch docs (map at_key xs)
  follow h docs xs g c = kept_follow (followed h.spec h.indexes) docs (map at_key xs) g.rising g.real (brings docs xs c)

  one : (h : Held) (docs : List Document) (x : Changed) → feeds.squashes (feed_of h) ≡ false → AreGood docs → May docs x
      → fold (feeding most) h (feeds.value (feed_of h) docs) (feeds.queued (feed_of h) docs (at_key x)) ≡ feeds.value (feed_of h) (changed x.key x.new docs)
  one h docs x off g may =
      fold_is h (feeds.value (feed_of h) docs) (feeds.queued (feed_of h) docs (at_key x)) ∙ one_change (feed_of h) docs (at_key x) off (follow h docs (x ∷ []) g (may, tt)).0

  joined : (h : Held) (docs : List Document) (n : ℕ) (xs : List Changed) → feeds.squashes (feed_of h) ≡ true → AreGood docs → Comes (feeding most) May docs xs
      → fold (feeding most) h (feeds.value (feed_of h) docs) (bare (feeding most) ((feeding most).net h (appended (feeding most) h docs n xs))) ≡ feeds.value (feed_of h) (changed_from (feeding most) docs xs)
  joined h docs n xs on g c =
      fold_is h (feeds.value (feed_of h) docs) (bare (feeding most) ((feeding most).net h (appended (feeding most) h docs n xs)))
      ∙ ap (λ z. feeds.fold (feed_of h) (feeds.value (feed_of h) docs) (feeds.bare (feeds.net (feeds.kind_of (feed_of h).watch) h.spec.types z))) (appended_is h docs n xs)
      ∙ joined_changes (feed_of h) docs n (map at_key xs) on g.rising (follow h docs xs g c)
      ∙ ap (λ z. feeds.value (feed_of h) z) (sym (changed_is docs xs))

pub kinds_fold : KindsFold
kinds_fold most = record {
  writes = λ docs indexes w g. writes_come most docs indexes w;
  after = λ docs x g may. good_after most docs x g may;
  one = λ h docs x off g may. one most h docs x off g may;
  joined = λ h docs n xs on g c. joined most h docs n xs on g c;
  none = λ h. nothing_joins (feeds.kind_of (feed_of h).watch) h.spec.types;
  above = λ h n items all. stay_above (feeds.kind_of (feed_of h).watch) h.spec.types n items all;
  below = λ h n items all. stay_below (feeds.kind_of (feed_of h).watch) h.spec.types n items all;
}
