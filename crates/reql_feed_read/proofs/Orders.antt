-- The order that is read, by its index.
use Rattle.std.proofs.Common.{◌≡◌, ℕ, [], ◌∷◌, Bool, true, false, if◌then◌else◌, Option, Some, None, Ordering, Less, Equal, Greater, refl, sym, ap, ◌∙◌, subst}
use Rattle.reql_datum.specs.Members.{find, text_order}
use Rattle.reql_rules.specs.Lists.{Bytes}
use Rattle.reql_rules.specs.Types.{same_text}
use Rattle.reql_term.specs.Views.{Index, index_of}
use Rattle.reql_term.specs.declared.view.IndexDef.{IndexDef}
use Rattle.reql_feed_spec.specs.Feeds.{Watch, first_of, nothing}
use Rattle.reql_feed_spec.specs.declared.kind.FeedKind.TheVariants as kinds
use Rattle.reql_table_spec.specs.Followed.{Ordered}
use Rattle.reql_feed_read.specs.Asked.{kept_index, kept_ordered, watch_if}
use Rattle.reql_feed_read.specs.Follows.{IsKept, IsOrder, OrderReads, indexes_in}
use Rattle.reql_feed_read.specs.Order as the
use Rattle.reql_feed_read.specs.Seen.{order_of}
use Rattle.reql_feed_read.specs.declared.follows.Follows.{Follows}
use Rattle.reql_feed_read.specs.declared.order.Order.{Order}

find_at : (n m : Bytes) (i : Index) (o : Ordering) → text_order n m ≡ o → same_text n m ≡ true → find n ((m, i) ∷ []) ≡ Some i
find_at n m i Less is same = absurd (let e : false ≡ true = rw is at same in cc (e))
find_at n m i Equal is same = rw is refl
find_at n m i Greater is same = absurd (let e : false ≡ true = rw is at same in cc (e))

miss_at : (n m : Bytes) (i : Index) (o : Ordering) → text_order n m ≡ o → same_text n m ≡ false → find n ((m, i) ∷ []) ≡ None
miss_at n m i Less is same = rw is refl
miss_at n m i Equal is same = absurd (let e : true ≡ false = rw is at same in cc (e))
miss_at n m i Greater is same = rw is refl

module _ (o : Ordered) (most : ℕ) (d : IndexDef) where
  found : same_text o.name d.name ≡ true → find o.name (indexes_in (Some d)) ≡ Some (index_of d)
  found same = find_at o.name d.name (index_of d) (text_order o.name d.name) refl same

  pub not_found : same_text o.name d.name ≡ false → watch_if (kinds.Limit most) (kept_index o most (find o.name (indexes_in (Some d)))) ≡ nothing (kinds.Limit most)
  not_found same = ap (λ i. watch_if (kinds.Limit most) (kept_index o most i)) (miss_at o.name d.name (index_of d) (text_order o.name d.name) refl same)

  pub is_multi : same_text o.name d.name ≡ true → d.multi ≡ true → watch_if (kinds.Limit most) (kept_index o most (find o.name (indexes_in (Some d)))) ≡ nothing (kinds.Limit most)
  is_multi same multi = ap (λ i. watch_if (kinds.Limit most) (kept_index o most i)) (found same) ∙ rw multi refl

  abbrev ordered_by : Index → the.Order
  ordered_by i = record { index = Some i; part = o.part; down = o.down; most = most }

  abbrev shown_by : the.Order → Watch
  shown_by r = first_of r.most (the.selection_of r)

  single_shown : (i : Index) (b : Bool) → i.1 ≡ b → b ≡ false → (if i.1 then nothing (kinds.Limit most) else shown_by (ordered_by i)) ≡ shown_by (ordered_by i)
  single_shown i b e f = rw (e ∙ f) refl

  pub by_its_index : (x : Order) → order_of x ≡ ordered_by (index_of d) → x.index ≡ Some d → same_text o.name d.name ≡ true → d.multi ≡ false
      → IsOrder x (Some d) (kinds.Limit most) (watch_if (kinds.Limit most) (kept_index o most (find o.name (indexes_in (Some d)))))
  by_its_index x is index same multi = record {
    shows = ap (λ i. watch_if (kinds.Limit most) (kept_index o most i)) (found same) ∙ single_shown (index_of d) d.multi refl multi ∙ ap shown_by (sym is);
    kind = ap (λ (r : the.Order). kinds.Limit r.most) (sym is);
    single = subst (λ (r : the.Order). the.IsSingle r.index) (sym is) multi;
    kept = subst (λ (i : Option IndexDef). IsKept i (Some d)) (sym index) refl;
  }

module _ (key : Bytes) (o : Ordered) (most : ℕ) where
  abbrev primary_by : the.Order
  primary_by = record { index = None; part = o.part; down = o.down; most = most }

  abbrev shows_primary : the.Order → Watch
  shows_primary r = first_of r.most (the.selection_of r)

  pub by_primary_keys : (index : Option IndexDef) (x : Order) → order_of x ≡ primary_by → x.index ≡ None → same_text o.name key ≡ true
      → IsOrder x index (kinds.Limit most) (watch_if (kinds.Limit most) (kept_ordered key (indexes_in index) most o))
  by_primary_keys index x is none same = record {
    shows = (rw same refl) ∙ ap shows_primary (sym is);
    kind = ap (λ (r : the.Order). kinds.Limit r.most) (sym is);
    single = subst (λ (r : the.Order). the.IsSingle r.index) (sym is) tt;
    kept = subst (λ (i : Option IndexDef). IsKept i index) (sym none) tt;
  }

  pub by_no_index : same_text o.name key ≡ false → watch_if (kinds.Limit most) (kept_ordered key [] most o) ≡ nothing (kinds.Limit most)
  by_no_index same = rw same refl

  pub by_index : (d : IndexDef) (f : Follows) → same_text o.name key ≡ false → OrderReads f (Some d) (kinds.Limit most) (watch_if (kinds.Limit most) (kept_index o most (find o.name (indexes_in (Some d)))))
      → OrderReads f (Some d) (kinds.Limit most) (watch_if (kinds.Limit most) (kept_ordered key (indexes_in (Some d)) most o))
  by_index d f same r = rw same r
