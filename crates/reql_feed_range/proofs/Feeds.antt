-- What is told and opened by what was read is what the feed shows by the definition.
use Rattle.std.proofs.Common.{◌≡◌, List, [], map, Result, Option, Some, None, ◌&&◌, not, if◌then◌else◌, IfOk, false, sym, ap, ◌∙◌, subst}
use Rattle.std.proofs.lemmas.Result.{IfOk-weaker}
use Rattle.reql_datum.specs.Order.{order}
use Rattle.reql_datum.specs.Plain.{Plain}
use Rattle.reql_datum.specs.View.{plain}
use Rattle.reql_datum.specs.declared.datum.Datum.{Datum}
use Rattle.reql_memory.specs.Sorted.{AreRisingBy, find_by}
use Rattle.reql_rules.specs.Types.{same}
use Rattle.reql_term.specs.Views.{Document}
use Rattle.reql_term.specs.declared.view.IndexDef.{IndexDef}
use Rattle.reql_feed_spec.specs.Feeds.{Watch, one_key, all_given, nothing, kind_of, opening_items, queued}
use Rattle.reql_feed_spec.specs.Items.{point_items, range_items}
use Rattle.reql_feed_spec.specs.Shown.{shown, or_null}
use Rattle.reql_feed_spec.specs.Value.{contribution_at}
use Rattle.reql_feed_spec.specs.declared.kind.FeedKind.TheVariants as kinds
use Rattle.reql_table_spec.specs.Table.{Held, feed_of, is_limit}
use Rattle.reql_table_spec.specs.declared.command.FeedSpec.{FeedSpec}
use Rattle.reql_feed_range.specs.Feed.{Keeps, watched_key}
use Rattle.reql_feed_read.specs.Follows.{held_of, shape_of, watched, IsOrder, Reads}
use Rattle.reql_feed_range.specs.Printed.{shows, behind}
use Rattle.reql_feed_read.specs.declared.follows.Follows.{Follows}
use Rattle.reql_feed_read.specs.declared.follows.Follows.TheVariants as follows
use Rattle.reql_feed_range.specs.declared.printed.Printer.{Printer}
use Rattle.reql_feed_read.specs.declared.order.Order.{Order}
use Rattle.reql_feed_read.specs.declared.shape.RangeShape.{RangeShape}
use Rattle.reql_feed_range.proofs.Changes.{point_queued, range_queued, nothing_queued}

-- what is kept is no order
pub no_order : (spec : FeedSpec) (index : Option IndexDef) (f : Follows) (p : Printer) → Keeps spec index f p → (o : Order) → f ≡ follows.First o → ⊥
no_order spec index f p keeps o e =
    let r : IsOrder o index spec.kind (watched (held_of spec index)) = subst (λ x. Reads x spec index) e keeps.reads in
    let limit : is_limit (kinds.Limit o.most) ≡ false = ap is_limit (sym r.kind) ∙ keeps.kind in
    cc (limit)

-- what is read is of the kind that was asked for
kind_read : (f : Follows) (spec : FeedSpec) (index : Option IndexDef) → Reads f spec index → spec.kind ≡ kind_of (watched (held_of spec index))
kind_read (follows.Key key) spec index r = r.1 ∙ sym (ap kind_of r.0)
kind_read (follows.Shape s) spec index r = r.1 ∙ sym (ap kind_of r.0)
kind_read (follows.First o) spec index r = r.kind ∙ sym (ap kind_of r.shows)
kind_read follows.Nothing spec index r = sym (ap kind_of r)

pub kind_kept : (spec : FeedSpec) (index : Option IndexDef) (f : Follows) (p : Printer) → Keeps spec index f p → (h : Held) → held_of spec index ≡ h → spec.kind ≡ kind_of (feed_of h).watch
kind_kept spec index f p keeps h is = kind_read f spec index keeps.reads ∙ ap (λ (x : Held). kind_of (feed_of x).watch) is

module _ (spec : FeedSpec) (index : Option IndexDef) (f : Follows) (p : Printer) (keeps : Keeps spec index f p) (h : Held) (is : held_of spec index ≡ h) where
  shows_are : shows p.offsets p.types ≡ (feed_of h).shows
  shows_are = (λ i. shows (keeps.offsets i) (keeps.types i)) ∙ ap (λ x. (feed_of x).shows) is

  key_watched : (key : Datum) → f ≡ follows.Key key → (feed_of h).watch ≡ one_key (plain key)
  key_watched key e = subst (λ x. (feed_of x).watch ≡ one_key (plain key)) is (subst (λ x. Reads x spec index) e keeps.reads).0

  shape_watched : (s : RangeShape) → f ≡ follows.Shape s → (feed_of h).watch ≡ all_given (shape_of s)
  shape_watched s e = subst (λ x. (feed_of x).watch ≡ all_given (shape_of s)) is (subst (λ x. Reads x spec index) e keeps.reads).0

  nothing_watched : f ≡ follows.Nothing → (feed_of h).watch ≡ nothing h.spec.kind
  nothing_watched e = subst (λ (x : Held). (feed_of x).watch ≡ nothing x.spec.kind) is (subst (λ x. Reads x spec index) e keeps.reads)

  -- the key of the only document
  pub key_only : (key : Datum) → f ≡ follows.Key key → Some (plain key) ≡ watched_key (feed_of h).watch
  key_only key e = sym (ap watched_key (key_watched key e))

  pub no_key_of_shape : (s : RangeShape) → f ≡ follows.Shape s → None ≡ watched_key (feed_of h).watch
  no_key_of_shape s e = sym (ap watched_key (shape_watched s e))

  pub no_key_of_nothing : f ≡ follows.Nothing → None ≡ watched_key (feed_of h).watch
  no_key_of_nothing e = sym (ap watched_key (nothing_watched e))

  module _ {E : Type 0} (result : Result (List Plain) E) (k : Plain) (old new : Option Plain) where
    abbrev IsQueued : List Plain → Type 0
    IsQueued r = (docs : List Document) → AreRisingBy order docs → find_by order k docs ≡ old → r ≡ queued (feed_of h) docs (k, new)

    pub key_told : (key : Datum) → f ≡ follows.Key key → IfOk result (λ r. r ≡ (if same (plain key) k then map (shown (shows p.offsets p.types)) (point_items (or_null old) (or_null new)) else []))
        → IfOk result (λ r. (docs : List Document) → AreRisingBy order docs → find_by order k docs ≡ old → r ≡ queued (feed_of h) docs (k, new))
    key_told key e told =
        IfOk-weaker result _ _ (λ r t docs up found. point_queued (feed_of h) (plain key) k old new r (key_watched key e) (t ∙ ap (λ s. if same (plain key) k then map (shown s) (point_items (or_null old) (or_null new)) else []) shows_are) docs up found) told

    pub shape_told : (s : RangeShape) → f ≡ follows.Shape s
        → IfOk result (λ r. r ≡ map (behind (shows p.offsets p.types) (if spec.squash && not p.offsets then Some k else None)) (range_items (contribution_at (shape_of s) k old) (contribution_at (shape_of s) k new)))
        → IfOk result (λ r. (docs : List Document) → AreRisingBy order docs → find_by order k docs ≡ old → r ≡ queued (feed_of h) docs (k, new))
    shape_told s e told =
        let squashing : (if spec.squash && not p.offsets then Some k else None) ≡ (if h.spec.squash && not h.spec.offsets then Some k else None) =
        ap (λ o. if spec.squash && not o then Some k else None) keeps.offsets ∙ ap (λ (x : Held). if x.spec.squash && not x.spec.offsets then Some k else None) is in
        IfOk-weaker result _ _
        (λ r t docs up found. range_queued (feed_of h) s k old new r (shape_watched s e)
        (t ∙ (λ i. map (behind (shows_are i) (squashing i)) (range_items (contribution_at (shape_of s) k old) (contribution_at (shape_of s) k new)))) docs up found) told

  pub nothing_told : f ≡ follows.Nothing → (r : List Plain) (k : Plain) (new : Option Plain) (docs : List Document) → r ≡ [] → r ≡ queued (feed_of h) docs (k, new)
  nothing_told e r k new docs t = t ∙ nothing_queued (feed_of h) h.spec.kind docs (k, new) (nothing_watched e)

  -- ---- openings
  opened_as : {E : Type 0} (result : Result (List Plain) E) (w : Watch) (docs : List Document) → (feed_of h).watch ≡ w → IfOk result (λ r. r ≡ opening_items w (shows p.offsets p.types) docs)
      → IfOk result (λ r. r ≡ opening_items (feed_of h).watch (feed_of h).shows docs)
  opened_as result w docs e opened = IfOk-weaker result _ _ (λ r t. t ∙ (λ i. opening_items (sym e i) (shows_are i) docs)) opened

  pub key_opened : {E : Type 0} (result : Result (List Plain) E) (docs : List Document) (key : Datum) → f ≡ follows.Key key → IfOk result (λ r. r ≡ opening_items (one_key (plain key)) (shows p.offsets p.types) docs)
      → IfOk result (λ r. r ≡ opening_items (feed_of h).watch (feed_of h).shows docs)
  key_opened result docs key e = opened_as result (one_key (plain key)) docs (key_watched key e)

  pub shape_opened : {E : Type 0} (result : Result (List Plain) E) (docs : List Document) (s : RangeShape) → f ≡ follows.Shape s → IfOk result (λ r. r ≡ opening_items (all_given (shape_of s)) (shows p.offsets p.types) docs)
      → IfOk result (λ r. r ≡ opening_items (feed_of h).watch (feed_of h).shows docs)
  shape_opened result docs s e = opened_as result (all_given (shape_of s)) docs (shape_watched s e)

  pub nothing_opened : {E : Type 0} (result : Result (List Plain) E) (docs : List Document) → f ≡ follows.Nothing → IfOk result (λ r. (ds : List Document) → r ≡ opening_items (nothing spec.kind) (shows p.offsets p.types) ds)
      → IfOk result (λ r. r ≡ opening_items (feed_of h).watch (feed_of h).shows docs)
  nothing_opened result docs e opened =
      let kinds_same : nothing h.spec.kind ≡ nothing spec.kind = ap (λ (x : Held). nothing x.spec.kind) (sym is) in
      opened_as result (nothing spec.kind) docs (nothing_watched e ∙ kinds_same) (IfOk-weaker result _ _ (λ r t. t docs) opened)
