-- What a feed is told of a change, from the changed document alone.
use Rattle.std.proofs.Common.{◌≡◌, List, [], ◌∷◌, map, Option, Some, None, Bool, true, false, if◌then◌else◌, refl, sym, ap, ◌∙◌}
use Rattle.reql_datum.specs.Order.{order}
use Rattle.reql_datum.specs.Plain.{Plain, null}
use Rattle.reql_memory.specs.Sorted.{AreRisingBy, find_by}
use Rattle.reql_rules.specs.Types.{same}
use Rattle.reql_bag.specs.Bag.{less_all}
use Rattle.reql_bag.proofs.Bags.{same_itself, same_is}
use Rattle.reql_term.specs.Views.{Document}
use Rattle.reql_value_spec.specs.Index.{plain_view}
use Rattle.reql_value_spec.specs.Shapes.{IsByDocument}
use Rattle.reql_value_spec.specs.World.{bare_world}
use Rattle.reql_table.specs.Seen.{indexes_of}
use Rattle.reql_feed_spec.specs.Feeds.{Feed, Watch, one_key, all_given, nothing, queued, queued_as, differences, squashes}
use Rattle.reql_feed_spec.specs.Items.{Difference, paired, point_items, range_items}
use Rattle.reql_feed_spec.specs.Shown.{Shows, shown, or_null}
use Rattle.reql_feed_spec.specs.Value.{Change, Shape, changed, point_value, contribution_at}
use Rattle.reql_feed_spec.specs.declared.kind.FeedKind.{FeedKind}
use Rattle.reql_feed_spec.proofs.Contributions.{change_of_part}
use Rattle.reql_feed_spec.proofs.Keeping.{shape_is}
use Rattle.reql_feed_spec.proofs.Points.{point_after}
use Rattle.reql_feed_spec.proofs.Watched.{follow_shapes}
use Rattle.reql_feed_read.specs.Follows.{shape_of}
use Rattle.reql_feed_range.specs.Printed.{behind}
use Rattle.reql_feed_read.specs.declared.shape.RangeShape.{RangeShape}

-- what is queued by what is watched
abbrev queued_by : Watch → Bool → Shows → List Document → Change → List Plain
queued_by w squashed s docs c = map (queued_as w squashed s c.0) (differences w docs (changed c.0 c.1 docs))

-- ---- a point feed
nothing_new : (v : Plain) → point_items v v ≡ []
nothing_new v = rw (same_itself v) refl

point_at : (b : Bool) (s : Shows) (key k : Plain) (before old : Option Plain) (after now : Plain) → same key k ≡ b → (key ≡ k → before ≡ old) → after ≡ (if b then now else or_null before)
    → (if b then map (shown s) (point_items (or_null old) now) else []) ≡ map (shown s) (point_items (or_null before) after)
point_at true s key k before old after now is at e = rw (at (same_is key k is), e) refl
point_at false s key k before old after now is at e = rw e (ap (map (shown s)) (sym (nothing_new (or_null before))))

pub point_queued : (f : Feed) (key k : Plain) (old new : Option Plain) (r : List Plain) → f.watch ≡ one_key key → r ≡ (if same key k then map (shown f.shows) (point_items (or_null old) (or_null new)) else [])
    → (docs : List Document) → AreRisingBy order docs → find_by order k docs ≡ old → r ≡ queued f docs (k, new)
point_queued f key k old new r w told docs up is =
    told ∙ point_at (same key k) f.shows key k (find_by order key docs) old (point_value key (changed k new docs)) (or_null new) refl (λ e. ap (λ q. find_by order q docs) e ∙ is) (point_after key k new docs up)
    ∙ ap (λ x. queued_by x (squashes f) f.shows docs (k, new)) (sym w)

-- ---- a range feed
pub by_document : (s : RangeShape) → IsByDocument (shape_of s)
by_document s = (follow_shapes bare_world s.slot (plain_view [] 0 [] s.key [] (indexes_of s.empty)) s.term (shape_is s.slot s.term s.is_one) [] ((null, None) ∷ [])).0

range_at : (b : Bool) (shape : Shape) (s : Shows) (k : Plain) (ds : List Difference) → map (behind s (if b then Some k else None)) ds ≡ map (queued_as (all_given shape) b s k) ds
range_at true shape s k ds = refl
range_at false shape s k ds = refl

pub range_queued : (f : Feed) (shape : RangeShape) (k : Plain) (old new : Option Plain) (r : List Plain) → f.watch ≡ all_given (shape_of shape)
    → r ≡ map (behind f.shows (if squashes f then Some k else None)) (range_items (contribution_at (shape_of shape) k old) (contribution_at (shape_of shape) k new))
    → (docs : List Document) → AreRisingBy order docs → find_by order k docs ≡ old → r ≡ queued f docs (k, new)
range_queued f shape k old new r w told docs up is =
    told ∙ range_at (squashes f) (shape_of shape) f.shows k (range_items (contribution_at (shape_of shape) k old) (contribution_at (shape_of shape) k new))
    ∙ ap (map (queued_as (all_given (shape_of shape)) (squashes f) f.shows k)) (sym (change_of_part (shape_of shape) (by_document shape) k old new docs up is))
    ∙ ap (λ x. queued_by x (squashes f) f.shows docs (k, new)) (sym w)

pub told_pairs : (s : Shows) (shape : Shape) (k : Plain) (key asked o old n new : Option Plain) (olds news left came r : List Plain) → o ≡ old → n ≡ new → key ≡ asked → olds ≡ contribution_at shape k o → news ≡ contribution_at shape k n
    → left ≡ less_all olds news → came ≡ less_all news olds → r ≡ map (behind s key) (paired left came)
    → r ≡ map (behind s asked) (range_items (contribution_at shape k old) (contribution_at shape k new))
told_pairs s shape k key asked o old n new olds news left came r eo en ek adds brings goes comes told =
    told ∙ (λ i. map (behind s (ek i)) (paired (goes i) (comes i)))
    ∙ (λ i. map (behind s asked) (range_items (adds i) (brings i)))
    ∙ (λ i. map (behind s asked) (range_items (contribution_at shape k (eo i)) (contribution_at shape k (en i))))

-- ---- a feed of nothing
pub nothing_queued : (f : Feed) (kind : FeedKind) (docs : List Document) (c : Change) → f.watch ≡ nothing kind → [] ≡ queued f docs c
nothing_queued f kind docs c w = ap (λ x. queued_by x (squashes f) f.shows docs c) (sym w)
