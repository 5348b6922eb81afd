-- Each kind of feed owes what it promises: its items fold to its value, one change after another or joined.
use Rattle.std.proofs.Common.{◌≡◌, ◌<◌, ◌≤◌, ℕ, suc, List, [], ◌∷◌, ◌++◌, map, Bool, true, false, not, ◌&&◌, refl, sym, ap, subst, ◌∙◌}
use Rattle.std.specs.List.{AllByRecursion}
use Rattle.reql_datum.specs.Order.{order}
use Rattle.reql_datum.specs.Plain.{Plain}
use Rattle.reql_memory.specs.Sorted.{AreRisingBy}
use Rattle.reql_term.specs.Views.{Document, documents_in}
use Rattle.reql_bag.specs.Bag.{in_order}
use Rattle.reql_feed_spec.specs.Items.{Difference, point_items, range_items, limit_items}
use Rattle.reql_feed_spec.specs.Moves.{IsOneMove}
use Rattle.reql_feed_spec.specs.Shown.{Shows, shown, read, or_null}
use Rattle.reql_feed_spec.specs.Fold.{point_fold, bag_fold, list_fold, without_nulls}
use Rattle.reql_feed_spec.specs.Value.{Change, Shape, Selection, changed, point_value, range_value, limit_value}
use Rattle.reql_feed_spec.specs.History.{after_all, along, hear, point_step, keyed_step, limit_step, AllOneMove}
use Rattle.reql_feed_spec.specs.Net.{point_net, bag_net, range_net, keyed}
use Rattle.reql_feed_spec.specs.Feeds.{Watch, one_key, all_given, first_of, nothing, empty_of, Feed, squashes, queued_as, differences, queued, changed_by, appended, bare, net, net_differences, last_stamp, kind_of, value_at, value, folded_at, fold}
use Rattle.reql_feed_spec.specs.Folds.{MayFollow, AllFollow, ChangesKeepOrder, OneChangeFolds, JoinedChangesFold, NothingJoinsToNothing, JoinedStampsStayAbove, JoinedStampsStayBelow}
use Rattle.reql_feed_spec.specs.declared.kind.FeedKind.{FeedKind}
use Rattle.reql_feed_spec.specs.declared.kind.FeedKind.TheVariants as kinds
use Rattle.reql_feed_spec.proofs.Folds.{point_folds, range_folds}
use Rattle.reql_feed_spec.proofs.LimitFolds.{limit_folds, limit_bag_folds}
use Rattle.reql_feed_spec.proofs.Contributions.{rising_value}
use Rattle.reql_feed_spec.proofs.Histories.{rising_changed, point_net_history, told_net_history}
use Rattle.reql_feed_spec.proofs.LimitHistories.{bag_net_history}

pub keep_order : ChangesKeepOrder
keep_order docs c up = rising_changed c.0 c.1 docs up

-- ---- a client's fold of printed items, by kind
abbrev fold_at : Watch → Bool → List Plain → List Plain → List Plain
fold_at w offsets vs [] = vs
fold_at w offsets vs (i ∷ is) = fold_at w offsets (folded_at w offsets vs (read i)) is

fold_is : (f : Feed) (vs is : List Plain) → fold f vs is ≡ fold_at f.watch f.shows.offsets vs is
fold_is f vs [] = refl
fold_is f vs (i ∷ is) = fold_is f (folded_at f.watch f.shows.offsets vs (read i)) is

point_fold_at : (key : Plain) (offsets : Bool) (s : Shows) (v : Plain) (ds : List Difference) → fold_at (one_key key) offsets (v ∷ []) (map (shown s) ds) ≡ point_fold v (map (hear s) ds) ∷ []
point_fold_at key offsets s v [] = refl
point_fold_at key offsets s v (d ∷ ds) = point_fold_at key offsets s (or_null (hear s d).new) ds

range_fold_at : (shape : Shape) (offsets : Bool) (s : Shows) (vs : List Plain) (ds : List Difference) → fold_at (all_given shape) offsets vs (map (shown s) ds) ≡ bag_fold vs (map (hear s) ds)
range_fold_at shape offsets s vs [] = refl
range_fold_at shape offsets s vs (d ∷ ds) = range_fold_at shape offsets s (bag_fold vs (hear s d ∷ [])) ds

bag_fold_at : (n : ℕ) (sel : Selection) (s : Shows) (vs : List Plain) (ds : List Difference) → fold_at (first_of n sel) false vs (map (shown s) ds) ≡ bag_fold vs (map (hear s) ds)
bag_fold_at n sel s vs [] = refl
bag_fold_at n sel s vs (d ∷ ds) = bag_fold_at n sel s (bag_fold vs (hear s d ∷ [])) ds

list_fold_at : (n : ℕ) (sel : Selection) (s : Shows) (vs : List Plain) (ds : List Difference) → fold_at (first_of n sel) true vs (map (shown s) ds) ≡ list_fold vs (map (hear s) ds)
list_fold_at n sel s vs [] = refl
list_fold_at n sel s vs (d ∷ ds) = list_fold_at n sel s (list_fold vs (hear s d ∷ [])) ds

-- ---- one change
limit_one : (offsets : Bool) (n : ℕ) (sel : Selection) (s : Shows) (docs next : List Document) → s.offsets ≡ offsets → IsOneMove (limit_value n sel docs) (limit_value n sel next)
    → fold_at (first_of n sel) offsets (value_at (first_of n sel) offsets docs) (map (shown s) (differences (first_of n sel) docs next)) ≡ value_at (first_of n sel) offsets next
limit_one true n sel s docs next on m =
    list_fold_at n sel s (documents_in (limit_value n sel docs)) (limit_items (limit_value n sel docs) (limit_value n sel next)) ∙ limit_folds s (limit_value n sel docs) (limit_value n sel next) on m
limit_one false n sel s docs next on m =
    bag_fold_at n sel s (in_order (documents_in (limit_value n sel docs))) (limit_items (limit_value n sel docs) (limit_value n sel next)) ∙ limit_bag_folds s (limit_value n sel docs) (limit_value n sel next) m

one_at : (w : Watch) (s : Shows) (docs : List Document) (c : Change) → MayFollow w docs c
    → fold_at w s.offsets (value_at w s.offsets docs) (map (queued_as w false s c.0) (differences w docs (changed c.0 c.1 docs))) ≡ value_at w s.offsets (changed c.0 c.1 docs)
one_at (one_key key) s docs c may =
    let next : List Document = changed c.0 c.1 docs in
    point_fold_at key s.offsets s (point_value key docs) (point_items (point_value key docs) (point_value key next)) ∙ ap (λ v. v ∷ []) (point_folds s (point_value key docs) (point_value key next))
one_at (all_given shape) s docs c may =
    let next : List Document = changed c.0 c.1 docs in
    range_fold_at shape s.offsets s (without_nulls (range_value shape docs)) (range_items (range_value shape docs) (range_value shape next))
    ∙ range_folds s (range_value shape docs) (range_value shape next) (rising_value shape docs) (rising_value shape next)
one_at (first_of n sel) s docs c may = limit_one s.offsets n sel s docs (changed c.0 c.1 docs) refl may
one_at (nothing kind) s docs c may = refl

pub one_change : OneChangeFolds
one_change f docs c off may =
    fold_is f (value f docs) (queued f docs c)
    ∙ ap (λ b. fold_at f.watch f.shows.offsets (value f docs) (map (queued_as f.watch b f.shows c.0) (differences f.watch docs (changed c.0 c.1 docs)))) off
    ∙ one_at f.watch f.shows docs c may

-- ---- joined changes
changed_is : (docs : List Document) (cs : List Change) → changed_by docs cs ≡ after_all docs cs
changed_is docs [] = refl
changed_is docs (c ∷ cs) = changed_is (changed c.0 c.1 docs) cs

-- what was queued, without stamps
abbrev queue : Watch → Shows → List Document → List Change → List Plain
queue w s docs [] = []
queue w s docs (c ∷ cs) = map (queued_as w true s c.0) (differences w docs (changed c.0 c.1 docs)) ++ queue w s (changed c.0 c.1 docs) cs

bare_append : (is js : List (ℕ × Plain)) → bare (is ++ js) ≡ bare is ++ bare js
bare_append [] js = refl
bare_append (i ∷ is) js = ap (λ t. i.1 ∷ t) (bare_append is js)

bare_stamped : (n : ℕ) (is : List Plain) → bare (map (λ i. (n, i)) is) ≡ is
bare_stamped n [] = refl
bare_stamped n (i ∷ is) = ap (λ t. i ∷ t) (bare_stamped n is)

bare_appended : (f : Feed) (docs : List Document) (n : ℕ) (cs : List Change) → squashes f ≡ true → bare (appended f docs n cs) ≡ queue f.watch f.shows docs cs
bare_appended f docs n [] on = refl
bare_appended f docs n (c ∷ cs) on =
    let next : List Document = changed c.0 c.1 docs in
    bare_append (map (λ i. (suc n, i)) (queued f docs c)) (appended f next (suc n) cs)
    ∙ ap (λ t. t ++ bare (appended f next (suc n) cs)) (bare_stamped (suc n) (queued f docs c))
    ∙ ap (λ b. map (queued_as f.watch b f.shows c.0) (differences f.watch docs next) ++ bare (appended f next (suc n) cs)) on
    ∙ ap (λ t. map (queued_as f.watch true f.shows c.0) (differences f.watch docs next) ++ t) (bare_appended f next (suc n) cs on)

module _ {A : Type 0} (g : Plain → A) where
  map_append : (xs ys : List Plain) → map g (xs ++ ys) ≡ map g xs ++ map g ys
  map_append [] ys = refl
  map_append (x ∷ xs) ys = ap (λ t. g x ∷ t) (map_append xs ys)

read_shown : (s : Shows) (ds : List Difference) → map read (map (shown s) ds) ≡ map (hear s) ds
read_shown s [] = refl
read_shown s (d ∷ ds) = ap (λ t. hear s d ∷ t) (read_shown s ds)

keyed_shown : (shape : Shape) (s : Shows) (k : Plain) (ds : List Difference) → map keyed (map (queued_as (all_given shape) true s k) ds) ≡ map (λ d. (k, d)) (map (hear s) ds)
keyed_shown shape s k [] = refl
keyed_shown shape s k (d ∷ ds) = ap (λ t. (k, hear s d) ∷ t) (keyed_shown shape s k ds)

point_queue : (key : Plain) (s : Shows) (docs : List Document) (cs : List Change) → map read (queue (one_key key) s docs cs) ≡ along (point_step s key) docs cs
point_queue key s docs [] = refl
point_queue key s docs (c ∷ cs) =
    let next : List Document = changed c.0 c.1 docs in
    let ds : List Difference = point_items (point_value key docs) (point_value key next) in
    map_append read (map (shown s) ds) (queue (one_key key) s next cs)
    ∙ ap (λ t. t ++ map read (queue (one_key key) s next cs)) (read_shown s ds)
    ∙ ap (λ t. map (hear s) ds ++ t) (point_queue key s next cs)

limit_queue : (n : ℕ) (sel : Selection) (s : Shows) (docs : List Document) (cs : List Change) → map read (queue (first_of n sel) s docs cs) ≡ along (limit_step s n sel) docs cs
limit_queue n sel s docs [] = refl
limit_queue n sel s docs (c ∷ cs) =
    let next : List Document = changed c.0 c.1 docs in
    let ds : List Difference = limit_items (limit_value n sel docs) (limit_value n sel next) in
    map_append read (map (shown s) ds) (queue (first_of n sel) s next cs)
    ∙ ap (λ t. t ++ map read (queue (first_of n sel) s next cs)) (read_shown s ds)
    ∙ ap (λ t. map (hear s) ds ++ t) (limit_queue n sel s next cs)

range_queue : (shape : Shape) (s : Shows) (docs : List Document) (cs : List Change) → map keyed (queue (all_given shape) s docs cs) ≡ along (keyed_step s shape) docs cs
range_queue shape s docs [] = refl
range_queue shape s docs (c ∷ cs) =
    let next : List Document = changed c.0 c.1 docs in
    let ds : List Difference = range_items (range_value shape docs) (range_value shape next) in
    map_append keyed (map (queued_as (all_given shape) true s c.0) ds) (queue (all_given shape) s next cs)
    ∙ ap (λ t. t ++ map keyed (queue (all_given shape) s next cs)) (keyed_shown shape s c.0 ds)
    ∙ ap (λ t. map (λ d. (c.0, d)) (map (hear s) ds) ++ t) (range_queue shape s next cs)

all_moves : (n : ℕ) (sel : Selection) (docs : List Document) (cs : List Change) → AllFollow (first_of n sel) docs cs → AllOneMove n sel docs cs
all_moves n sel docs [] all = tt
all_moves n sel docs (c ∷ cs) all = (all.0, all_moves n sel (changed c.0 c.1 docs) cs all.1)

-- without changes nothing has to go by document
range_joined : (shape : Shape) (s : Shows) (docs : List Document) (cs : List Change) → AreRisingBy order docs → AllFollow (all_given shape) docs cs
    → bag_fold (without_nulls (range_value shape docs)) (map (hear s) (range_net (along (keyed_step s shape) docs cs))) ≡ without_nulls (range_value shape (after_all docs cs))
range_joined shape s docs [] up all = refl
range_joined shape s docs (c ∷ cs) up all = told_net_history s shape all.0 docs (c ∷ cs) up

-- nothing is queued of nothing, and its net is nothing
nothing_queued : (kind : FeedKind) (s : Shows) (docs : List Document) (cs : List Change) → queue (nothing kind) s docs cs ≡ []
nothing_queued kind s docs [] = refl
nothing_queued kind s docs (c ∷ cs) = nothing_queued kind s (changed c.0 c.1 docs) cs

nothing_netted : (kind : FeedKind) → net_differences kind [] ≡ []
nothing_netted kinds.Point = refl
nothing_netted kinds.Range = refl
nothing_netted (kinds.Limit n) = refl

joined_at : (w : Watch) (s : Shows) (docs : List Document) (cs : List Change) → s.offsets ≡ false → AreRisingBy order docs → AllFollow w docs cs
    → fold_at w false (value_at w false docs) (map (shown s) (net_differences (kind_of w) (queue w s docs cs))) ≡ value_at w false (after_all docs cs)
joined_at (one_key key) s docs cs off up all =
    ap (λ t. fold_at (one_key key) false (point_value key docs ∷ []) (map (shown s) (point_net t))) (point_queue key s docs cs)
    ∙ point_fold_at key false s (point_value key docs) (point_net (along (point_step s key) docs cs))
    ∙ ap (λ v. v ∷ []) (point_net_history s key docs cs)
joined_at (all_given shape) s docs cs off up all =
    ap (λ t. fold_at (all_given shape) false (without_nulls (range_value shape docs)) (map (shown s) (range_net t))) (range_queue shape s docs cs)
    ∙ range_fold_at shape false s (without_nulls (range_value shape docs)) (range_net (along (keyed_step s shape) docs cs))
    ∙ range_joined shape s docs cs up all
joined_at (first_of n sel) s docs cs off up all =
    ap (λ t. fold_at (first_of n sel) false (in_order (documents_in (limit_value n sel docs))) (map (shown s) (bag_net t))) (limit_queue n sel s docs cs)
    ∙ bag_fold_at n sel s (in_order (documents_in (limit_value n sel docs))) (bag_net (along (limit_step s n sel) docs cs))
    ∙ bag_net_history s n sel docs cs (all_moves n sel docs cs all)
joined_at (nothing kind) s docs cs off up all =
    ap (λ t. fold_at (nothing kind) false (empty_of kind) (map (shown s) (net_differences kind t))) (nothing_queued kind s docs cs)
    ∙ ap (λ t. fold_at (nothing kind) false (empty_of kind) (map (shown s) t)) (nothing_netted kind)

bare_net : (kind : FeedKind) (types : Bool) (items : List (ℕ × Plain)) → bare (net kind types items) ≡ map (shown (record { offsets = false; types = types })) (net_differences kind (bare items))
bare_net kind types items = inner (net_differences kind (bare items))
  where
    inner : (ds : List Difference) → bare (map (λ d. (last_stamp items, shown (record { offsets = false; types = types }) d)) ds) ≡ map (shown (record { offsets = false; types = types })) ds
    inner [] = refl
    inner (d ∷ ds) = ap (λ t. shown (record { offsets = false; types = types }) d ∷ t) (inner ds)

no_offsets : (squash offsets : Bool) → squash && not offsets ≡ true → offsets ≡ false
no_offsets true false h = refl
no_offsets true true h = absurd (cc (h))
no_offsets false false h = absurd (cc (h))
no_offsets false true h = absurd (cc (h))

joined_with : (w : Watch) (offsets types : Bool) (docs : List Document) (cs : List Change) (items : List (ℕ × Plain)) → offsets ≡ false → AreRisingBy order docs → AllFollow w docs cs
    → bare items ≡ queue w (record { offsets = offsets; types = types }) docs cs
    → fold_at w offsets (value_at w offsets docs) (bare (net (kind_of w) types items)) ≡ value_at w offsets (after_all docs cs)
joined_with w false types docs cs items off up all is =
    ap (fold_at w false (value_at w false docs)) (bare_net (kind_of w) types items ∙ ap (λ t. map (shown (record { offsets = false; types = types })) (net_differences (kind_of w) t)) is)
    ∙ joined_at w (record { offsets = false; types = types }) docs cs refl up all
joined_with w true types docs cs items off up all is = absurd (cc (off))

pub joined_changes : JoinedChangesFold
joined_changes f docs n cs on up all =
    let items : List (ℕ × Plain) = appended f docs n cs in
    fold_is f (value f docs) (bare (net (kind_of f.watch) f.shows.types items))
    ∙ joined_with f.watch f.shows.offsets f.shows.types docs cs items (no_offsets f.squash f.shows.offsets on) up all (bare_appended f docs n cs on)
    ∙ ap (value f) (sym (changed_is docs cs))

-- ---- stamps
pub nothing_joins : NothingJoinsToNothing
nothing_joins kinds.Point types = refl
nothing_joins kinds.Range types = refl
nothing_joins (kinds.Limit n) types = refl

module _ (P : ℕ → Type 0) where
  abbrev All : List (ℕ × Plain) → Type 0
  All items = AllByRecursion (λ (i : ℕ × Plain). P i.0) items

  last_all : (i : ℕ × Plain) (items : List (ℕ × Plain)) → All (i ∷ items) → P (last_stamp (i ∷ items))
  last_all i [] all = all.0
  last_all i (j ∷ js) all = last_all j js all.1

  all_stamped : (n : ℕ) (types : Bool) (ds : List Difference) → P n → All (map (λ d. (n, shown (record { offsets = false; types = types }) d)) ds)
  all_stamped n types [] h = tt
  all_stamped n types (d ∷ ds) h = (h, all_stamped n types ds h)

  all_net : (kind : FeedKind) (types : Bool) (items : List (ℕ × Plain)) → All items → All (net kind types items)
  all_net kind types [] all = let Q : List (ℕ × Plain) → Type 0 = All in subst Q (sym (nothing_joins kind types)) tt
  all_net kind types (i ∷ is) all = all_stamped (last_stamp (i ∷ is)) types (net_differences kind (bare (i ∷ is))) (last_all i is all)

pub stay_above : JoinedStampsStayAbove
stay_above kind types n items all = all_net (λ k. n < k) kind types items all

pub stay_below : JoinedStampsStayBelow
stay_below kind types n items all = all_net (λ k. k ≤ n) kind types items all
