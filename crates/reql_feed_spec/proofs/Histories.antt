-- Along any changes, what a feed is told folds over its first value to its last, item by item or as their net.
use Rattle.std.proofs.Common.{◌≡◌, ℕ, ◌+◌, ◌≤◌, List, [], ◌∷◌, ◌++◌, Option, Some, None, Bool, true, false, cond, refl, sym, ap, ◌∙◌, subst, arith, inl, inr, map}
use Rattle.std.specs.List.{filter, flat_map}
use Rattle.reql_datum.specs.Plain.{Plain, null}
use Rattle.reql_datum.specs.Order.{order}
use Rattle.reql_memory.specs.Sorted.{AreRisingBy, find_by, without_by}
use Rattle.reql_datum.specs.Total.{order_total}
use Rattle.reql_memory.proofs.Sorted as by_key
use Rattle.reql_bag.specs.Bag.{one, times, IsRising, in_order, less_all}
use Rattle.reql_feed_spec.specs.Items.{Difference, of_values, present, point_items, range_items}
use Rattle.reql_feed_spec.specs.Shown.{Shows, seen, or_null}
use Rattle.reql_feed_spec.specs.Fold.{point_fold, bag_fold, leaving, coming, without_nulls}
use Rattle.reql_feed_spec.specs.Value.{Change, Shape, changed, point_value, range_value, contribution_at}
use Rattle.reql_feed_spec.specs.Net.{Keyed, of_key, keys_in, last_new, point_net, bag_net, range_net, olds, news}
use Rattle.reql_feed_spec.specs.Follows.{PointFollows, IsThere, BagFollows, PartsFollow}
use Rattle.reql_feed_spec.specs.History.{after_all, along, hear, point_step, range_step, keyed_step}
use Rattle.reql_bag.proofs.Bags.{same_is, same_itself, same_or, one_itself, times_append, times_sorted}
use Rattle.reql_bag.proofs.Rising.{by_counts}
use Rattle.reql_feed_spec.proofs.Folds.{null_is, heard_is, rising_bag_fold, won_paired, one_of, lost, won, times_leaving, times_coming, times_bag_fold, point_seen, point_folds, range_folds, lost_paired, times_rest, times_without_nulls, rising_without_nulls}
use Rattle.reql_feed_spec.proofs.Contributions.{union, part_of, change_of_part, value_is_union, rising_value, rising_contribution}
use Rattle.reql_feed_spec.proofs.Points.{same_flip, find_put, find_without}
use Rattle.reql_feed_spec.proofs.Nets.{range_net_folds, keys_once, last_fold, nets, lost_net, won_net, lost_pairs, won_pairs, lost_append, won_append, fit_keys}
use Rattle.reql_rules.specs.Types.{is_null, same}
use Rattle.reql_term.specs.Views.{Document}
use Rattle.reql_value_spec.specs.Shapes.{IsByDocument}

pub rising_changed : (k : Plain) (new : Option Plain) (docs : List Document) → AreRisingBy order docs → AreRisingBy order (changed k new docs)
rising_changed k None docs up = by_key.rising_without order order_total k docs up
rising_changed k (Some doc) docs up = by_key.rising_put order order_total k doc docs up

-- ---- folds of joined items
point_fold_append : (v : Plain) (ds es : List Difference) → point_fold v (ds ++ es) ≡ point_fold (point_fold v ds) es
point_fold_append v [] es = refl
point_fold_append v (d ∷ ds) es = point_fold_append (or_null d.new) ds es

pub bag_fold_append : (vs : List Plain) (ds es : List Difference) → bag_fold vs (ds ++ es) ≡ bag_fold (bag_fold vs ds) es
bag_fold_append vs [] es = refl
bag_fold_append vs (d ∷ ds) es = bag_fold_append (coming d.new (leaving d.old vs)) ds es

pub follow_append : (vs : List Plain) (ds es : List Difference) → BagFollows vs ds → BagFollows (bag_fold vs ds) es → BagFollows vs (ds ++ es)
follow_append vs [] es f g = g
follow_append vs (d ∷ ds) es f g = (f.0, follow_append (coming d.new (leaving d.old vs)) ds es f.1 g)

there_from : (o : Option Plain) (vs : List Plain) → ((v : Plain) → one_of v o ≤ times v vs) → IsThere o vs
there_from None vs h = tt
there_from (Some x) vs h = omega (arith, h x, one_itself x)

-- where no more leaves than is there, each that leaves is there
pub follow_from : (vs : List Plain) (ds : List Difference) → ((v : Plain) → lost v ds ≤ times v vs) → BagFollows vs ds
follow_from vs [] h = tt
follow_from vs (d ∷ ds) h = (
  there_from d.old vs (λ v. omega (arith, h v)),
  follow_from (coming d.new (leaving d.old vs)) ds (λ v. omega (arith, h v, times_coming v d.new (leaving d.old vs), times_leaving v d.old vs)),
)

pub range_follows : (s : Shows) (vs ws : List Plain) → BagFollows (without_nulls vs) (map (hear s) (range_items vs ws))
range_follows s vs ws =
    rw (heard_is s (range_items vs ws))
    (follow_from (without_nulls vs) (map (seen s.offsets) (range_items vs ws)) (λ v. omega (arith, lost_paired s.offsets v (less_all vs ws) (less_all ws vs), times_rest v vs ws)))

-- ---- point
pub point_history : (s : Shows) (key : Plain) (docs : List Document) (ws : List Change) → point_fold (point_value key docs) (along (point_step s key) docs ws) ≡ point_value key (after_all docs ws)
point_history s key docs [] = refl
point_history s key docs (w ∷ ws) =
    let next : List Document = changed w.0 w.1 docs in
    point_fold_append (point_value key docs) (point_step s key w.0 docs next) (along (point_step s key) next ws)
    ∙ ap (λ t. point_fold t (along (point_step s key) next ws)) (point_folds s (point_value key docs) (point_value key next))
    ∙ point_history s key next ws

-- ---- range
module _ (s : Shows) (shape : Shape) where
  one_step : (before after : List Document) → bag_fold (without_nulls (range_value shape before)) (map (hear s) (range_items (range_value shape before) (range_value shape after))) ≡ without_nulls (range_value shape after)
  one_step before after = range_folds s (range_value shape before) (range_value shape after) (rising_value shape before) (rising_value shape after)

  pub range_history : (docs : List Document) (ws : List Change) → bag_fold (without_nulls (range_value shape docs)) (along (range_step s shape) docs ws) ≡ without_nulls (range_value shape (after_all docs ws))
  range_history docs [] = refl
  range_history docs (w ∷ ws) =
      let next : List Document = changed w.0 w.1 docs in
      bag_fold_append (without_nulls (range_value shape docs)) (range_step s shape w.0 docs next) (along (range_step s shape) next ws)
      ∙ ap (λ t. bag_fold t (along (range_step s shape) next ws)) (one_step docs next)
      ∙ range_history next ws

  pub history_follows : (docs : List Document) (ws : List Change) → BagFollows (without_nulls (range_value shape docs)) (along (range_step s shape) docs ws)
  history_follows docs [] = tt
  history_follows docs (w ∷ ws) =
      let next : List Document = changed w.0 w.1 docs in
      follow_append (without_nulls (range_value shape docs)) (range_step s shape w.0 docs next) (along (range_step s shape) next ws)
      (range_follows s (range_value shape docs) (range_value shape next))
      (rw (one_step docs next) (history_follows next ws))

-- ---- the items of one key
of_key_at : (b : Bool) (i : Keyed) (xs : List Keyed) → map (λ j. j.1) (cond b (i ∷ xs) xs) ≡ cond b (i.1 ∷ map (λ j. j.1) xs) (map (λ j. j.1) xs)
of_key_at true i xs = refl
of_key_at false i xs = refl

push_at : (b : Bool) (d : Difference) (ds es : List Difference) → cond b (d ∷ (ds ++ es)) (ds ++ es) ≡ cond b (d ∷ ds) ds ++ es
push_at true d ds es = refl
push_at false d ds es = refl

pub of_key_append : (k : Plain) (xs ys : List Keyed) → of_key k (xs ++ ys) ≡ of_key k xs ++ of_key k ys
of_key_append k [] ys = refl
of_key_append k (i ∷ xs) ys =
    of_key_at (same k i.0) i (filter (λ j. same k j.0) (xs ++ ys))
    ∙ ap (λ t. cond (same k i.0) (i.1 ∷ t) t) (of_key_append k xs ys)
    ∙ push_at (same k i.0) i.1 (of_key k xs) (of_key k ys)
    ∙ ap (λ t. t ++ of_key k ys) (sym (of_key_at (same k i.0) i (filter (λ j. same k j.0) xs)))

keep_at : (b : Bool) (d : Difference) (ds : List Difference) → cond b (d ∷ cond b ds []) (cond b ds []) ≡ cond b (d ∷ ds) []
keep_at true d ds = refl
keep_at false d ds = refl

pub of_key_all : (k l : Plain) (ds : List Difference) → of_key k (map (λ d. (l, d)) ds) ≡ cond (same k l) ds []
of_key_all k l [] = none_at (same k l)
  where
    none_at : (b : Bool) → of_key k [] ≡ cond b [] []
    none_at true = refl
    none_at false = refl
of_key_all k l (d ∷ ds) =
    of_key_at (same k l) (l, d) (filter (λ j. same k j.0) (map (λ e. (l, e)) ds))
    ∙ ap (λ t. cond (same k l) (d ∷ t) t) (of_key_all k l ds)
    ∙ keep_at (same k l) d ds

-- ---- the document found at a key along a change
found_itself : (k : Plain) (new : Option Plain) (docs : List Document) → AreRisingBy order docs → find_by order k (changed k new docs) ≡ new
found_itself k None docs up = find_without docs k k up ∙ ap (λ b. cond b None (find_by order k docs)) (same_itself k)
found_itself k (Some doc) docs up = find_put docs k doc k ∙ ap (λ b. cond b (Some doc) (find_by order k docs)) (same_itself k)

found_other : (k l : Plain) (new : Option Plain) (docs : List Document) → AreRisingBy order docs → same k l ≡ false → find_by order k (changed l new docs) ≡ find_by order k docs
found_other k l None docs up off = find_without docs l k up ∙ ap (λ b. cond b None (find_by order k docs)) off
found_other k l (Some doc) docs up off = find_put docs l doc k ∙ ap (λ b. cond b (Some doc) (find_by order k docs)) off

-- ---- nets, printed and read again
pub no_nulls_net : (s : Shows) (v : Plain) (ds : List Difference) → lost null ds ≡ 0 → won null ds ≡ 0 → (lost v (map (hear s) (bag_net ds)) ≡ lost v (bag_net ds)) × (won v (map (hear s) (bag_net ds)) ≡ won v (bag_net ds))
no_nulls_net s v ds l w =
    let os : List Plain = less_all (in_order (olds ds)) (in_order (news ds)) in
    let ns : List Plain = less_all (in_order (news ds)) (in_order (olds ds)) in
    let no_old : times null os ≡ 0 = omega (arith, lost_pairs null os ns, lost_net null ds, l) in
    let no_new : times null ns ≡ 0 = omega (arith, won_pairs null os ns, won_net null ds, w) in (
      ap (lost v) (heard_is s (bag_net ds)) ∙ lost_paired s.offsets v os ns ∙ times_without_nulls v os ∙ all_count (is_null v) v os refl no_old ∙ sym (lost_pairs v os ns),
      ap (won v) (heard_is s (bag_net ds)) ∙ won_paired s.offsets v os ns ∙ times_without_nulls v ns ∙ all_count (is_null v) v ns refl no_new ∙ sym (won_pairs v os ns),
    )
  where
    all_count : (b : Bool) (u : Plain) (xs : List Plain) → is_null u ≡ b → times null xs ≡ 0 → cond b 0 (times u xs) ≡ times u xs
    all_count true u xs is none = sym (ap (λ t. times t xs) (null_is u is) ∙ none)
    all_count false u xs is none = refl

module _ (s : Shows) (shape : Shape) (by : IsByDocument shape) where
  -- a document's part of the value
  abbrev pub part_in : List Document → Plain → List Plain
  part_in docs k = without_nulls (contribution_at shape k (find_by order k docs))

  abbrev pub queued : List Document → List Change → List Keyed
  queued = along (keyed_step s shape)

  part_step_at : (b : Bool) (k : Plain) (w : Change) (docs : List Document) (rest : List Difference) → AreRisingBy order docs → same k w.0 ≡ b
      → BagFollows (part_in (changed w.0 w.1 docs) k) rest → BagFollows (part_in docs k) (cond b (range_step s shape w.0 docs (changed w.0 w.1 docs)) [] ++ rest)
  part_step_at false k w docs rest up is on =
      rw (← found_other k w.0 w.1 docs up is) on
  part_step_at true k w docs rest up is on =
      let e : k ≡ w.0 = same_is k w.0 is in
      let old : Option Plain = find_by order w.0 docs in
      let before : List Plain = contribution_at shape w.0 old in
      let after : List Plain = contribution_at shape w.0 w.1 in
      let items : range_items (range_value shape docs) (range_value shape (changed w.0 w.1 docs)) ≡ range_items before after = change_of_part shape by w.0 old w.1 docs up refl in
      let follows : BagFollows (without_nulls before) (map (hear s) (range_items before after)) = range_follows s before after in
      let folded : bag_fold (without_nulls before) (map (hear s) (range_items before after)) ≡ without_nulls after = range_folds s before after (rising_contribution shape w.0 old) (rising_contribution shape w.0 w.1) in
      let next : part_in (changed w.0 w.1 docs) k ≡ without_nulls after = ap (part_in (changed w.0 w.1 docs)) e ∙ ap (λ o. without_nulls (contribution_at shape w.0 o)) (found_itself w.0 w.1 docs up) in
      let here : part_in docs k ≡ without_nulls before = ap (part_in docs) e in
      let Q : List Difference → Type 0 = λ t. BagFollows (part_in docs k) (map (hear s) t ++ rest) in
      subst Q (sym items)
      (let R : List Plain → Type 0 = λ t. BagFollows t (map (hear s) (range_items before after) ++ rest) in
      subst R (sym here)
      (follow_append (without_nulls before) (map (hear s) (range_items before after)) rest follows
      (let U : List Plain → Type 0 = λ t. BagFollows t rest in subst U (next ∙ sym folded) on)))

  pub part_history : (k : Plain) (docs : List Document) (ws : List Change) → AreRisingBy order docs → BagFollows (part_in docs k) (of_key k (queued docs ws))
  part_history k docs [] up = tt
  part_history k docs (w ∷ ws) up =
      let next : List Document = changed w.0 w.1 docs in
      let split : of_key k (queued docs (w ∷ ws)) ≡ cond (same k w.0) (range_step s shape w.0 docs next) [] ++ of_key k (queued next ws) =
      of_key_append k (keyed_step s shape w.0 docs next) (queued next ws) ∙ ap (λ t. t ++ of_key k (queued next ws)) (of_key_all k w.0 (range_step s shape w.0 docs next)) in
      let Q : List Difference → Type 0 = λ t. BagFollows (part_in docs k) t in
      subst Q (sym split)
      (part_step_at (same k w.0) k w docs (of_key k (queued next ws)) up refl (part_history k next ws (rising_changed w.0 w.1 docs up)))

  -- the parts of different documents together are no more than the value
  abbrev adds_in : List Document → Plain → List Plain
  adds_in docs k = contribution_at shape k (find_by order k docs)

  other_parts : (v k : Plain) (docs : List Document) (ks : List Plain) → AreRisingBy order docs → times k ks ≡ 0 → times v (flat_map (adds_in (without_by order k docs)) ks) ≡ times v (flat_map (adds_in docs) ks)
  other_parts v k docs [] up h = refl
  other_parts v k docs (l ∷ ls) up h =
      let off : same k l ≡ false = elim (same_or k l) [ inl e ↦ absurd (let t : one k l ≡ 1 = rw e (one_itself l) in omega (arith, t, h)) | inr ne ↦ ne ] in
      let found : find_by order l (without_by order k docs) ≡ find_by order l docs = found_other l k None docs up (same_flip k l off) in
      let mine : times v (adds_in (without_by order k docs) l) ≡ times v (adds_in docs l) = ap (λ o. times v (contribution_at shape l o)) found in
      omega (arith, mine, other_parts v k docs ls up (omega (arith, h)), times_append v (adds_in (without_by order k docs) l) (flat_map (adds_in (without_by order k docs)) ls), times_append v (adds_in docs l) (flat_map (adds_in docs) ls))

  parts_within : (v : Plain) (ks : List Plain) (docs : List Document) → AreRisingBy order docs → ((k : Plain) → times k ks ≤ 1) → times v (flat_map (adds_in docs) ks) ≤ times v (union shape docs)
  parts_within v [] docs up once = omega arith
  parts_within v (k ∷ ks) docs up once =
      let none : times k ks ≡ 0 = omega (arith, once k, one_itself k) in
      let rest : List Document = without_by order k docs in
      omega (
        arith,
        part_of shape v k docs,
        other_parts v k docs ks up none,
        parts_within v ks rest (by_key.rising_without order order_total k docs up) (λ l. omega (arith, once l)),
        times_append v (adds_in docs k) (flat_map (adds_in docs) ks),
      )

  null_parts : (v : Plain) (docs : List Document) (ks : List Plain) → times v (flat_map (part_in docs) ks) ≡ cond (is_null v) 0 (times v (flat_map (adds_in docs) ks))
  null_parts v docs [] = none_at (is_null v)
    where
      none_at : (b : Bool) → times v [] ≡ cond b 0 0
      none_at true = refl
      none_at false = refl
  null_parts v docs (k ∷ ks) =
      add_at (is_null v) (times v (part_in docs k)) (times v (adds_in docs k)) (times v (flat_map (part_in docs) ks)) (times v (flat_map (adds_in docs) ks)) (times v (flat_map (part_in docs) (k ∷ ks))) (times v (flat_map (adds_in docs) (k ∷ ks)))
      (times_without_nulls v (adds_in docs k)) (null_parts v docs ks) (times_append v (part_in docs k) (flat_map (part_in docs) ks)) (times_append v (adds_in docs k) (flat_map (adds_in docs) ks))
    where
      add_at : (b : Bool) (p a q c m n : ℕ) → p ≡ cond b 0 a → q ≡ cond b 0 c → m ≡ p + q → n ≡ a + c → m ≡ cond b 0 n
      add_at true p a q c m n h j k l = omega (arith, h, j, k)
      add_at false p a q c m n h j k l = omega (arith, h, j, k, l)

  null_le : (b : Bool) (m n : ℕ) → m ≤ n → cond b 0 m ≤ cond b 0 n
  null_le true m n h = omega arith
  null_le false m n h = h

  pub parts_follow : (docs : List Document) (ws : List Change) → AreRisingBy order docs → PartsFollow (without_nulls (range_value shape docs)) (queued docs ws)
  parts_follow docs ws up = record {
    part = part_in docs;
    follow = λ k. part_history k docs ws up;
    within = λ v.
        let ks : List Plain = keys_in (queued docs ws) in
        let value : times v (range_value shape docs) ≡ times v (union shape docs) = ap (times v) (value_is_union shape by docs) ∙ times_sorted v (union shape docs) in
        let all : cond (is_null v) 0 (times v (flat_map (adds_in docs) ks)) ≤ cond (is_null v) 0 (times v (range_value shape docs)) =
        null_le (is_null v) (times v (flat_map (adds_in docs) ks)) (times v (range_value shape docs)) (omega (arith, value, parts_within v ks docs up (keys_once (queued docs ws)))) in
        omega (arith, all, null_parts v docs ks, times_without_nulls v (range_value shape docs));
  }

  items_of_queued : (docs : List Document) (ws : List Change) → map (λ (i : Keyed). i.1) (queued docs ws) ≡ along (range_step s shape) docs ws
  items_of_queued docs [] = refl
  items_of_queued docs (w ∷ ws) =
      let next : List Document = changed w.0 w.1 docs in
      map_append (keyed_step s shape w.0 docs next) (queued next ws) ∙ ap (λ t. t ++ map (λ (i : Keyed). i.1) (queued next ws)) (inner w.0 (range_step s shape w.0 docs next)) ∙ ap (λ t. range_step s shape w.0 docs next ++ t) (items_of_queued next ws)
    where
      map_append : (xs ys : List Keyed) → map (λ (i : Keyed). i.1) (xs ++ ys) ≡ map (λ (i : Keyed). i.1) xs ++ map (λ (i : Keyed). i.1) ys
      map_append [] ys = refl
      map_append (x ∷ xs) ys = ap (λ t. x.1 ∷ t) (map_append xs ys)

      inner : (k : Plain) (ds : List Difference) → map (λ (i : Keyed). i.1) (map (λ d. (k, d)) ds) ≡ ds
      inner k [] = refl
      inner k (d ∷ ds) = ap (λ t. d ∷ t) (inner k ds)

  -- the net of what was queued folds to the last value
  pub net_history : (docs : List Document) (ws : List Change) → AreRisingBy order docs → bag_fold (without_nulls (range_value shape docs)) (range_net (queued docs ws)) ≡ without_nulls (range_value shape (after_all docs ws))
  net_history docs ws up =
      let first : List Plain = without_nulls (range_value shape docs) in
      let follows : BagFollows first (map (λ (i : Keyed). i.1) (queued docs ws)) = rw (items_of_queued docs ws) (history_follows s shape docs ws) in
      range_net_folds first (queued docs ws) (rising_without_nulls (range_value shape docs) (rising_value shape docs)) follows (parts_follow docs ws up)
      ∙ ap (bag_fold first) (items_of_queued docs ws)
      ∙ range_history s shape docs ws

  hears_append : (ds es : List Difference) → map (hear s) (ds ++ es) ≡ map (hear s) ds ++ map (hear s) es
  hears_append [] es = refl
  hears_append (d ∷ ds) es = ap (λ t. hear s d ∷ t) (hears_append ds es)

  heard_nets : (v : Plain) (is : List Keyed) → ((k : Plain) → lost null (of_key k is) ≡ 0) → ((k : Plain) → won null (of_key k is) ≡ 0) → (ks : List Plain)
      → (lost v (map (hear s) (nets is ks)) ≡ lost v (nets is ks)) × (won v (map (hear s) (nets is ks)) ≡ won v (nets is ks))
  heard_nets v is l w [] = (refl, refl)
  heard_nets v is l w (k ∷ ks) =
      let mine = no_nulls_net s v (of_key k is) (l k) (w k) in
      let rest = heard_nets v is l w ks in
      let here : List Difference = bag_net (of_key k is) in (
        ap (lost v) (hears_append here (nets is ks)) ∙ omega (arith, mine.0, rest.0, lost_append v (map (hear s) here) (map (hear s) (nets is ks)), lost_append v here (nets is ks)),
        ap (won v) (hears_append here (nets is ks)) ∙ omega (arith, mine.1, rest.1, won_append v (map (hear s) here) (map (hear s) (nets is ks)), won_append v here (nets is ks)),
      )

  no_null_step : (k : Plain) (before after : List Document) → (lost null (range_step s shape k before after) ≡ 0) × (won null (range_step s shape k before after) ≡ 0)
  no_null_step k before after =
      let vs : List Plain = range_value shape before in
      let ws : List Plain = range_value shape after in (
        ap (lost null) (heard_is s (range_items vs ws)) ∙ lost_paired s.offsets null (less_all vs ws) (less_all ws vs) ∙ times_without_nulls null (less_all vs ws),
        ap (won null) (heard_is s (range_items vs ws)) ∙ won_paired s.offsets null (less_all vs ws) (less_all ws vs) ∙ times_without_nulls null (less_all ws vs),
      )

  no_null_at : (b : Bool) (ds es : List Difference) → lost null ds ≡ 0 → won null ds ≡ 0 → lost null es ≡ 0 → won null es ≡ 0 → (lost null (cond b ds [] ++ es) ≡ 0) × (won null (cond b ds [] ++ es) ≡ 0)
  no_null_at true ds es l w m u = (omega (arith, lost_append null ds es, l, m), omega (arith, won_append null ds es, w, u))
  no_null_at false ds es l w m u = (m, u)

  no_nulls_queued : (k : Plain) (docs : List Document) (ws : List Change) → (lost null (of_key k (queued docs ws)) ≡ 0) × (won null (of_key k (queued docs ws)) ≡ 0)
  no_nulls_queued k docs [] = (refl, refl)
  no_nulls_queued k docs (w ∷ ws) =
      let next : List Document = changed w.0 w.1 docs in
      let split : of_key k (queued docs (w ∷ ws)) ≡ cond (same k w.0) (range_step s shape w.0 docs next) [] ++ of_key k (queued next ws) =
      of_key_append k (keyed_step s shape w.0 docs next) (queued next ws) ∙ ap (λ t. t ++ of_key k (queued next ws)) (of_key_all k w.0 (range_step s shape w.0 docs next)) in
      let step = no_null_step w.0 docs next in
      let rest = no_nulls_queued k next ws in
      let both = no_null_at (same k w.0) (range_step s shape w.0 docs next) (of_key k (queued next ws)) step.0 step.1 rest.0 rest.1 in
      (ap (lost null) split ∙ both.0, ap (won null) split ∙ both.1)

  -- and so does the net as a client reads it
  pub told_net_history : (docs : List Document) (ws : List Change) → AreRisingBy order docs → bag_fold (without_nulls (range_value shape docs)) (map (hear s) (range_net (queued docs ws))) ≡ without_nulls (range_value shape (after_all docs ws))
  told_net_history docs ws up =
      let first : List Plain = without_nulls (range_value shape docs) in
      let is : List Keyed = queued docs ws in
      let ks : List Plain = keys_in is in
      let rising : IsRising first = rising_without_nulls (range_value shape docs) (rising_value shape docs) in
      let parts : PartsFollow first is = parts_follow docs ws up in
      let fits : (v : Plain) → lost v (nets is ks) ≤ times v first = λ v. omega (arith, fit_keys v is parts.part parts.follow ks, parts.within v) in
      let heard : (v : Plain) → (lost v (map (hear s) (nets is ks)) ≡ lost v (nets is ks)) × (won v (map (hear s) (nets is ks)) ≡ won v (nets is ks)) =
      λ v. heard_nets v is (λ k. (no_nulls_queued k docs ws).0) (λ k. (no_nulls_queued k docs ws).1) ks in
      by_counts (bag_fold first (map (hear s) (nets is ks))) (bag_fold first (nets is ks)) (rising_bag_fold first (map (hear s) (nets is ks)) rising) (rising_bag_fold first (nets is ks) rising)
      (λ v. omega (arith, times_bag_fold first (map (hear s) (nets is ks)) (λ u. omega (arith, fits u, (heard u).0)) v, times_bag_fold first (nets is ks) fits v, (heard v).0, (heard v).1, fits v))
      ∙ net_history docs ws up

-- ---- a point feed's net
point_follow_at : (b : Bool) (offsets : Bool) (v w : Plain) (rest : List Difference) → same v w ≡ b → PointFollows w rest → PointFollows v (map (seen offsets) (cond b [] (of_values (present v) (present w) ∷ [])) ++ rest)
point_follow_at true offsets v w rest is on = let P : Plain → Type 0 = λ t. PointFollows t rest in subst P (sym (same_is v w is)) on
point_follow_at false offsets v w rest is on = point_seen v

pub point_follow : (s : Shows) (key : Plain) (docs : List Document) (cs : List Change) → PointFollows (point_value key docs) (along (point_step s key) docs cs)
point_follow s key docs [] = tt
point_follow s key docs (c ∷ cs) =
    let next : List Document = changed c.0 c.1 docs in
    let v : Plain = point_value key docs in
    let w : Plain = point_value key next in
    let Q : List Difference → Type 0 = λ t. PointFollows v (t ++ along (point_step s key) next cs) in
    subst Q (sym (heard_is s (point_items v w))) (point_follow_at (same v w) s.offsets v w (along (point_step s key) next cs) refl (point_follow s key next cs))

pub point_net_heard : (s : Shows) (v : Plain) (ds : List Difference) → PointFollows v ds → point_fold v (map (hear s) (point_net ds)) ≡ point_fold v ds
point_net_heard s v [] h = refl
point_net_heard s v (d ∷ ds) h =
    ap (λ t. point_fold v (map (hear s) (point_items t (or_null (last_new d ds))))) h ∙ point_folds s v (or_null (last_new d ds)) ∙ sym (last_fold v d ds)

pub point_net_history : (s : Shows) (key : Plain) (docs : List Document) (cs : List Change) → point_fold (point_value key docs) (map (hear s) (point_net (along (point_step s key) docs cs))) ≡ point_value key (after_all docs cs)
point_net_history s key docs cs = point_net_heard s (point_value key docs) (along (point_step s key) docs cs) (point_follow s key docs cs) ∙ point_history s key docs cs
