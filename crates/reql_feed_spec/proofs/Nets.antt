-- The net of items folds as the items do.
use Rattle.std.proofs.Common.{◌≡◌, ℕ, ◌+◌, ◌-◌, ◌≤◌, List, [], ◌∷◌, ◌++◌, Option, Some, None, Bool, true, false, ◌||◌, ◌⊎◌, cond, refl, sym, ap, ◌∙◌, arith, inl, inr, map}
use Rattle.std.specs.List.{AllByRecursion, filter, flat_map}
use Rattle.reql_datum.specs.Plain.{Plain}
use Rattle.reql_datum.specs.Order.{order}
use Rattle.reql_bag.specs.Bag.{one, times, IsRising, in_order, less_all}
use Rattle.std.specs.List.Sorted.{IsStrictlySortedBy}
use Rattle.reql_rules.specs.Sets.{is_among}
use Rattle.reql_rules.proofs.Distinct.{holds_each_once}
use Rattle.reql_feed_spec.specs.Items.{Difference, of_values, present, paired}
use Rattle.reql_feed_spec.specs.Shown.{or_null}
use Rattle.reql_feed_spec.specs.Fold.{point_fold, bag_fold, leaving, coming}
use Rattle.reql_feed_spec.specs.Net.{last_new, point_net, listed, olds, news, bag_net, Keyed, of_key, keys_in, range_net}
use Rattle.reql_feed_spec.specs.Follows.{PointFollows, IsThere, BagFollows, PartsFollow}
use Rattle.reql_bag.proofs.Bags.{same_is, same_itself, one_itself, one_other, one_le, same_or, times_append, times_sorted, times_less_all}
use Rattle.reql_bag.proofs.Rising.{absent_below, by_counts}
use Rattle.reql_feed_spec.proofs.Folds.{null_is, one_of, lost, won, times_leaving, times_coming, times_bag_fold, rising_bag_fold}
use Rattle.reql_feed_spec.proofs.Points.{same_flip}
use Rattle.reql_rules.specs.Types.{is_null, same}

-- ---- point
present_at : (b : Bool) (w : Plain) → is_null w ≡ b → or_null (cond b None (Some w)) ≡ w
present_at true w is = sym (null_is w is)
present_at false w is = refl

or_null_present : (w : Plain) → or_null (present w) ≡ w
or_null_present w = present_at (is_null w) w refl

pub last_fold : (v : Plain) (d : Difference) (ds : List Difference) → point_fold v (d ∷ ds) ≡ or_null (last_new d ds)
last_fold v d [] = refl
last_fold v d (e ∷ es) = last_fold (or_null d.new) e es

point_net_at : (b : Bool) (v w : Plain) → same v w ≡ b → point_fold v (cond b [] (of_values (present v) (present w) ∷ [])) ≡ w
point_net_at true v w is = same_is v w is
point_net_at false v w is = or_null_present w

pub point_net_folds : (v : Plain) (ds : List Difference) → PointFollows v ds → point_fold v (point_net ds) ≡ point_fold v ds
point_net_folds v [] h = refl
point_net_folds v (d ∷ ds) h =
    rw (h) (point_net_at (same v (or_null (last_new d ds))) v (or_null (last_new d ds)) refl) ∙ sym (last_fold v d ds)

-- ---- bags
lost_olds : (v : Plain) (ds : List Difference) → lost v ds ≡ times v (olds ds)
lost_olds v [] = refl
lost_olds v (d ∷ ds) = omega (arith, lost_olds v ds, times_append v (listed d.old) (olds ds), one_listed v d.old)
  where
    one_listed : (u : Plain) (o : Option Plain) → times u (listed o) ≡ one_of u o
    one_listed u None = refl
    one_listed u (Some x) = omega arith

won_news : (v : Plain) (ds : List Difference) → won v ds ≡ times v (news ds)
won_news v [] = refl
won_news v (d ∷ ds) = omega (arith, won_news v ds, times_append v (listed d.new) (news ds), one_listed v d.new)
  where
    one_listed : (u : Plain) (o : Option Plain) → times u (listed o) ≡ one_of u o
    one_listed u None = refl
    one_listed u (Some x) = omega arith

pub lost_pairs : (v : Plain) (os ns : List Plain) → lost v (paired os ns) ≡ times v os
lost_pairs v [] [] = refl
lost_pairs v [] (n ∷ ns) = omega (arith, lost_pairs v [] ns)
lost_pairs v (o ∷ os) [] = omega (arith, lost_pairs v os [])
lost_pairs v (o ∷ os) (n ∷ ns) = omega (arith, lost_pairs v os ns)

pub won_pairs : (v : Plain) (os ns : List Plain) → won v (paired os ns) ≡ times v ns
won_pairs v [] [] = refl
won_pairs v [] (n ∷ ns) = omega (arith, won_pairs v [] ns)
won_pairs v (o ∷ os) [] = omega (arith, won_pairs v os [])
won_pairs v (o ∷ os) (n ∷ ns) = omega (arith, won_pairs v os ns)

pub lost_net : (v : Plain) (ds : List Difference) → lost v (bag_net ds) ≡ lost v ds - won v ds
lost_net v ds =
    omega (
      arith,
      lost_pairs v (less_all (in_order (olds ds)) (in_order (news ds))) (less_all (in_order (news ds)) (in_order (olds ds))),
      times_less_all v (in_order (olds ds)) (in_order (news ds)),
      times_sorted v (olds ds),
      times_sorted v (news ds),
      lost_olds v ds,
      won_news v ds,
    )

pub won_net : (v : Plain) (ds : List Difference) → won v (bag_net ds) ≡ won v ds - lost v ds
won_net v ds =
    omega (
      arith,
      won_pairs v (less_all (in_order (olds ds)) (in_order (news ds))) (less_all (in_order (news ds)) (in_order (olds ds))),
      times_less_all v (in_order (news ds)) (in_order (olds ds)),
      times_sorted v (olds ds),
      times_sorted v (news ds),
      lost_olds v ds,
      won_news v ds,
    )

there_one : (u : Plain) (o : Option Plain) (vs : List Plain) → IsThere o vs → one_of u o ≤ times u vs
there_one u None vs h = omega arith
there_one u (Some x) vs h = elim (same_or u x) [ inl e ↦ rw e (omega (arith, one_itself x, h)) | inr ne ↦ omega (arith, one_other u x ne) ]

-- counts along items of which each leaves what is there
pub times_follow : (vs : List Plain) (ds : List Difference) → BagFollows vs ds → (v : Plain) → times v (bag_fold vs ds) + lost v ds ≡ times v vs + won v ds
times_follow vs [] f v = refl
times_follow vs (d ∷ ds) f v =
    let next : List Plain = coming d.new (leaving d.old vs) in
    omega (arith, times_follow next ds f.1 v, times_coming v d.new (leaving d.old vs), times_leaving v d.old vs, there_one v d.old vs f.0)

-- items with the same balance fold to one bag
pub same_balance : (vs : List Plain) (ds es : List Difference) → IsRising vs → BagFollows vs ds → ((v : Plain) → lost v es ≤ times v vs) → ((v : Plain) → lost v es + won v ds ≡ lost v ds + won v es) → bag_fold vs es ≡ bag_fold vs ds
same_balance vs ds es up f fits even =
    by_counts (bag_fold vs es) (bag_fold vs ds) (rising_bag_fold vs es up) (rising_bag_fold vs ds up)
    (λ v. omega (arith, times_bag_fold vs es fits v, times_follow vs ds f v, even v))

pub bag_net_folds : (vs : List Plain) (ds : List Difference) → IsRising vs → BagFollows vs ds → bag_fold vs (bag_net ds) ≡ bag_fold vs ds
bag_net_folds vs ds up f =
    same_balance vs ds (bag_net ds) up f
    (λ v. omega (arith, times_follow vs ds f v, lost_net v ds))
    (λ v. omega (arith, lost_net v ds, won_net v ds))

-- ---- keys
strict_once : (vs : List Plain) → IsStrictlySortedBy order vs → (v : Plain) → times v vs ≤ 1
unfolding IsStrictlySortedBy
strict_once [] up v = omega arith
strict_once (w ∷ ws) up v =
    elim (same_or v w) [
      | inl e ↦ (let none : times v ws ≡ 0 = ap (λ t. times t ws) e ∙ absent_below w ws up.0 in omega (arith, none, one_le v w))
      | inr ne ↦ omega (arith, one_other v w ne, strict_once ws up.1 v)
    ]

pub keys_once : (is : List Keyed) (v : Plain) → times v (keys_in is) ≤ 1
keys_once is v = strict_once (keys_in is) (holds_each_once (map (λ i. i.0) is)).0 v

or_true : (a b : Bool) → a || b ≡ true → (a ≡ true) ⊎ (b ≡ true)
or_true true b h = inl refl
or_true false b h = inr h

among_times : (v : Plain) (ws : List Plain) → is_among ws v ≡ true → 1 ≤ times v ws
among_times v [] h = absurd (cc (h))
among_times v (w ∷ ws) h =
    elim (or_true (same v w) (is_among ws v) h) [
      | inl e ↦ (let t : one v w ≡ 1 = rw (same_is v w e) (one_itself w) in omega (arith, t))
      | inr later ↦ omega (arith, among_times v ws later)
    ]

among_later : (b : Bool) (k : Plain) (ks : List Plain) → is_among ks k ≡ true → b || is_among ks k ≡ true
among_later true k ks h = refl
among_later false k ks h = h

among_keep : (k : Plain) (ks : List Plain) (is : List Keyed) → AllByRecursion (λ (i : Keyed). is_among ks i.0 ≡ true) is → AllByRecursion (λ (i : Keyed). is_among (k ∷ ks) i.0 ≡ true) is
among_keep k ks [] all = tt
among_keep k ks (i ∷ is) all = (among_later (same i.0 k) i.0 ks all.0, among_keep k ks is all.1)

among_own : (is : List Keyed) → AllByRecursion (λ (i : Keyed). is_among (map (λ (j : Keyed). j.0) is) i.0 ≡ true) is
among_own [] = tt
among_own (i ∷ is) = (ap (λ b. b || is_among (map (λ (j : Keyed). j.0) is) i.0) (same_itself i.0), among_keep i.0 (map (λ (j : Keyed). j.0) is) is (among_own is))

there_from : (vs ks : List Plain) → ((v : Plain) → is_among ks v ≡ is_among vs v) → (is : List Keyed) → AllByRecursion (λ (i : Keyed). is_among vs i.0 ≡ true) is → AllByRecursion (λ (i : Keyed). 1 ≤ times i.0 ks) is
there_from vs ks same_ones [] all = tt
there_from vs ks same_ones (i ∷ is) all = (among_times i.0 ks (same_ones i.0 ∙ all.0), there_from vs ks same_ones is all.1)

keys_there : (is : List Keyed) → AllByRecursion (λ (i : Keyed). 1 ≤ times i.0 (keys_in is)) is
keys_there is = there_from (map (λ (j : Keyed). j.0) is) (keys_in is) (holds_each_once (map (λ (j : Keyed). j.0) is)).1 is (among_own is)

-- ---- the items, key by key
abbrev pub total : (Difference → ℕ) → List Difference → ℕ
total f [] = 0
total f (d ∷ ds) = f d + total f ds

total_append : (f : Difference → ℕ) (ds es : List Difference) → total f (ds ++ es) ≡ total f ds + total f es
total_append f [] es = omega arith
total_append f (d ∷ ds) es = omega (arith, total_append f ds es)

lost_total : (v : Plain) (ds : List Difference) → lost v ds ≡ total (λ d. one_of v d.old) ds
lost_total v [] = refl
lost_total v (d ∷ ds) = omega (arith, lost_total v ds)

won_total : (v : Plain) (ds : List Difference) → won v ds ≡ total (λ d. one_of v d.new) ds
won_total v [] = refl
won_total v (d ∷ ds) = omega (arith, won_total v ds)

abbrev pub by_keys : List Keyed → List Plain → List Difference
by_keys is = flat_map (λ k. of_key k is)

own_at : (b : Bool) (f : Difference → ℕ) (i : Keyed) (rest : List Keyed) → total f (map (λ j. j.1) (cond b (i ∷ rest) rest)) ≡ cond b (f i.1) 0 + total f (map (λ j. j.1) rest)
own_at true f i rest = refl
own_at false f i rest = omega arith

own : (f : Difference → ℕ) (k : Plain) (i : Keyed) (is : List Keyed) → total f (of_key k (i ∷ is)) ≡ cond (same k i.0) (f i.1) 0 + total f (of_key k is)
own f k i is = own_at (same k i.0) f i (filter (λ j. same k j.0) is)

key_none : (f : Difference → ℕ) (i : Keyed) (is : List Keyed) (ks : List Plain) → times i.0 ks ≡ 0 → total f (by_keys (i ∷ is) ks) ≡ total f (by_keys is ks)
key_none f i is [] h = refl
key_none f i is (k ∷ ks) h =
    let off : same k i.0 ≡ false = elim (same_or k i.0) [ inl e ↦ absurd (let t : one i.0 k ≡ 1 = rw e (one_itself i.0) in omega (arith, t, h)) | inr ne ↦ ne ] in
    let mine : total f (of_key k (i ∷ is)) ≡ 0 + total f (of_key k is) = own f k i is ∙ ap (λ b. cond b (f i.1) 0 + total f (of_key k is)) off in
    omega (arith, mine, key_none f i is ks (omega (arith, h)), total_append f (of_key k (i ∷ is)) (by_keys (i ∷ is) ks), total_append f (of_key k is) (by_keys is ks))

key_once : (f : Difference → ℕ) (i : Keyed) (is : List Keyed) (ks : List Plain) → times i.0 ks ≡ 1 → total f (by_keys (i ∷ is) ks) ≡ f i.1 + total f (by_keys is ks)
key_once f i is [] h = absurd (omega (arith, h))
key_once f i is (k ∷ ks) h =
    elim (same_or k i.0) [
      | inl e ↦
          (let on : same k i.0 ≡ true = rw e (same_itself i.0) in
          let mine : total f (of_key k (i ∷ is)) ≡ f i.1 + total f (of_key k is) = own f k i is ∙ ap (λ b. cond b (f i.1) 0 + total f (of_key k is)) on in
          let t : one i.0 k ≡ 1 = rw e (one_itself i.0) in
          omega (arith, mine, key_none f i is ks (omega (arith, h, t)), total_append f (of_key k (i ∷ is)) (by_keys (i ∷ is) ks), total_append f (of_key k is) (by_keys is ks)))
      | inr ne ↦
          (let mine : total f (of_key k (i ∷ is)) ≡ 0 + total f (of_key k is) = own f k i is ∙ ap (λ b. cond b (f i.1) 0 + total f (of_key k is)) ne in
          let t : one i.0 k ≡ 0 = one_other i.0 k (same_flip k i.0 ne) in
          omega (arith, mine, key_once f i is ks (omega (arith, h, t)), total_append f (of_key k (i ∷ is)) (by_keys (i ∷ is) ks), total_append f (of_key k is) (by_keys is ks)))
    ]

no_items_by : (ks : List Plain) → by_keys [] ks ≡ []
no_items_by [] = refl
no_items_by (k ∷ ks) = no_items_by ks

all_keys : (f : Difference → ℕ) (ks : List Plain) (is : List Keyed) → ((v : Plain) → times v ks ≤ 1) → AllByRecursion (λ i. 1 ≤ times i.0 ks) is → total f (by_keys is ks) ≡ total f (map (λ i. i.1) is)
all_keys f ks [] once there = rw (no_items_by ks) refl
all_keys f ks (i ∷ is) once there =
    omega (arith, key_once f i is ks (omega (arith, once i.0, there.0)), all_keys f ks is once there.1)

-- ---- range
pub lost_append : (v : Plain) (ds es : List Difference) → lost v (ds ++ es) ≡ lost v ds + lost v es
lost_append v [] es = omega arith
lost_append v (d ∷ ds) es = omega (arith, lost_append v ds es)

pub won_append : (v : Plain) (ds es : List Difference) → won v (ds ++ es) ≡ won v ds + won v es
won_append v [] es = omega arith
won_append v (d ∷ ds) es = omega (arith, won_append v ds es)

abbrev pub nets : List Keyed → List Plain → List Difference
nets is = flat_map (λ k. bag_net (of_key k is))

even_keys : (v : Plain) (is : List Keyed) (ks : List Plain) → lost v (nets is ks) + won v (by_keys is ks) ≡ lost v (by_keys is ks) + won v (nets is ks)
even_keys v is [] = refl
even_keys v is (k ∷ ks) =
    omega (
      arith,
      even_keys v is ks,
      lost_net v (of_key k is),
      won_net v (of_key k is),
      lost_append v (bag_net (of_key k is)) (nets is ks),
      won_append v (bag_net (of_key k is)) (nets is ks),
      lost_append v (of_key k is) (by_keys is ks),
      won_append v (of_key k is) (by_keys is ks),
    )

pub fit_keys : (v : Plain) (is : List Keyed) (part : Plain → List Plain) → ((k : Plain) → BagFollows (part k) (of_key k is)) → (ks : List Plain) → lost v (nets is ks) ≤ times v (flat_map part ks)
fit_keys v is part f [] = omega arith
fit_keys v is part f (k ∷ ks) =
    omega (
      arith,
      fit_keys v is part f ks,
      lost_net v (of_key k is),
      times_follow (part k) (of_key k is) (f k) v,
      lost_append v (bag_net (of_key k is)) (nets is ks),
      times_append v (part k) (flat_map part ks),
    )

pub range_net_folds : (vs : List Plain) (is : List Keyed) → IsRising vs → BagFollows vs (map (λ i. i.1) is) → PartsFollow vs is → bag_fold vs (range_net is) ≡ bag_fold vs (map (λ i. i.1) is)
range_net_folds vs is up f parts =
    let ks : List Plain = keys_in is in
    same_balance vs (map (λ i. i.1) is) (range_net is) up f
    (λ v. omega (arith, fit_keys v is parts.part parts.follow ks, parts.within v))
    (λ v. omega (
      arith,
      even_keys v is ks,
      lost_total v (by_keys is ks),
      lost_total v (map (λ i. i.1) is),
      all_keys (λ d. one_of v d.old) ks is (keys_once is) (keys_there is),
      won_total v (by_keys is ks),
      won_total v (map (λ i. i.1) is),
      all_keys (λ d. one_of v d.new) ks is (keys_once is) (keys_there is),
    ))
