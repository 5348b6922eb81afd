-- The net of a range feed is that of the groups of its items by their keys.
use Rattle.std.proofs.Common.{◌≡◌, List, [], ◌∷◌, ◌++◌, map, Some, None, Bool, true, false, ◌||◌, cond, refl, sym, ap, subst, ◌∙◌}
use Rattle.std.specs.List.{filter, flat_map, list_any, zip}
use Rattle.std.specs.List.Sorted.{IsStrictlySortedBy}
use Rattle.std.specs.Map.{keys_of}
use Rattle.reql_memory.specs.Sorted.{AreRisingBy, find_by}
use Rattle.reql_memory.proofs.Same.{same_found}
use Rattle.reql_datum.specs.Order.{order}
use Rattle.reql_datum.specs.Plain.{Plain}
use Rattle.reql_datum.specs.Total.{order_total}
use Rattle.reql_datum.proofs.Back.{listed_back}
use Rattle.reql_bag.proofs.Bags.{same_is}
use Rattle.reql_bag.proofs.Rising.{equal_is}
use Rattle.reql_rules.specs.Grouping.{gather}
use Rattle.reql_rules.specs.Laws.{of_group, if_some}
use Rattle.reql_rules.specs.Lists.{array_of}
use Rattle.reql_rules.specs.Sorting.{distinct}
use Rattle.reql_rules.specs.Types.{same}
use Rattle.reql_rules.proofs.Groups.{hold_each_once}
use Rattle.reql_rules.proofs.Distinct.{holds_each_once}
use Rattle.reql_feed_spec.specs.Items.{Difference}
use Rattle.reql_feed_spec.specs.Net.{Keyed, bag_net, of_key, keyed, range_net}
use Rattle.reql_feed_spec.specs.Shown.{read}
use Rattle.reql_squash.specs.Told.{group_net, groups_net, members_net}

abbrev Pair : Type 0
Pair = Plain × Plain

abbrev heard : Pair → Keyed
heard p = (p.0, read p.1)

-- the items of a key
of_key_at : (k : Plain) (p : Pair) (ps : List Pair) (b : Bool) → of_key k (map heard ps) ≡ map read (of_group k ps)
    → map (λ (i : Keyed). i.1) (cond b (heard p ∷ filter (λ (i : Keyed). same k i.0) (map heard ps)) (filter (λ (i : Keyed). same k i.0) (map heard ps)))
    ≡ map read (map (λ (q : Pair). q.1) (cond b (p ∷ filter (λ (q : Pair). same k q.0) ps) (filter (λ (q : Pair). same k q.0) ps)))
of_key_at k p ps true rest = ap (λ (t : List Difference). read p.1 ∷ t) rest
of_key_at k p ps false rest = rest

of_key_heard : (k : Plain) (ps : List Pair) → of_key k (map heard ps) ≡ map read (of_group k ps)
of_key_heard k [] = refl
of_key_heard k (p ∷ ps) = of_key_at k p ps (same k p.0) (of_key_heard k ps)

keys_heard : (ps : List Pair) → map (λ (i : Keyed). i.0) (map heard ps) ≡ map (λ (p : Pair). p.0) ps
keys_heard [] = refl
keys_heard (p ∷ ps) = ap (λ t. p.0 ∷ t) (keys_heard ps)

-- each key with the array of its items
abbrev grouped : List Pair → Plain → Pair
grouped ps k = (k, array_of (of_group k ps))

keys_grouped : (ps : List Pair) (ks : List Plain) → keys_of (map (grouped ps) ks) ≡ ks
keys_grouped ps [] = refl
keys_grouped ps (k ∷ ks) = ap (λ t. k ∷ t) (keys_grouped ps ks)

found_at : (ps : List Pair) (q k : Plain) (ks : List Plain) (b : Bool) → same q k ≡ b → find_by order q (map (grouped ps) ks) ≡ cond (list_any (same q) ks) (Some (array_of (of_group q ps))) None
    → cond b (Some (array_of (of_group k ps))) (find_by order q (map (grouped ps) ks)) ≡ cond (b || list_any (same q) ks) (Some (array_of (of_group q ps))) None
found_at ps q k ks true is rest = ap (λ (x : Plain). Some (array_of (of_group x ps))) (sym (same_is q k is))
found_at ps q k ks false is rest = rest

found_grouped : (ps : List Pair) (q : Plain) (ks : List Plain) → find_by order q (map (grouped ps) ks) ≡ cond (list_any (same q) ks) (Some (array_of (of_group q ps))) None
found_grouped ps q [] = refl
found_grouped ps q (k ∷ ks) = found_at ps q k ks (same q k) refl (found_grouped ps q ks)

some_at : (q : Plain) (p : Pair) (ps : List Pair) (b : Bool) → cond (list_any (same q) (map (λ (p : Pair). p.0) ps)) (Some (array_of (of_group q ps))) None ≡ if_some (of_group q ps)
    → cond (b || list_any (same q) (map (λ (p : Pair). p.0) ps)) (Some (array_of (map (λ (p : Pair). p.1) (cond b (p ∷ filter (λ (p : Pair). same q p.0) ps) (filter (λ (p : Pair). same q p.0) ps))))) None
    ≡ if_some (map (λ (p : Pair). p.1) (cond b (p ∷ filter (λ (p : Pair). same q p.0) ps) (filter (λ (p : Pair). same q p.0) ps)))
some_at q p ps true rest = refl
some_at q p ps false rest = rest

some_group : (q : Plain) (ps : List Pair) → cond (list_any (same q) (map (λ (p : Pair). p.0) ps)) (Some (array_of (of_group q ps))) None ≡ if_some (of_group q ps)
some_group q [] = refl
some_group q (p ∷ ps) = some_at q p ps (same q p.0) (some_group q ps)

abbrev keys : List Pair → List Plain
keys ps = map (λ (p : Pair). p.0) ps

gathered : (ps : List Pair) → gather ps ≡ map (grouped ps) (distinct (keys ps))
gathered ps =
    let once = holds_each_once (keys ps) in
    let all = hold_each_once ps in
    let rises : AreRisingBy order (map (grouped ps) (distinct (keys ps))) = subst (IsStrictlySortedBy order) (sym (keys_grouped ps (distinct (keys ps)))) once.0 in
    same_found order order_total equal_is (gather ps) (map (grouped ps) (distinct (keys ps))) all.0 rises
    (λ q. all.1 q ∙ sym (some_group q ps) ∙ ap (λ (b : Bool). cond b (Some (array_of (of_group q ps))) None) (sym (once.1 q)) ∙ sym (found_grouped ps q (distinct (keys ps))))

nets_of : (ps : List Pair) (ks : List Plain) → flat_map (λ k. bag_net (of_key k (map heard ps))) ks ≡ groups_net (map (grouped ps) ks)
nets_of ps [] = refl
nets_of ps (k ∷ ks) =
    let one : bag_net (of_key k (map heard ps)) ≡ group_net (array_of (of_group k ps)) = ap bag_net (of_key_heard k ps) ∙ ap members_net (sym (listed_back (of_group k ps))) in
    ap (λ (t : List Difference). t ++ flat_map (λ k. bag_net (of_key k (map heard ps))) ks) one ∙ ap (λ (t : List Difference). group_net (array_of (of_group k ps)) ++ t) (nets_of ps ks)

-- the net of items by their keys
net_of_groups : (ps : List Pair) → range_net (map heard ps) ≡ groups_net (gather ps)
net_of_groups ps =
    ap (λ (ks : List Plain). flat_map (λ k. bag_net (of_key k (map heard ps))) (distinct ks)) (keys_heard ps)
    ∙ nets_of ps (distinct (keys ps)) ∙ ap groups_net (sym (gathered ps))

front : {x y : Difference} {xs ys : List Difference} → x ∷ xs ≡ y ∷ ys → x ≡ y
front {x = x} {y = y} {xs = xs} {ys = ys} e = let f : x ∷ xs ≡ y ∷ ys = e in cc

behind : {x y : Difference} {xs ys : List Difference} → x ∷ xs ≡ y ∷ ys → xs ≡ ys
behind {x = x} {y = y} {xs = xs} {ys = ys} e = let f : x ∷ xs ≡ y ∷ ys = e in cc

heard_zip : (items inners : List Plain) → map read inners ≡ map (λ (i : Plain). (keyed i).1) items → map heard (zip (map (λ (i : Plain). (keyed i).0) items) inners) ≡ map keyed items
heard_zip [] [] e = refl
heard_zip [] (v ∷ vs) e = refl
heard_zip (i ∷ is) [] e = absurd (let f : [] ≡ (keyed i).1 ∷ map (λ (i : Plain). (keyed i).1) is = e in cc)
heard_zip (i ∷ is) (v ∷ vs) e =
    let first : read v ≡ (keyed i).1 = front e in
    let rest : map heard (zip (map (λ (i : Plain). (keyed i).0) is) vs) ≡ map keyed is = heard_zip is vs (behind e) in
    ap (λ (d : Difference). ((keyed i).0, d) ∷ map heard (zip (map (λ (i : Plain). (keyed i).0) is) vs)) first ∙ ap (λ (t : List Keyed). keyed i ∷ t) rest

pub range_net_is : (items inners : List Plain) → map read inners ≡ map (λ (i : Plain). (keyed i).1) items → groups_net (gather (zip (map (λ (i : Plain). (keyed i).0) items) inners)) ≡ range_net (map keyed items)
range_net_is items inners e = sym (net_of_groups (zip (map (λ (i : Plain). (keyed i).0) items) inners)) ∙ ap range_net (heard_zip items inners e)
