-- Places in a list of documents: what stands there once one left or came, and one item more of those that are folded.
use Rattle.std.proofs.Common.{◌≡◌, ℕ, zero, suc, ◌+◌, ◌<◌, ◌≤◌, List, [], ◌∷◌, length, map, drop, get_or, Option, Some, None, option_map, Bool, true, false, cond, ltb, ◌&&◌, ◌||◌, refl, sym, ap, subst, ◌∙◌, add-one, arith, drop-cons}
use Rattle.std.proofs.lemmas.List.{drop_all}
use Rattle.std.proofs.lemmas.List.Quantifiers.{position-Some}
use Rattle.std.proofs.lemmas.List.Sums.{fails_before_first}
use Rattle.std.proofs.lemmas.Bool.{ltb-false}
use Rattle.std.proofs.lemmas.Slice.Eq.{slice_eq-Decides}
use Rattle.std.specs.Cmp.Lexicographic.{pointwise}
use Rattle.std.specs.Option.{option_and_then}
use Rattle.std.specs.Ordering.{is_lt, eq_by_cmp, on}
use Rattle.std.specs.List.{insert, remove, list_any, position, position_or_len, prefix_len}
use Rattle.reql_feed_spec.specs.Fold.{coming}
use Rattle.std.specs.Borrow.{Bor}
use Rattle.reql_memory.proofs.Held.{map-insert}
use Rattle.reql_datum.specs.Order.{order}
use Rattle.reql_datum.specs.Plain.{Plain}
use Rattle.reql_datum.specs.View.{plain}
use Rattle.reql_datum.specs.declared.datum.Datum.{Datum}
use Rattle.reql_datum.specs.declared.datum.Datum.TheVariants as datums
use Rattle.reql_rules.specs.Sorting.{into_place}
use Rattle.reql_rules.specs.Types.{same}
use Rattle.reql_bag.specs.Bag.{without_one, in_order}
use Rattle.reql_bag.proofs.Bags.{same_is, same_itself}
use Rattle.reql_load.specs.Folded.{is_skip, lacks_offsets, step, folded_by, folded}
use Rattle.reql_load.specs.declared.steps.Way.{Way}
use Rattle.reql_load.specs.declared.steps.Way.TheVariants as ways

-- the first that equals v
out_at : (v : Plain) (bag : List Datum) (k : ℕ) → k < length bag → same v (plain (get_or bag k datums.Null)) ≡ true → ((j : ℕ) → j < k → same v (plain (get_or bag j datums.Null)) ≡ false)
    → (list_any (same v) (map plain bag) ≡ true) × (map plain (remove bag k) ≡ without_one v (map plain bag))
out_at v [] k h here before = absurd (omega arith)
out_at v (d ∷ ds) zero h here before = (rw here refl, rw here refl)
out_at v (d ∷ ds) (suc k) h here before =
    let other : same v (plain d) ≡ false = before 0 (omega arith) in
    let rest = out_at v ds k (omega arith) here (λ j l. before (suc j) (omega arith)) in
    (rw other rest.0, rw other (ap (λ (t : List Plain). plain d ∷ t) rest.1))

pub taken_out : (v : Plain) (bag read after : List Datum) (k : ℕ) → read ≡ bag → position (λ (d : Datum). same v (plain d)) read ≡ Some k → after ≡ remove bag k
    → (true ≡ list_any (same v) (map plain bag)) × (map plain after ≡ without_one v (map plain bag))
taken_out v bag read after k same_bag at is =
    let first = position-Some (λ (d : Datum). same v (plain d)) bag k datums.Null (subst (λ (t : List Datum). position (λ (d : Datum). same v (plain d)) t ≡ Some k) same_bag at) in
    let out = out_at v bag k first.0 first.1 first.2 in
    (sym out.0, ap (map plain) is ∙ out.1)

none_at : (v : Plain) (bag : List Datum) → ((j : ℕ) → j < length bag → same v (plain (get_or bag j datums.Null)) ≡ false) → false ≡ list_any (same v) (map plain bag)
none_at v [] others = refl
none_at v (d ∷ ds) others =
    let other : same v (plain d) ≡ false = others 0 (omega arith) in
    rw other (none_at v ds (λ j l. others (suc j) (omega arith)))

is_past : (b : Bool) (n : ℕ) → cond b (Some n) None ≡ None → b ≡ false
is_past true n e = cc
is_past false n e = refl

none_in : (v : Plain) (bag : List Datum) → position (λ (d : Datum). same v (plain d)) bag ≡ None → false ≡ list_any (same v) (map plain bag)
none_in v bag at =
    let p : Datum → Bool = λ d. same v (plain d) in
    let past : length bag ≤ position_or_len p bag = ltb-false (position_or_len p bag) (length bag) (is_past (ltb (position_or_len p bag) (length bag)) (position_or_len p bag) at) in
    none_at v bag (λ j l. fails_before_first p bag j datums.Null (omega arith))

pub none_there : (v : Plain) (bag read : List Datum) → read ≡ bag → position (λ (d : Datum). same v (plain d)) read ≡ None → false ≡ list_any (same v) (map plain bag)
none_there v bag read same_bag at = none_in v bag (subst (λ (t : List Datum). position (λ (d : Datum). same v (plain d)) t ≡ None) same_bag at)

pub removed_seen : (bag : List Datum) (k : ℕ) → map plain (remove bag k) ≡ remove (map plain bag) k
removed_seen [] zero = refl
removed_seen [] (suc k) = refl
removed_seen (d ∷ ds) zero = refl
removed_seen (d ∷ ds) (suc k) = ap (λ (t : List Plain). plain d ∷ t) (removed_seen ds k)

pub inserted_seen : (bag : List Datum) (k : ℕ) (x : Datum) → map plain (insert bag k x) ≡ insert (map plain bag) k (plain x)
inserted_seen bag k x = map-insert plain bag k x

-- in front of the first that isn't below x
abbrev below : Datum → Datum → Bool
below x d = is_lt (order (plain d) (plain x))

placed_by : (b : Bool) (x d : Datum) (ds : List Datum) → map plain (insert ds (prefix_len (below x) ds) x) ≡ into_place order (plain x) (map plain ds)
    → map plain (insert (d ∷ ds) (cond b (1 + prefix_len (below x) ds) 0) x) ≡ cond b (plain d ∷ into_place order (plain x) (map plain ds)) (plain x ∷ plain d ∷ map plain ds)
placed_by true x d ds e = let k : 1 + prefix_len (below x) ds ≡ suc (prefix_len (below x) ds) = omega arith in rw k (ap (λ (t : List Plain). plain d ∷ t) e)
placed_by false x d ds e = refl

placed : (x : Datum) (bag : List Datum) → map plain (insert bag (prefix_len (below x) bag) x) ≡ into_place order (plain x) (map plain bag)
placed x [] = refl
placed x (d ∷ ds) = placed_by (is_lt (order (plain d) (plain x))) x d ds (placed x ds)

pub put_in_order : (o : Option (Bor Datum)) (v : Bor Datum) (x : Datum) (bag read after : List Datum) (k : ℕ) → o ≡ Some v → read ≡ bag → k ≡ prefix_len (λ (d : Datum). is_lt (order (plain d) (plain v.now))) read
    → x ≡ v.now → after ≡ insert bag k x → map plain after ≡ coming (option_map (λ (d : Bor Datum). plain d.now) o) (map plain bag)
put_in_order o v x bag read after k is same_bag at copied inserted =
    let place : k ≡ prefix_len (below v.now) bag = at ∙ ap (prefix_len (below v.now)) same_bag in
    ap (map plain) inserted ∙ ap (λ (j : ℕ). map plain (insert bag j x)) place ∙ ap (λ (t : Datum). map plain (insert bag (prefix_len (below v.now) bag) t)) copied ∙ placed v.now bag
    ∙ sym (ap (λ (t : Option (Bor Datum)). coming (option_map (λ (d : Bor Datum). plain d.now) t) (map plain bag)) is)

any_mapped : (p : Plain → Bool) (items : List (ℕ × Datum)) → list_any (λ (i : ℕ × Datum). p (plain i.1)) items ≡ list_any p (map (λ (i : ℕ × Datum). plain i.1) items)
any_mapped p [] = refl
any_mapped p (i ∷ is) = ap (λ (b : Bool). p (plain i.1) || b) (any_mapped p is)

-- what an item stands for
abbrev seen : ℕ × Datum → Plain
seen i = plain i.1

-- which way is taken
none_taken : (s : Bool) (x : Option (List Plain)) → s ≡ true → None ≡ cond s None x
none_taken true x e = refl
none_taken false x e = cc

bag_taken : (s o : Bool) (x y : Option (List Plain)) → s ≡ false → o ≡ true → x ≡ cond s None (cond o x y)
bag_taken true o x y e f = cc
bag_taken false true x y e f = refl
bag_taken false false x y e f = cc

list_taken : (s o : Bool) (x y : Option (List Plain)) → s ≡ false → o ≡ false → y ≡ cond s None (cond o x y)
list_taken true o x y e f = cc
list_taken false true x y e f = cc
list_taken false false x y e f = refl

pub skipped : (opening : List Plain) (items : List (ℕ × Datum)) (s : Bool) → s ≡ list_any (λ (i : ℕ × Datum). is_skip (plain i.1)) items → s ≡ true → None ≡ folded opening (map seen items)
skipped opening items s skips on = none_taken (list_any is_skip (map seen items)) (cond (list_any lacks_offsets (map seen items)) (folded_by ways.AsBag (in_order opening) (map seen items)) (folded_by ways.ByPlaces opening (map seen items))) (sym (skips ∙ any_mapped is_skip items) ∙ on)

pub by_bag : (opening : List Plain) (items : List (ℕ × Datum)) (s o : Bool) → s ≡ list_any (λ (i : ℕ × Datum). is_skip (plain i.1)) items → s ≡ false → o ≡ list_any (λ (i : ℕ × Datum). lacks_offsets (plain i.1)) items → o ≡ true
    → folded_by ways.AsBag (in_order opening) (map seen items) ≡ folded opening (map seen items)
by_bag opening items s o skips off lacks on =
    bag_taken (list_any is_skip (map seen items)) (list_any lacks_offsets (map seen items)) (folded_by ways.AsBag (in_order opening) (map seen items)) (folded_by ways.ByPlaces opening (map seen items))
    (sym (skips ∙ any_mapped is_skip items) ∙ off) (sym (lacks ∙ any_mapped lacks_offsets items) ∙ on)

pub by_list : (opening values : List Plain) (items : List (ℕ × Datum)) (s o : Bool) → s ≡ list_any (λ (i : ℕ × Datum). is_skip (plain i.1)) items → s ≡ false → o ≡ list_any (λ (i : ℕ × Datum). lacks_offsets (plain i.1)) items → o ≡ false
    → values ≡ opening → folded_by ways.ByPlaces values (map seen items) ≡ folded opening (map seen items)
by_list opening values items s o skips off lacks none same_values =
    ap (λ (t : List Plain). folded_by ways.ByPlaces t (map seen items)) same_values
    ∙ list_taken (list_any is_skip (map seen items)) (list_any lacks_offsets (map seen items)) (folded_by ways.AsBag (in_order opening) (map seen items)) (folded_by ways.ByPlaces opening (map seen items))
    (sym (skips ∙ any_mapped is_skip items) ∙ off) (sym (lacks ∙ any_mapped lacks_offsets items) ∙ none)

at_place : (way : Way) (vs : List Plain) (items : List (ℕ × Datum)) (k : ℕ) (item : ℕ × Datum) → k < length items → item ≡ get_or items k item
    → folded_by way vs (map seen (drop k items)) ≡ option_and_then (λ (ws : List Plain). folded_by way ws (map seen (drop (suc k) items))) (step way vs (plain item.1))
at_place way vs items k item h is =
    ap (λ (t : List (ℕ × Datum)). folded_by way vs (map seen t)) (drop-cons items k item h)
    ∙ ap (λ (t : ℕ × Datum). option_and_then (λ (ws : List Plain). folded_by way ws (map seen (drop (suc k) items))) (step way vs (plain t.1))) (sym is)

pub one_folded : (way : Way) (goes : Bool) (vs ws : List Plain) (all : Option (List Plain)) (items : List (ℕ × Datum)) (k : ℕ) (item : ℕ × Datum) → k < length items → item ≡ get_or items k item
    → cond goes (Some ws) None ≡ step way vs (plain item.1) → goes ≡ true → folded_by way vs (map seen (drop k items)) ≡ all → folded_by way ws (map seen (drop (k + 1) items)) ≡ all
one_folded way true vs ws all items k item h is taken on so_far =
    rw add-one (ap (option_and_then (λ (us : List Plain). folded_by way us (map seen (drop (suc k) items)))) taken ∙ sym (at_place way vs items k item h is) ∙ so_far)
one_folded way false vs ws all items k item h is taken on so_far = cc

pub not_folded : (way : Way) (goes : Bool) (vs ws : List Plain) (all : Option (List Plain)) (items : List (ℕ × Datum)) (k : ℕ) (item : ℕ × Datum) → k < length items → item ≡ get_or items k item
    → cond goes (Some ws) None ≡ step way vs (plain item.1) → goes ≡ false → folded_by way vs (map seen (drop k items)) ≡ all → None ≡ all
not_folded way true vs ws all items k item h is taken off so_far = cc
not_folded way false vs ws all items k item h is taken off so_far =
    ap (option_and_then (λ (us : List Plain). folded_by way us (map seen (drop (suc k) items)))) taken ∙ sym (at_place way vs items k item h is) ∙ so_far

pub all_folded : (way : Way) (vs : List Plain) (all : Option (List Plain)) (items : List (ℕ × Datum)) (k : ℕ) → length items ≤ k → folded_by way vs (map seen (drop k items)) ≡ all → Some vs ≡ all
all_folded way vs all items k h so_far = sym (ap (λ (t : List (ℕ × Datum)). folded_by way vs (map seen t)) (drop_all k items h)) ∙ so_far

-- the same documents
decides : (a b : Plain) → (same a b ≡ true → a ≡ b) × (a ≡ b → same a b ≡ true)
decides a b = (same_is a b, λ e. subst (λ (t : Plain). same a t ≡ true) e (same_itself a))

pointwise_seen : (xs ys : List Datum) → pointwise (eq_by_cmp (on plain order)) xs ys ≡ pointwise same (map plain xs) (map plain ys)
pointwise_seen [] [] = refl
pointwise_seen [] (y ∷ ys) = refl
pointwise_seen (x ∷ xs) [] = refl
pointwise_seen (x ∷ xs) (y ∷ ys) = ap (λ (b : Bool). same (plain x) (plain y) && b) (pointwise_seen xs ys)

pub equal_seen : (xs ys : List Datum) (r : Bool) → r ≡ pointwise (eq_by_cmp (on plain order)) xs ys → (r ≡ true → map plain xs ≡ map plain ys) × (map plain xs ≡ map plain ys → r ≡ true)
equal_seen xs ys r e = slice_eq-Decides decides (map plain xs) (map plain ys) r (e ∙ pointwise_seen xs ys)

-- the answer, by what is folded
some_is : {A : Type 0} (x y : A) → Some x ≡ Some y → x ≡ y
some_is x y e = cc

pub answered : (r : Bool) (vs ws us : List Plain) (folded : Option (List Plain)) → Some vs ≡ folded → us ≡ ws → (r ≡ true → vs ≡ us) × (vs ≡ us → r ≡ true) → (r ≡ true → folded ≡ Some ws) × (folded ≡ Some ws → r ≡ true)
answered r vs ws us folded is same_list h = (λ e. sym is ∙ ap Some (h.0 e ∙ same_list), λ e. h.1 (some_is vs ws (is ∙ e) ∙ sym same_list))

pub unanswered : (ws : List Plain) (folded : Option (List Plain)) → None ≡ folded → (false ≡ true → folded ≡ Some ws) × (folded ≡ Some ws → false ≡ true)
unanswered ws folded is = (λ e. absurd (cc), λ e. absurd (let f : None ≡ Some ws = is ∙ e in cc))
