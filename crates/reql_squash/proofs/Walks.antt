-- Walks over items.
use Rattle.std.proofs.Common.{◌≡◌, ℕ, zero, suc, ◌+◌, ◌-◌, ◌<◌, max, List, [], ◌∷◌, ◌++◌, length, map, drop, slice_get, Option, Some, None, option_map, MatchOption, Bool, true, false, cond, codes, refl, sym, ap, ◌∙◌, arith, append_assoc, add-one}
use Rattle.std.proofs.lemmas.List.{map-append}
use Rattle.std.specs.Option.{option_and_then}
use Rattle.reql_datum.specs.Plain.{Plain}
use Rattle.reql_datum.specs.View.{plain}
use Rattle.reql_datum.specs.declared.datum.Datum.{Datum}
use Rattle.reql_bag.specs.Bag.{in_order, less_all}
use Rattle.reql_rules.specs.Types.{same, is_null}
use Rattle.reql_datum.proofs.Back.{listed_back}
use Rattle.reql_datum.specs.declared.datum.Datum.TheVariants as datums
use Rattle.reql_feed_spec.specs.declared.kind.FeedKind.{FeedKind}
use Rattle.reql_feed_spec.specs.Feeds.{bare, last_stamp, net, net_differences}
use Rattle.reql_feed_spec.specs.Items.{Difference, of_values, paired, present, point_items}
use Rattle.reql_feed_spec.specs.Net.{olds, news, last_new, point_net, listed}
use Rattle.reql_feed_spec.specs.Shown.{or_null, read}
use Rattle.reql_squash.specs.Told.{items_seen, told, side_of, sides_of, members_net, group_net, groups_net}

pub olds_heard : (vs : List Plain) → olds (map read vs) ≡ sides_of (codes "old_val") vs
olds_heard [] = refl
olds_heard (v ∷ vs) = ap (λ (t : List Plain). listed (side_of (codes "old_val") v) ++ t) (olds_heard vs)

pub news_heard : (vs : List Plain) → news (map read vs) ≡ sides_of (codes "new_val") vs
news_heard [] = refl
news_heard (v ∷ vs) = ap (λ (t : List Plain). listed (side_of (codes "new_val") v) ++ t) (news_heard vs)

pub bare_is : (items : List (ℕ × Datum)) → bare (items_seen items) ≡ map (λ (p : ℕ × Datum). plain p.1) items
bare_is [] = refl
bare_is (i ∷ is) = ap (λ (t : List Plain). plain i.1 ∷ t) (bare_is is)

-- what is told of two lists in pairs, one place after another
right_step : (p : ℕ) (cs : List Plain) → p < length cs → paired [] (drop p cs) ≡ of_values None (slice_get cs p) ∷ paired [] (drop (suc p) cs)
right_step p [] h = absurd (omega arith)
right_step zero (c ∷ cs) h = refl
right_step (suc p) (c ∷ cs) h = right_step p cs (omega arith)

left_step : (p : ℕ) (ls : List Plain) → p < length ls → paired (drop p ls) [] ≡ of_values (slice_get ls p) None ∷ paired (drop (suc p) ls) []
left_step p [] h = absurd (omega arith)
left_step zero (l ∷ ls) h = refl
left_step (suc p) (l ∷ ls) h = left_step p ls (omega arith)

pair_step : (p : ℕ) (ls cs : List Plain) → p < max (length ls) (length cs) → paired (drop p ls) (drop p cs) ≡ of_values (slice_get ls p) (slice_get cs p) ∷ paired (drop (suc p) ls) (drop (suc p) cs)
pair_step zero [] [] h = absurd (omega arith)
pair_step zero [] (c ∷ cs) h = refl
pair_step zero (l ∷ ls) [] h = refl
pair_step zero (l ∷ ls) (c ∷ cs) h = refl
pair_step (suc p) [] [] h = absurd (omega arith)
pair_step (suc p) [] (c ∷ cs) h = right_step p cs (omega arith)
pair_step (suc p) (l ∷ ls) [] h = left_step p ls (omega arith)
pair_step (suc p) (l ∷ ls) (c ∷ cs) h = pair_step p ls cs (omega arith)

pub pairs_on : (stamp : ℕ) (types : Bool) (p : ℕ) (ls cs : List Plain) (o n : Option Plain) (before after all : List (ℕ × Plain)) → p < max (length ls) (length cs) → o ≡ slice_get ls p → n ≡ slice_get cs p
    → after ≡ before ++ told stamp types (of_values o n ∷ []) → before ++ told stamp types (paired (drop p ls) (drop p cs)) ≡ all
    → after ++ told stamp types (paired (drop (p + 1) ls) (drop (p + 1) cs)) ≡ all
pairs_on stamp types p ls cs o n before after all h old new now so_far =
    let rest : List (ℕ × Plain) = told stamp types (paired (drop (suc p) ls) (drop (suc p) cs)) in
    let step : told stamp types (paired (drop p ls) (drop p cs)) ≡ told stamp types (of_values o n ∷ []) ++ rest = ap (told stamp types) (pair_step p ls cs h) ∙ rw (old, new) refl in
    rw (add-one, now) (append_assoc before (told stamp types (of_values o n ∷ [])) rest ∙ ap (λ (t : List (ℕ × Plain)). before ++ t) (sym step) ∙ so_far)

-- one group more
pub groups_on : (stamp : ℕ) (types : Bool) (g : Plain × Plain) (p : ℕ) (gs : List (Plain × Plain)) (before after all : List (ℕ × Plain)) → drop p gs ≡ g ∷ drop (p + 1) gs
    → after ≡ before ++ told stamp types (group_net g.1) → before ++ told stamp types (groups_net (drop p gs)) ≡ all
    → after ++ told stamp types (groups_net (drop (p + 1) gs)) ≡ all
groups_on stamp types g p gs before after all is now so_far =
    let rest : List Difference = groups_net (drop (p + 1) gs) in
    let step : told stamp types (groups_net (drop p gs)) ≡ told stamp types (group_net g.1) ++ told stamp types rest = ap (λ (t : List (Plain × Plain)). told stamp types (groups_net t)) is ∙ map-append _ (group_net g.1) rest in
    rw now (append_assoc before (told stamp types (group_net g.1)) (told stamp types rest) ∙ ap (λ (t : List (ℕ × Plain)). before ++ t) (sym step) ∙ so_far)

some_of : {X : Type 0} (x y : X) → Some x ≡ Some y → x ≡ y
some_of x y h = cc

there : {X : Type 0} (x : X) (xs : List X) → None ≡ slice_get (x ∷ xs) (length xs) → ⊥
there x [] h = absurd (let f : None ≡ Some x = h in cc)
there x (y ∷ ys) h = there y ys h

-- the last of some items
last_at : (i : ℕ × Datum) (is : List (ℕ × Datum)) (p : ℕ × Datum) → Some p ≡ slice_get (i ∷ is) (length is) → last_stamp (items_seen (i ∷ is)) ≡ p.0
last_at i [] p h = ap (λ (t : ℕ × Datum). t.0) (sym (some_of p i h))
last_at i (j ∷ is) p h = last_at j is p h

pub last_is : {R : Type 0} (f : R → ℕ × Datum) (items : List (ℕ × Datum)) (r : Option R) (n : ℕ) → n ≡ length items - 1 → option_map f r ≡ slice_get items n
    → MatchOption r (items ≡ []) (λ last. last_stamp (items_seen items) ≡ (f last).0)
last_is f [] None n k h = refl
last_is f [] (Some x) n k h = absurd (let g : Some (f x) ≡ None = h in cc)
last_is f (i ∷ is) None n k h = let e : n ≡ length is = omega (arith, k) in absurd (there i is (rw e at h))
last_is f (i ∷ is) (Some x) n k h = let e : n ≡ length is = omega (arith, k) in last_at i is (f x) (rw e at h)

last_new_is : (v : Plain) (vs : List Plain) (b : Plain) → Some b ≡ slice_get (v ∷ vs) (length vs) → last_new (read v) (map read vs) ≡ (read b).new
last_new_is v [] b h = ap (λ (t : Plain). (read t).new) (sym (some_of b v h))
last_new_is v (w ∷ ws) b h = last_new_is w ws b h

pub ends_some : (vs : List Plain) (a b : Plain) (n : ℕ) → n ≡ length vs - 1 → slice_get vs 0 ≡ Some a → Some b ≡ slice_get vs n
    → point_net (map read vs) ≡ point_items (or_null (read a).old) (or_null (read b).new)
ends_some [] a b n k h g = absurd (let f : None ≡ Some a = h in cc)
ends_some (v ∷ vs) a b n k h g =
    let e : n ≡ length vs = omega (arith, k) in
    let first : v ≡ a = some_of v a h in
    let last : last_new (read v) (map read vs) ≡ (read b).new = last_new_is v vs b (rw e at g) in
    ap (λ (t : Option Plain). point_items (or_null (read v).old) (or_null t)) last ∙ ap (λ (t : Plain). point_items (or_null (read t).old) (or_null (read b).new)) first

pub ends_none : (vs : List Plain) (a : Plain) (n : ℕ) → n ≡ length vs - 1 → slice_get vs 0 ≡ Some a → None ≡ slice_get vs n → ⊥
ends_none [] a n k h g = absurd (let f : None ≡ Some a = h in cc)
ends_none (v ∷ vs) a n k h g = let e : n ≡ length vs = omega (arith, k) in there v vs (rw e at g)

-- what left and what came of items that are counted together
pub parted_net : (ms os ns olds_up news_up left came : List Plain) → os ≡ sides_of (codes "old_val") ms → ns ≡ sides_of (codes "new_val") ms → olds_up ≡ in_order os → news_up ≡ in_order ns
    → left ≡ less_all olds_up news_up → came ≡ less_all news_up olds_up → paired left came ≡ members_net ms
parted_net ms os ns olds_up news_up left came o n ou nu l c =
    let old : olds_up ≡ in_order (olds (map read ms)) = ou ∙ ap in_order (o ∙ sym (olds_heard ms)) in
    let new : news_up ≡ in_order (news (map read ms)) = nu ∙ ap in_order (n ∙ sym (news_heard ms)) in
    rw (l, c, old, new) refl

-- what is there is no null
present_at : (v : Plain) (b : Bool) → is_null v ≡ b → present (or_null (cond b None (Some v))) ≡ cond b None (Some v)
present_at v true h = refl
present_at v false h = rw h refl

pub present_side : (o : Option Plain) → present (or_null (option_and_then present o)) ≡ option_and_then present o
present_side None = refl
present_side (Some v) = present_at v (is_null v) refl

point_at : (b : Bool) (v w : Option Plain) → present (or_null v) ≡ v → present (or_null w) ≡ w → b ≡ false → cond b [] (of_values (present (or_null v)) (present (or_null w)) ∷ []) ≡ of_values v w ∷ []
point_at true v w p q h = absurd (let f : true ≡ false = h in cc)
point_at false v w p q h = rw (p, q) refl

pub point_of : (o p : Option Plain) → same (or_null (option_and_then present o)) (or_null (option_and_then present p)) ≡ false
    → point_items (or_null (option_and_then present o)) (or_null (option_and_then present p)) ≡ of_values (option_and_then present o) (option_and_then present p) ∷ []
point_of o p h = point_at (same (or_null (option_and_then present o)) (or_null (option_and_then present p))) (option_and_then present o) (option_and_then present p) (present_side o) (present_side p) h

-- a group's datum is the array of its members
pub group_is : (m : Datum) (vs : List Plain) → datums.List vs ≡ m → members_net vs ≡ group_net (plain m)
group_is m vs is = ap members_net (sym (listed_back vs)) ∙ ap (λ (d : Datum). group_net (plain d)) is

-- what was told is the net
pub net_told : (kind : FeedKind) (types seen : Bool) (stamp last : ℕ) (xs : List (ℕ × Plain)) (ms : List Plain) (out after before : List (ℕ × Datum)) → out ≡ after
    → items_seen after ≡ items_seen before ++ told stamp seen (net_differences kind ms) → before ≡ [] → seen ≡ types → stamp ≡ last → last_stamp xs ≡ last → ms ≡ bare xs → items_seen out ≡ net kind types xs
net_told kind types seen stamp last xs ms out after before o h b t s l m =
    ap items_seen o ∙ h ∙ ap (λ (t : List (ℕ × Datum)). items_seen t ++ told stamp seen (net_differences kind ms)) b
    ∙ ap (λ (n : ℕ). told n seen (net_differences kind ms)) (s ∙ sym l) ∙ ap (λ (b : Bool). told (last_stamp xs) b (net_differences kind ms)) t
    ∙ ap (λ (vs : List Plain). told (last_stamp xs) types (net_differences kind vs)) m
