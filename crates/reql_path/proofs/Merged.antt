-- One walk over two objects by rising names merges them.
use Rattle.std.proofs.Common.{◌≡◌, List, [], ◌∷◌, ◌++◌, Option, Some, None, Less, Equal, Greater, refl, sym, ap, ◌∙◌}
use Rattle.std.specs.List.{AllByRecursion}
use Rattle.std.specs.List.Sorted.{IsStrictlySortedBy}
use Rattle.std.specs.Map.{keys_of}
use Rattle.std.specs.Ordering.{ordering_reverse}
use Rattle.std.proofs.lemmas.Cmp.{nat_list_cmp_total, tied_itself}
use Rattle.reql_datum.specs.Members.{AreRising, text_order, find, put}
use Rattle.reql_datum.specs.Plain.{Plain, Pairs, no_pairs, pair, pairs_of}
use Rattle.reql_datum.proofs.Members.{put_step, find_gap, without_gap, rising_put, rising_without, rising_rest}
use Rattle.reql_datum.proofs.Finds.{equal_texts}
use Rattle.reql_rules.specs.Lists.{Bytes}
use Rattle.reql_rules.specs.Merging.{merged, merged_pairs, set_to}
use Rattle.reql_path.specs.Building.{put_also, member_also}
use Rattle.reql_path.proofs.Resolved.{put_also_step}

-- the names of an object are all above j
abbrev pub AllAbove : Bytes → List (Bytes × Plain) → Type 0
AllAbove j ms = AllByRecursion (λ y. text_order j y ≡ Less) (keys_of ms)

pub above_rest : (m : Bytes × Plain) (ms : List (Bytes × Plain)) → AreRising (m ∷ ms) → AllAbove m.0 ms
unfolding IsStrictlySortedBy
above_rest m ms up = up.0

all_above : (j k : Bytes) (ms : List (Bytes × Plain)) → text_order j k ≡ Less → AllAbove k ms → AllAbove j ms
all_above j k [] h all = tt
all_above j k (m ∷ ms) h all = (nat_list_cmp_total.trans j k m.0 h all.0, all_above j k ms h all.1)

pub above_next : (j : Bytes) (m : Bytes × Plain) (ms : List (Bytes × Plain)) → text_order j m.0 ≡ Less → AreRising (m ∷ ms) → AllAbove j (m ∷ ms)
above_next j m ms h up = (h, all_above j m.0 ms h (above_rest m ms up))

pub flipped : (j k : Bytes) → text_order j k ≡ Less → text_order k j ≡ Greater
flipped j k h = nat_list_cmp_total.antisymm k j ∙ ap ordering_reverse h

set_past : (k j : Bytes) (o : Option Plain) (u : Plain) (us : List (Bytes × Plain)) → text_order k j ≡ Greater → set_to k o ((j, u) ∷ us) ≡ (j, u) ∷ set_to k o us
set_past k j None u us h = rw h refl
set_past k j (Some v) u us h = rw h refl

find_past : (k j : Bytes) (u : Plain) (us : List (Bytes × Plain)) → text_order k j ≡ Greater → find k ((j, u) ∷ us) ≡ find k us
find_past k j u us h = rw h refl

-- a name below all the new ones is kept
pub keeps_first : (j : Bytes) (u : Plain) (us ms : List (Bytes × Plain)) → AllAbove j ms → merged_pairs (pairs_of ms) ((j, u) ∷ us) ≡ (j, u) ∷ merged_pairs (pairs_of ms) us
keeps_first j u us [] all = refl
keeps_first j u us (m ∷ ms) all =
    let past : text_order m.0 j ≡ Greater = flipped j m.0 all.0 in
    ap (merged_pairs (pairs_of ms)) (ap (λ f. set_to m.0 (merged m.1 f) ((j, u) ∷ us)) (find_past m.0 j u us past) ∙ set_past m.0 j (merged m.1 (find m.0 us)) u us past)
    ∙ keeps_first j u (set_to m.0 (merged m.1 (find m.0 us)) us) ms all.1

rising_set : (k : Bytes) (o : Option Plain) (us : List (Bytes × Plain)) → AreRising us → AreRising (set_to k o us)
rising_set k None us up = rising_without k us up
rising_set k (Some v) us up = rising_put k v us up

pub rising_merged : (ms : Pairs) (us : List (Bytes × Plain)) → AreRising us → AreRising (merged_pairs ms us)
rising_merged no_pairs us up = up
rising_merged (pair k v ms) us up = rising_merged ms (set_to k (merged v (find k us)) us) (rising_set k (merged v (find k us)) us up)

-- the new name stands in front of the old ones
also_first : (k : Bytes) (o : Option Plain) (us ms : List (Bytes × Plain)) → AllAbove k ms → merged_pairs (pairs_of ms) (member_also k o us) ≡ member_also k o (merged_pairs (pairs_of ms) us)
also_first k None us ms all = refl
also_first k (Some v) us ms all = keeps_first k v us ms all

set_gap : (k : Bytes) (o : Option Plain) (us : List (Bytes × Plain)) → AreRising us → AllAbove k us → set_to k o us ≡ member_also k o us
set_gap k None [] up all = refl
set_gap k (Some v) [] up all = refl
set_gap k None (m ∷ us) up all = without_gap (m ∷ us) k (find_gap (m ∷ us) k 0 up all.0)
set_gap k (Some v) (m ∷ us) up all = rw (all.0) refl

find_above : (k : Bytes) (us : List (Bytes × Plain)) → AreRising us → AllAbove k us → find k us ≡ None
find_above k [] up all = refl
find_above k (m ∷ us) up all = find_gap (m ∷ us) k 0 up all.0

set_hit : (k : Bytes) (o : Option Plain) (u : Plain) (us : List (Bytes × Plain)) → set_to k o ((k, u) ∷ us) ≡ member_also k o us
set_hit k None u us = rw (tied_itself nat_list_cmp_total k) refl
set_hit k (Some v) u us = rw (tied_itself nat_list_cmp_total k) refl

find_hit : (k : Bytes) (u : Plain) (us : List (Bytes × Plain)) → find k ((k, u) ∷ us) ≡ Some u
find_hit k u us = rw (tied_itself nat_list_cmp_total k) refl

-- a name in the new object alone, and one in both
pub merges_alone : (k : Bytes) (v : Plain) (us ms : List (Bytes × Plain)) → AreRising us → AllAbove k us → AllAbove k ms
    → merged_pairs (pairs_of ((k, v) ∷ ms)) us ≡ member_also k (merged v None) (merged_pairs (pairs_of ms) us)
merges_alone k v us ms up above all =
    ap (λ f. merged_pairs (pairs_of ms) (set_to k (merged v f) us)) (find_above k us up above)
    ∙ ap (merged_pairs (pairs_of ms)) (set_gap k (merged v None) us up above)
    ∙ also_first k (merged v None) us ms all

pub merges_both : (k : Bytes) (v u : Plain) (us ms : List (Bytes × Plain)) → AllAbove k ms
    → merged_pairs (pairs_of ((k, v) ∷ ms)) ((k, u) ∷ us) ≡ member_also k (merged v (Some u)) (merged_pairs (pairs_of ms) us)
merges_both k v u us ms all =
    ap (λ f. merged_pairs (pairs_of ms) (set_to k (merged v f) ((k, u) ∷ us))) (find_hit k u us)
    ∙ ap (merged_pairs (pairs_of ms)) (set_hit k (merged v (Some u)) u us)
    ∙ also_first k (merged v (Some u)) us ms all

-- ---- the walk: what is merged, and what is left to be merged, is all
pub record Merges (done us ms all : List (Bytes × Plain)) : Type 0 where
  pub adds_up : done ++ merged_pairs (pairs_of ms) us ≡ all
  pub rising_old : AreRising us
  pub rising_new : AreRising ms
  pub rising_all : AreRising all

pub merges_start : (us ms : List (Bytes × Plain)) → AreRising us → AreRising ms → Merges [] us ms (merged_pairs (pairs_of ms) us)
merges_start us ms up on = record { adds_up = refl; rising_old = up; rising_new = on; rising_all = rising_merged (pairs_of ms) us up }

pub merges_old : (done us ms all rest : List (Bytes × Plain)) (j : Bytes) (u : Plain) → us ≡ (j, u) ∷ rest → AllAbove j ms → Merges done us ms all → Merges (put j u done) rest ms all
merges_old done us ms all rest j u is above m =
    let up : AreRising ((j, u) ∷ rest) = rw is at m.rising_old in
    let next : merged_pairs (pairs_of ms) us ≡ (j, u) ∷ merged_pairs (pairs_of ms) rest = rw is (keeps_first j u rest ms above) in
    record {
      adds_up = put_step done (merged_pairs (pairs_of ms) rest) all j u m.rising_all (ap (λ t. done ++ t) (sym next) ∙ m.adds_up);
      rising_old = rising_rest (j, u) rest up;
      rising_new = m.rising_new;
      rising_all = m.rising_all;
    }

pub merges_less : (done us ms all rest later : List (Bytes × Plain)) (j k : Bytes) (u v : Plain) → us ≡ (j, u) ∷ rest → ms ≡ (k, v) ∷ later → text_order j k ≡ Less → Merges done us ms all → Merges (put j u done) rest ms all
merges_less done us ms all rest later j k u v is at below m =
    let on : AreRising ((k, v) ∷ later) = rw at at m.rising_new in
    let above : AllAbove j ms = rw at (above_next j (k, v) later below on) in
    merges_old done us ms all rest j u is above m

pub merges_left : (done us ms all rest : List (Bytes × Plain)) (j : Bytes) (u : Plain) → us ≡ (j, u) ∷ rest → ms ≡ [] → Merges done us ms all → Merges (put j u done) rest ms all
merges_left done us ms all rest j u is at m =
    let above : AllAbove j ms = rw at tt in
    merges_old done us ms all rest j u is above m

pub merges_new : (done us ms all later : List (Bytes × Plain)) (k : Bytes) (v : Plain) (o : Option Plain) → ms ≡ (k, v) ∷ later → AllAbove k us → o ≡ merged v None → Merges done us ms all → Merges (put_also k o done) us later all
merges_new done us ms all later k v o at above e m =
    let on : AreRising ((k, v) ∷ later) = rw at at m.rising_new in
    let next : merged_pairs (pairs_of ms) us ≡ member_also k o (merged_pairs (pairs_of later) us) =
    rw (at, e) (merges_alone k v us later m.rising_old above (above_rest (k, v) later on)) in
    record {
      adds_up = put_also_step done (merged_pairs (pairs_of later) us) all k o m.rising_all (ap (λ t. done ++ t) (sym next) ∙ m.adds_up);
      rising_old = m.rising_old;
      rising_new = rising_rest (k, v) later on;
      rising_all = m.rising_all;
    }

pub merges_greater : (done us ms all rest later : List (Bytes × Plain)) (j k : Bytes) (u v : Plain) (o : Option Plain) → us ≡ (j, u) ∷ rest → ms ≡ (k, v) ∷ later → text_order j k ≡ Greater → o ≡ merged v None
    → Merges done us ms all → Merges (put_also k o done) us later all
merges_greater done us ms all rest later j k u v o is at above e m =
    let up : AreRising ((j, u) ∷ rest) = rw is at m.rising_old in
    let below : text_order k j ≡ Less = nat_list_cmp_total.antisymm k j ∙ ap ordering_reverse above in
    let all_up : AllAbove k us = rw is (above_next k (j, u) rest below up) in
    merges_new done us ms all later k v o at all_up e m

pub merges_added : (done us ms all later : List (Bytes × Plain)) (k : Bytes) (v : Plain) (o : Option Plain) → us ≡ [] → ms ≡ (k, v) ∷ later → o ≡ merged v None → Merges done us ms all → Merges (put_also k o done) us later all
merges_added done us ms all later k v o is at e m =
    let above : AllAbove k us = rw is tt in
    merges_new done us ms all later k v o at above e m

pub merges_equal : (done us ms all rest later : List (Bytes × Plain)) (j k : Bytes) (u v : Plain) (o : Option Plain) → us ≡ (j, u) ∷ rest → ms ≡ (k, v) ∷ later → text_order j k ≡ Equal → o ≡ merged v (Some u)
    → Merges done us ms all → Merges (put_also k o done) rest later all
merges_equal done us ms all rest later j k u v o is at equal e m =
    let same : j ≡ k = equal_texts j k equal in
    let old_is : us ≡ (k, u) ∷ rest = rw is (ap (λ n. (n, u) ∷ rest) same) in
    let up : AreRising ((k, u) ∷ rest) = rw old_is at m.rising_old in
    let on : AreRising ((k, v) ∷ later) = rw at at m.rising_new in
    let next : merged_pairs (pairs_of ms) us ≡ member_also k o (merged_pairs (pairs_of later) rest) =
    rw (at, old_is, e) (merges_both k v u rest later (above_rest (k, v) later on)) in
    record {
      adds_up = put_also_step done (merged_pairs (pairs_of later) rest) all k o m.rising_all (ap (λ t. done ++ t) (sym next) ∙ m.adds_up);
      rising_old = rising_rest (k, u) rest up;
      rising_new = rising_rest (k, v) later on;
      rising_all = m.rising_all;
    }
