-- Groups that rise.
use Rattle.std.proofs.Common.{◌≡◌, Bool, true, false, if◌then◌else◌, List, [], ◌∷◌, ◌++◌, map, Less, Greater}
use Rattle.std.proofs.lemmas.List.{map-append}
use Rattle.std.specs.List.{AllByRecursion}
use Rattle.std.specs.List.Sorted.{IsStrictlySortedBy}
use Rattle.std.specs.Map.{keys_of}
use Rattle.reql_datum.specs.Order.{order}
use Rattle.reql_datum.specs.Plain.{Plain}
use Rattle.reql_datum.specs.Total.{order_total}
use Rattle.reql_memory.specs.Sorted.{AreRisingBy, AllBelowBy, AreBelowBy}
use Rattle.reql_memory.proofs.Sorted.{rising_nil, above_flip, below_flip}
use Rattle.reql_memory.proofs.Joined.{rising_joined, all_joined}
use Rattle.reql_datum.specs.View.{plain}
use Rattle.reql_group.specs.Seen.{group_seen}
use Rattle.reql_group.specs.declared.grouped.Grouped.{Grouped}

below_one : (k : Plain) (v : Plain) (gs : List (Plain × Plain)) → AllBelowBy order k gs → AreBelowBy order gs ((k, v) ∷ [])
below_one k v [] all = tt
below_one k v (g ∷ gs) all = ((above_flip order order_total g.0 k all.0, tt), below_one k v gs all.1)

one_rises : (k : Plain) (v : Plain) → AreRisingBy order ((k, v) ∷ [])
unfolding IsStrictlySortedBy
one_rises k v = (tt, tt)

-- groups rise with a greater one at the end
pub pushed_rises : (gs : List (Plain × Plain)) (k : Plain) (v : Plain) → AreRisingBy order gs → AllBelowBy order k gs → AreRisingBy order (gs ++ (k, v) ∷ [])
pushed_rises gs k v up all = rising_joined order order_total gs ((k, v) ∷ []) up (one_rises k v) (below_one k v gs all)

pub none_rise : AreRisingBy order {V = Plain} []
none_rise = rising_nil order order_total Plain

pub push_keeps : (pushed : Bool) (old new : List Grouped) (entry : Grouped) → AreRisingBy order (map group_seen old) → AllBelowBy order (plain entry.group) (map group_seen old)
    → new ≡ (if pushed then old ++ entry ∷ [] else old) → AreRisingBy order (map group_seen new)
push_keeps true old new entry up all is = rw (is, map-append group_seen old (entry ∷ [])) (pushed_rises (map group_seen old) (plain entry.group) (plain entry.datum) up all)
push_keeps false old new entry up all is = rw is up

-- what is below a group is below those above it
below_more : (j k : Plain) (gs : List (Plain × Plain)) → order k j ≡ Greater → AllBelowBy order j gs → AllBelowBy order k gs
below_more j k [] h all = tt
below_more j k (g ∷ gs) h all =
    (below_flip order order_total k g.0 (order_total.trans g.0 j k (above_flip order order_total g.0 j all.0) (above_flip order order_total j k h)), below_more j k gs h all.1)

-- all that were there, and the group that was added, are below the next
pub next_above : (gs : List (Plain × Plain)) (j k : Plain) (v : Plain) → AllBelowBy order j gs → order k j ≡ Greater → AllBelowBy order k (gs ++ (j, v) ∷ [])
next_above gs j k v all h = all_joined (λ x. order k x ≡ Greater) gs ((j, v) ∷ []) (below_more j k gs h all) (h, tt)

-- of keys that rise, those before one are below it
among : (P : Plain → Type 0) (ds : List Plain) (k : Plain) (ks : List Plain) → AllByRecursion P (ds ++ k ∷ ks) → P k
among P [] k ks all = all.0
among P (d ∷ ds) k ks all = among P ds k ks all.1

below_next : (ds : List Plain) (k : Plain) (ks : List Plain) → IsStrictlySortedBy order (ds ++ k ∷ ks) → AllByRecursion (λ x. order k x ≡ Greater) ds
unfolding IsStrictlySortedBy
below_next [] k ks up = tt
below_next (d ∷ ds) k ks up = (below_flip order order_total k d (among (λ y. order d y ≡ Less) ds k ks up.0), below_next ds k ks up.1)

-- where the groups of one list are made again in turn, the next is above those that are made
pub next_again : (made : List (Plain × Plain)) (k v : Plain) (rest all : List (Plain × Plain)) → keys_of made ++ keys_of ((k, v) ∷ rest) ≡ keys_of all → AreRisingBy order all → AllBelowBy order k made
next_again made k v rest all is up = below_next (keys_of made) k (keys_of rest) (rw is up)
