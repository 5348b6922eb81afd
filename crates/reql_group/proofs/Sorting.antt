-- Sorting pairs by their groups changes no group.
use Rattle.std.proofs.Common.{◌≡◌, refl, sym, ap, ◌∙◌, Bool, not, ◌&&◌, List, [], ◌∷◌, map, Ordering, Less, Equal, Greater}
use Rattle.std.specs.Cmp.{IsStrictWeakOrder}
use Rattle.std.specs.Ordering.{is_eq, is_lt, ordering_reverse}
use Rattle.std.specs.List.{filter}
use Rattle.std.specs.List.Sorted.{IsSortedBy, IsStableBy, ties}
use Rattle.std.proofs.lemmas.List.Sorted.{ranks_by}
use Rattle.reql_datum.specs.Order.{order}
use Rattle.reql_datum.specs.Plain.{Plain, null}
use Rattle.reql_datum.specs.Total.{order_total}
use Rattle.reql_datum.proofs.Laws.{equal_is}
use Rattle.reql_memory.proofs.Same.{same_found}
use Rattle.reql_rules.specs.Grouping.{gather}
use Rattle.reql_rules.specs.Laws.{of_group, if_some}
use Rattle.reql_rules.specs.Sorting.{sorted}
use Rattle.reql_rules.specs.Types.{same}
use Rattle.reql_rules.proofs.Groups.{hold_each_once}
use Rattle.reql_rules.proofs.Stable.{Rising, rising_sorted, keeps_ties, is_sorted, map_sorted}
use Rattle.reql_group.specs.Gathered.{by_group, Rises, RisesFrom}
use Rattle.reql_group.specs.Seen.{pair_seen}
use Rattle.reql_group.specs.declared.gathering.Pair.{Pair}

-- pairs stand in the order of their groups, as `seen` of something
pub group_ranks : {X : Type 0} (seen : X → Plain × Plain) → IsStrictWeakOrder (λ x y. is_lt (by_group (seen x) (seen y)))
group_ranks seen = ranks_by order_total (λ x. (seen x).0)

weak : IsStrictWeakOrder (λ p q. is_lt (by_group p q))
weak = group_ranks (λ p. p)

abbrev below : Plain × Plain → Plain × Plain → Bool
below p q = is_lt (by_group p q)

-- what ties with a group is of it
tied_at : (o : Ordering) → not (is_lt o) && not (is_lt (ordering_reverse o)) ≡ is_eq o
tied_at Less = refl
tied_at Equal = refl
tied_at Greater = refl

tied : (g : Plain) (p : Plain × Plain) → ties below (g, null) p ≡ same g p.0
tied g p = rw (order_total.antisymm p.0 g) (tied_at (order g p.0))

of_tied : (g : Plain) (ps : List (Plain × Plain)) → filter (ties below (g, null)) ps ≡ filter (λ p. same g p.0) ps
of_tied g [] = refl
of_tied g (p ∷ ps) = rw (tied g p, of_tied g ps) refl

of_sorted : (g : Plain) (ps : List (Plain × Plain)) → of_group g (sorted by_group ps) ≡ of_group g ps
of_sorted g ps = ap (map (λ p. p.1)) (sym (of_tied g (sorted by_group ps)) ∙ keeps_ties by_group weak ps (g, null) ∙ of_tied g ps)

pub gather_sorted : (ps : List (Plain × Plain)) → gather (sorted by_group ps) ≡ gather ps
gather_sorted ps =
    let there = hold_each_once (sorted by_group ps) in
    let here = hold_each_once ps in
    same_found order order_total (λ j k h. (equal_is j k).0 h) (gather (sorted by_group ps)) (gather ps) there.0 here.0 (λ g. there.1 g ∙ ap if_some (of_sorted g ps) ∙ sym (here.1 g))

-- what is sorted rises
rises_from : (p : Plain × Plain) (ps : List (Plain × Plain)) → Rising by_group weak (p ∷ ps) → RisesFrom p.0 ps
rises_from p [] up = tt
rises_from p (q ∷ qs) up = (up.0.0, rises_from q qs up.1)

pub sorted_rises : (ps : List (Plain × Plain)) → Rises (sorted by_group ps)
sorted_rises ps = from (sorted by_group ps) (rising_sorted by_group weak ps) where
  from : (qs : List (Plain × Plain)) → Rising by_group weak qs → Rises qs
  from [] up = tt
  from (q ∷ qs) up = rises_from q qs up

-- what a stable sort leaves
abbrev pub before : Pair → Pair → Bool
before p q = is_lt (by_group (pair_seen p) (pair_seen q))

pub sorted_pairs : (ps qs : List Pair) → IsSortedBy before qs → IsStableBy before ps qs → map pair_seen qs ≡ sorted by_group (map pair_seen ps)
sorted_pairs ps qs s t = ap (map pair_seen) (is_sorted (λ p q. by_group (pair_seen p) (pair_seen q)) (group_ranks pair_seen) ps qs s t) ∙ map_sorted pair_seen by_group ps
