-- One walk over pairs that rise by their groups gathers them.
use Rattle.std.proofs.Common.{◌≡◌, refl, sym, ap, ◌∙◌, true, false, List, [], ◌∷◌, ◌++◌, map, length, get_or, ◌≤◌, arith, append_assoc, Ordering, Less, Equal, Greater}
use Rattle.std.specs.List.{AllByRecursion}
use Rattle.std.specs.Ordering.{is_eq, is_lt}
use Rattle.std.proofs.lemmas.Cmp.{alike_right, tied_itself}
use Rattle.reql_datum.specs.Order.{order}
use Rattle.reql_datum.specs.Plain.{Plain}
use Rattle.reql_datum.specs.Total.{order_total}
use Rattle.reql_memory.proofs.Sorted.{above_flip, below_flip}
use Rattle.reql_memory.proofs.Finds.{is_equal}
use Rattle.reql_rules.specs.Grouping.{Gathered, joins, gather_on, gather, as_groups}
use Rattle.reql_rules.specs.Lists.{array_of}
use Rattle.reql_rules.specs.Types.{same}
use Rattle.reql_datum.specs.View.{plain}
use Rattle.reql_group.specs.Seen.{pair_seen}
use Rattle.reql_group.specs.declared.gathering.Pair.{Pair}
use Rattle.reql_group.specs.Gathered.{Rises, RisesFrom, Gathers}
use Rattle.reql_group.proofs.Rise.{next_above}

-- the groups of pairs that are all above g
abbrev AllAbove : Plain → List (Plain × Plain) → Type 0
AllAbove g ps = AllByRecursion (λ p. order p.0 g ≡ Greater) ps

above_at : (o : Ordering) (j k g : Plain) → order k j ≡ o → is_lt o ≡ false → order j g ≡ Greater → order k g ≡ Greater
above_at Less j k g is not h = absurd (let f : true ≡ false = not in cc)
above_at Equal j k g is not h = order_total.congr k j g is ∙ h
above_at Greater j k g is not h = below_flip order order_total k g (order_total.trans g j k (above_flip order order_total g j h) (above_flip order order_total j k is))

all_above : (j g : Plain) (ps : List (Plain × Plain)) → order j g ≡ Greater → RisesFrom j ps → AllAbove g ps
all_above j g [] h up = tt
all_above j g (p ∷ ps) h up = let here = above_at (order p.0 j) j p.0 g refl up.0 h in (here, all_above p.0 g ps here up.1)

-- a group below all that are left stays as it is
join_past : (g : Plain) (vs : List Plain) (gs : Gathered) (p : Plain × Plain) → order p.0 g ≡ Greater → joins p.0 p.1 ((g, vs) ∷ gs) ≡ (g, vs) ∷ joins p.0 p.1 gs
join_past g vs gs p h = rw h refl

gather_past : (g : Plain) (vs : List Plain) (gs : Gathered) (ps : List (Plain × Plain)) → AllAbove g ps → gather_on ((g, vs) ∷ gs) ps ≡ (g, vs) ∷ gather_on gs ps
gather_past g vs gs [] all = refl
gather_past g vs gs (p ∷ ps) all = ap (λ hs. gather_on hs ps) (join_past g vs gs p all.0) ∙ gather_past g vs (joins p.0 p.1 gs) ps all.1

join_same : (g : Plain) (vs : List Plain) (p : Plain × Plain) → order p.0 g ≡ Equal → joins p.0 p.1 ((g, vs) ∷ []) ≡ (g, vs ++ p.1 ∷ []) ∷ []
join_same g vs p h = rw h refl

rises_same : (j k : Plain) (ps : List (Plain × Plain)) → order k j ≡ Equal → RisesFrom k ps → RisesFrom j ps
rises_same j k [] h up = tt
rises_same j k (p ∷ ps) h up = (ap is_lt (sym (alike_right order_total k j p.0 h)) ∙ up.0, up.1)

-- before the first pair, the group at hand is its group, without members
pub gathers_start : (p : Plain × Plain) (ps : List (Plain × Plain)) → Rises (p ∷ ps) → Gathers [] p.0 [] (p ∷ ps) (gather (p ∷ ps))
gathers_start p ps up =
    let tied : order p.0 p.0 ≡ Equal = tied_itself order_total p.0 in
    record { below = tt; on = ap (λ gs. as_groups (gather_on gs ps)) (join_same p.0 [] p tied); rising = (ap is_lt tied, up) }

pub gathers_from : (ps : List Pair) (first : Pair) (g : Plain) → 1 ≤ length ps → first ≡ get_or ps 0 first → g ≡ plain first.group → Rises (map pair_seen ps)
    → Gathers [] g [] (map pair_seen ps) (gather (map pair_seen ps))
gathers_from [] first g long here is up = absurd (omega arith)
gathers_from (p ∷ ps) first g long here is up = rw (is, here) (gathers_start (pair_seen p) (map pair_seen ps) up)

pub gathers_same : (out : List (Plain × Plain)) (g : Plain) (vs : List Plain) (p : Plain × Plain) (rest all : List (Plain × Plain)) → same p.0 g ≡ true
    → Gathers out g vs (p ∷ rest) all → Gathers out g (vs ++ p.1 ∷ []) rest all
gathers_same out g vs p rest all is h =
    let e : order p.0 g ≡ Equal = is_equal (order p.0 g) is in record {
      below = h.below;
      on = ap (λ gs. out ++ as_groups (gather_on gs rest)) (sym (join_same g vs p e)) ∙ h.on;
      rising = rises_same g p.0 rest e h.rising.1;
    }

is_above : (o : Ordering) → is_lt o ≡ false → is_eq o ≡ false → o ≡ Greater
is_above Less a b = absurd (let f : true ≡ false = a in cc)
is_above Equal a b = absurd (let f : true ≡ false = b in cc)
is_above Greater a b = refl

pub later_above : (out : List (Plain × Plain)) (g : Plain) (vs : List Plain) (p : Plain × Plain) (rest all : List (Plain × Plain)) → same p.0 g ≡ false
    → Gathers out g vs (p ∷ rest) all → order p.0 g ≡ Greater
later_above out g vs p rest all off h = is_above (order p.0 g) h.rising.0 off

pub gathers_next : (out : List (Plain × Plain)) (g : Plain) (vs : List Plain) (p : Plain × Plain) (rest all : List (Plain × Plain)) → same p.0 g ≡ false
    → Gathers out g vs (p ∷ rest) all → Gathers (out ++ (g, array_of vs) ∷ []) p.0 (p.1 ∷ []) rest all
gathers_next out g vs p rest all off h =
    let e : order p.0 g ≡ Greater = later_above out g vs p rest all off h in
    let past : gather_on (joins p.0 p.1 ((g, vs) ∷ [])) rest ≡ (g, vs) ∷ gather_on ((p.0, p.1 ∷ []) ∷ []) rest =
    ap (λ gs. gather_on gs rest) (join_past g vs [] p e) ∙ gather_past g vs ((p.0, p.1 ∷ []) ∷ []) rest (all_above p.0 g rest e h.rising.1) in record {
      below = next_above out g p.0 (array_of vs) h.below e;
      on = append_assoc out ((g, array_of vs) ∷ []) (as_groups (gather_on ((p.0, p.1 ∷ []) ∷ []) rest)) ∙ ap (λ gs. out ++ as_groups gs) (sym past) ∙ h.on;
      rising = h.rising.1;
    }

pub gathers_end : (out : List (Plain × Plain)) (g : Plain) (vs : List Plain) (all : List (Plain × Plain)) → Gathers out g vs [] all → out ++ (g, array_of vs) ∷ [] ≡ all
gathers_end out g vs all h = h.on
