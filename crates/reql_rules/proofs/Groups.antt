-- Groups.
use Rattle.std.proofs.Common.{◌≡◌, refl, sym, ap, ◌∙◌, Bool, true, false, cond, if◌then◌else◌, List, [], ◌∷◌, ◌++◌, map, append_assoc, append-nil, Option, Some, None, Equal}
use Rattle.std.specs.Prelude.{option_map}
use Rattle.std.specs.Option.{unwrap_or}
use Rattle.std.specs.Ordering.{is_eq}
use Rattle.std.specs.List.{filter}
use Rattle.std.specs.Map.{keys_of}
use Rattle.reql_memory.specs.Sorted.{AreRisingBy, find_by}
use Rattle.reql_memory.proofs.Sorted.{rising_nil, rising_put}
use Rattle.reql_memory.proofs.Finds.{find_put, is_equal}
use Rattle.reql_datum.specs.Order.{order}
use Rattle.reql_datum.specs.Plain.{Plain}
use Rattle.reql_datum.specs.Total.{order_total}
use Rattle.reql_rules.specs.Grouping.{Gathered, members_at, joins, gather_on, as_groups}
use Rattle.reql_rules.specs.Laws.{GroupsHoldEachOnce, of_group, if_some}
use Rattle.reql_rules.specs.Lists.{array_of}
use Rattle.reql_rules.specs.Types.{same}

-- groups rise
gathered_rise : (gs : Gathered) (ps : List (Plain × Plain)) → AreRisingBy order gs → AreRisingBy order (gather_on gs ps)
gathered_rise gs [] up = up
gathered_rise gs (p ∷ ps) up = gathered_rise (joins p.0 p.1 gs) ps (rising_put order order_total p.0 (members_at p.0 gs ++ p.1 ∷ []) gs up)

keys_kept : (gs : Gathered) → keys_of (as_groups gs) ≡ keys_of gs
keys_kept [] = refl
keys_kept (g ∷ gs) = ap (λ ks. g.0 ∷ ks) (keys_kept gs)

groups_rise : (gs : Gathered) → AreRisingBy order gs → AreRisingBy order (as_groups gs)
groups_rise gs up = rw (keys_kept gs) up

-- what a group holds: what was there, and its elements after it
abbrev with_more : Option (List Plain) → List Plain → Option (List Plain)
with_more None [] = None
with_more None (v ∷ vs) = Some (v ∷ vs)
with_more (Some us) vs = Some (us ++ vs)

found_step : (g k : Plain) (b : Bool) (v : List Plain) (m n : Option (List Plain)) → m ≡ n → cond b (Some v) m ≡ cond b (Some v) n
found_step g k b v m n e = ap (cond b (Some v)) e

found_like : (g k : Plain) (gs : Gathered) → order g k ≡ Equal → find_by order g gs ≡ find_by order k gs
found_like g k [] e = refl
found_like g k (m ∷ gs) e = rw (order_total.congr g k m.0 e) (ap (cond (is_eq (order k m.0)) (Some m.1)) (found_like g k gs e))

more_after : (m : Option (List Plain)) (v : Plain) (vs : List Plain) → with_more (Some (unwrap_or m [] ++ v ∷ [])) vs ≡ with_more m (v ∷ vs)
more_after None v vs = refl
more_after (Some us) v vs = ap Some (append_assoc us (v ∷ []) vs)

joined_step : (g k v : Plain) (gs : Gathered) (vs : List Plain) (b : Bool) → is_eq (order g k) ≡ b
    → with_more (if b then Some (members_at k gs ++ v ∷ []) else find_by order g gs) vs ≡ with_more (find_by order g gs) (if b then v ∷ vs else vs)
joined_step g k v gs vs true e = ap (λ m. with_more (Some (unwrap_or m [] ++ v ∷ [])) vs) (sym (found_like g k gs (is_equal (order g k) e))) ∙ more_after (find_by order g gs) v vs
joined_step g k v gs vs false e = refl

of_group_step : (g k v : Plain) (ps : List (Plain × Plain)) (b : Bool) → map (λ (p : Plain × Plain). p.1) (cond b ((k, v) ∷ filter (λ p. same g p.0) ps) (filter (λ p. same g p.0) ps)) ≡ (if b then v ∷ of_group g ps else of_group g ps)
of_group_step g k v ps true = refl
of_group_step g k v ps false = refl

found_in : (g : Plain) (gs : Gathered) (ps : List (Plain × Plain)) → find_by order g (gather_on gs ps) ≡ with_more (find_by order g gs) (of_group g ps)
found_in g gs [] = nothing_more (find_by order g gs) where
  nothing_more : (m : Option (List Plain)) → m ≡ with_more m []
  nothing_more None = refl
  nothing_more (Some us) = ap Some (sym (append-nil us))
found_in g gs (p ∷ ps) =
    found_in g (joins p.0 p.1 gs) ps
    ∙ ap (λ m. with_more m (of_group g ps)) (find_put order order_total gs p.0 (members_at p.0 gs ++ p.1 ∷ []) g)
    ∙ joined_step g p.0 p.1 gs (of_group g ps) (is_eq (order g p.0)) refl
    ∙ ap (with_more (find_by order g gs)) (sym (of_group_step g p.0 p.1 ps (is_eq (order g p.0))))

-- the members of a group are an array
map_step : (b : Bool) (v : List Plain) (m : Option (List Plain)) (n : Option Plain) → n ≡ option_map array_of m → cond b (Some (array_of v)) n ≡ option_map array_of (cond b (Some v) m)
map_step true v m n e = refl
map_step false v m n e = e

found_array : (g : Plain) (gs : Gathered) → find_by order g (as_groups gs) ≡ option_map array_of (find_by order g gs)
found_array g [] = refl
found_array g (m ∷ gs) = map_step (is_eq (order g m.0)) m.1 (find_by order g gs) (find_by order g (as_groups gs)) (found_array g gs)

array_if_some : (vs : List Plain) → option_map array_of (with_more None vs) ≡ if_some vs
array_if_some [] = refl
array_if_some (v ∷ vs) = refl

pub hold_each_once : GroupsHoldEachOnce
hold_each_once ps = (
  groups_rise (gather_on [] ps) (gathered_rise [] ps (rising_nil order order_total (List Plain))),
  λ g. found_array g (gather_on [] ps) ∙ ap (option_map array_of) (found_in g [] ps) ∙ array_if_some (of_group g ps),
)
