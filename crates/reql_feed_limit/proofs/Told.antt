-- The item of two values in pairs is that of their entries.
use Rattle.std.proofs.Common.{◌≡◌, ℕ, suc, List, [], ◌∷◌, Bool, true, false, ◌&&◌, ◌||◌, if◌then◌else◌, Option, Some, None, option_map, Ordering, Less, Equal, Greater, is_eq, refl, sym, ap, ◌∙◌}
use Rattle.std.specs.List.{AllByRecursion}
use Rattle.std.specs.Ordering.{ordering_then}
use Rattle.reql_datum.specs.Order.{order}
use Rattle.reql_term.specs.Views.{Entry}
use Rattle.reql_feed_spec.specs.Items.{same_entry, stands_in, gone, moves, limit_items}
use Rattle.reql_table.specs.Keys.{pair_of, entry_in}
use Rattle.reql_feed_limit.specs.Feed.{told}
use Rattle.reql_feed_limit.specs.Items.{same, among, Placed, lacking_from, item}
use Rattle.reql_feed_limit.specs.Order.{as_pair, pairs_in, entries_in}
use Rattle.reql_feed_limit.specs.Selection.{Element}
use Rattle.reql_feed_limit.proofs.Filed.{key_order}

-- pairs as they lie in a tree
abbrev pub IsProper : Bool → Element → Type 0
IsProper filed p = as_pair filed (entry_in filed p) ≡ p

abbrev pub AreProper : Bool → List Element → Type 0
AreProper filed ps = AllByRecursion (IsProper filed) ps

pub proper_pairs : (filed : Bool) (es : List Entry) → AreProper filed (pairs_in filed es)
proper_pairs true [] = tt
proper_pairs true (e ∷ es) = (refl, proper_pairs true es)
proper_pairs false [] = tt
proper_pairs false (e ∷ es) = (refl, proper_pairs false es)

eq_then : (a b : Ordering) → is_eq (ordering_then a b) ≡ is_eq a && is_eq b
eq_then Less b = refl
eq_then Equal b = refl
eq_then Greater b = refl

and_twice : (a b : Bool) → a && a && b ≡ a && b
and_twice true b = refl
and_twice false b = refl

and_assoc : (a b c : Bool) → a && b && c ≡ (a && b) && c
and_assoc true b c = refl
and_assoc false b c = refl

index_same : (e f : Entry) → same_entry e f ≡ same (pair_of e) (pair_of f)
index_same e f =
    and_assoc (is_eq (order e.0 f.0)) (is_eq (order e.1.0 f.1.0)) (is_eq (order e.1.1 f.1.1))
    ∙ ap (λ t. t && is_eq (order e.1.1 f.1.1)) (sym (ap is_eq (key_order e f) ∙ eq_then (order e.0 f.0) (order e.1.0 f.1.0)))

same_is : (filed : Bool) (p q : Element) → IsProper filed p → IsProper filed q → same_entry (entry_in filed p) (entry_in filed q) ≡ same p q
same_is true p q hp hq = index_same (entry_in true p) (entry_in true q) ∙ ap (λ t. same t (pair_of (entry_in true q))) hp ∙ ap (same p) hq
same_is false p q hp hq = and_twice (is_eq (order p.0 q.0)) (is_eq (order p.1 q.1))

stands_is : (filed : Bool) (u : Element) (vs : List Element) → IsProper filed u → AreProper filed vs → stands_in (entry_in filed u) (entries_in filed vs) ≡ among u vs
stands_is filed u [] hu hv = refl
stands_is filed u (v ∷ vs) hu hv = λ j. same_is filed u v hu hv.0 j || stands_is filed u vs hu hv.1 j

abbrev back : Bool → Placed → ℕ × Entry
back filed p = (p.0, entry_in filed p.1)

gone_at : (b : Bool) (filed : Bool) (i : ℕ) (u : Element) (rest : Option (ℕ × Entry)) (lack : Option Placed) → rest ≡ option_map (back filed) lack
    → (if b then rest else Some (i, entry_in filed u)) ≡ option_map (back filed) (if b then lack else Some (i, u))
gone_at true filed i u rest lack on = on
gone_at false filed i u rest lack on = refl

gone_is : (filed : Bool) (i : ℕ) (us vs : List Element) → AreProper filed us → AreProper filed vs → gone i (entries_in filed us) (entries_in filed vs) ≡ option_map (back filed) (lacking_from i us vs)
gone_is filed i [] vs hu hv = refl
gone_is filed i (u ∷ us) vs hu hv =
    ap (λ b. if b then gone (suc i) (entries_in filed us) (entries_in filed vs) else Some (i, entry_in filed u)) (stands_is filed u vs hu.0 hv)
    ∙ gone_at (among u vs) filed i u (gone (suc i) (entries_in filed us) (entries_in filed vs)) (lacking_from (suc i) us vs) (gone_is filed (suc i) us vs hu.1 hv)

told_is : (filed : Bool) (l c : Option Placed) → moves (option_map (back filed) l) (option_map (back filed) c) ≡ told (record { left = l; came = c })
told_is true None None = refl
told_is true None (Some c) = refl
told_is true (Some l) None = refl
told_is true (Some l) (Some c) = refl
told_is false None None = refl
told_is false None (Some c) = refl
told_is false (Some l) None = refl
told_is false (Some l) (Some c) = refl

pub items_told : (filed : Bool) (us vs : List Element) → AreProper filed us → AreProper filed vs → told (item us vs) ≡ limit_items (entries_in filed us) (entries_in filed vs)
items_told filed us vs hu hv =
    sym (told_is filed (lacking_from 0 us vs) (lacking_from 0 vs us))
    ∙ (λ j. moves (sym (gone_is filed 0 us vs hu hv) j) (sym (gone_is filed 0 vs us hv hu) j))
