-- Gathering what patterns name: one name more, and one pattern after another.
use Rattle.std.proofs.Common.{◌≡◌, ℕ, suc, ◌≤◌, max, List, [], ◌∷◌, ◌++◌, Bool, true, false, cond, if◌then◌else◌, Option, Some, None, Ordering, Less, Equal, Greater, is_eq, refl, sym, ap, ◌∙◌, append_assoc, arith}
use Rattle.std.specs.Ordering.{match_ordering, ordering_reverse}
use Rattle.std.proofs.lemmas.Cmp.{nat_list_cmp_total}
use Rattle.reql_memory.proofs.Finds.{is_equal}
use Rattle.reql_datum.specs.Members.{AreRising, text_order, find, put, without}
use Rattle.reql_datum.specs.Plain.{Plain, depth, items_of, items_depth, pairs_of, pairs_depth}
use Rattle.reql_datum.proofs.Finds.{equal_texts}
use Rattle.reql_rules.specs.Lists.{Bytes}
use Rattle.reql_rules.specs.Patterns.{is_true, Part, nothing, whole, inside, both, part, part_of_items, part_of_pairs, field_part}
use Rattle.reql_rules.specs.Types.{same_text}
use Rattle.reql_path.specs.Named.{wanted_part, part_there, named_part, reach, reach_there, reach_all, Gathers}
use Rattle.reql_path.specs.declared.gathering.Wanted.{Wanted}
use Rattle.reql_path.specs.declared.gathering.Wanted.TheVariants.{Whole, Inside}

depth_more : (ps : List Plain) (v : Plain) → items_depth (items_of (ps ++ v ∷ [])) ≡ max (items_depth (items_of ps)) (depth v)
depth_more [] v = omega arith
depth_more (p ∷ ps) v = omega (arith, depth_more ps v)

pub deeper : (ps : List Plain) (v : Plain) → reach (Inside (ps ++ v ∷ [])) ≤ max (reach (Inside ps)) (suc (suc (depth v)))
deeper ps v = omega (arith, depth_more ps v)

-- ---- parts
pub both_nothing : (p : Part) → both p nothing ≡ p
both_nothing nothing = refl
both_nothing whole = refl
both_nothing (inside ps) = refl

both_whole : (p : Part) → both p whole ≡ whole
both_whole nothing = refl
both_whole whole = refl
both_whole (inside ps) = refl

pub both_over : (p q r : Part) → both (both p q) r ≡ both p (both q r)
both_over nothing q r = refl
both_over whole q r = refl
both_over (inside ps) nothing r = refl
both_over (inside ps) whole r = refl
both_over (inside ps) (inside qs) nothing = refl
both_over (inside ps) (inside qs) whole = refl
both_over (inside ps) (inside qs) (inside rs) = ap inside (append_assoc ps qs rs)

-- ---- one after another
pub gathers_none : (es : List (Bytes × Wanted)) → Gathers es es (λ k. nothing) 0
gathers_none es = record { parts = λ k. sym (both_nothing (named_part k es)); bound = omega arith; rising = λ up. up }

pub gathers_then : (a b c : List (Bytes × Wanted)) (p q : Bytes → Part) (m n : ℕ) → Gathers a b p m → Gathers b c q n → Gathers a c (λ k. both (p k) (q k)) (max m n)
gathers_then a b c p q m n g h = record {
  parts = λ k. h.parts k ∙ ap (λ t. both t (q k)) (g.parts k) ∙ both_over (named_part k a) (p k) (q k);
  bound = omega (arith, g.bound, h.bound);
  rising = λ up. h.rising (g.rising up);
}

pub gathers_within : (a b : List (Bytes × Wanted)) (p : Bytes → Part) (m n : ℕ) → m ≤ n → Gathers a b p m → Gathers a b p n
gathers_within a b p m n le g = record { parts = g.parts; bound = omega (arith, g.bound); rising = g.rising }

-- ---- one name more
reach_find : (k : Bytes) (es : List (Bytes × Wanted)) → reach_there (find k es) ≤ reach_all es
reach_find k [] = omega arith
reach_find k (e ∷ es) = at (is_eq (text_order k e.0)) (reach_find k es)
  where
    at : (b : Bool) → reach_there (find k es) ≤ reach_all es → reach_there (cond b (Some e.1) (find k es)) ≤ max (reach e.1) (reach_all es)
    at true h = omega arith
    at false h = omega (arith, h)

reach_without : (k : Bytes) (es : List (Bytes × Wanted)) → reach_all (without k es) ≤ reach_all es
reach_without k [] = omega arith
reach_without k (e ∷ es) = at (is_eq (text_order k e.0)) (reach_without k es)
  where
    at : (b : Bool) → reach_all (without k es) ≤ reach_all es → reach_all (cond b es (e ∷ without k es)) ≤ max (reach e.1) (reach_all es)
    at true h = omega arith
    at false h = omega (arith, h)

reach_put : (k : Bytes) (w : Wanted) (es : List (Bytes × Wanted)) → reach_all (put k w es) ≤ max (reach_all es) (reach w)
reach_put k w [] = omega arith
reach_put k w (e ∷ es) = at (text_order k e.0) (reach_put k w es)
  where
    at : (o : Ordering) → reach_all (put k w es) ≤ max (reach_all es) (reach w)
        → reach_all (match_ordering o ((k, w) ∷ e ∷ es) ((e.0, w) ∷ es) (e ∷ put k w es)) ≤ max (max (reach e.1) (reach_all es)) (reach w)
    at Less h = omega arith
    at Equal h = omega arith
    at Greater h = omega (arith, h)

turned : (o : Ordering) → is_eq (ordering_reverse o) ≡ is_eq o
turned Less = refl
turned Equal = refl
turned Greater = refl

same_turned : (q k : Bytes) → same_text k q ≡ same_text q k
same_turned q k = ap is_eq (nat_list_cmp_total.antisymm k q) ∙ turned (text_order q k)

part_at : (b c : Bool) (q k : Bytes) (w : Wanted) (es : List (Bytes × Wanted)) (p : Part) → is_eq (text_order q k) ≡ b → c ≡ b → wanted_part w ≡ both (named_part k es) p
    → part_there (cond c (Some w) (cond c None (find q es))) ≡ both (named_part q es) (if b then p else nothing)
part_at true true q k w es p here e is = is ∙ ap (λ t. both (named_part t es) p) (sym (equal_texts q k (is_equal (text_order q k) here)))
part_at true false q k w es p here e is = cc
part_at false true q k w es p here e is = cc
part_at false false q k w es p here e is = sym (both_nothing (named_part q es))

-- what is found where k was set to something, or taken away
abbrev pub FindsSet : Bytes → Option Wanted → List (Bytes × Wanted) → List (Bytes × Wanted) → Type 0
FindsSet k o es now = (q : Bytes) → find q now ≡ cond (is_eq (text_order k q)) o (find q es)

pub gathers_inside : (es now later : List (Bytes × Wanted)) (k : Bytes) (w : Wanted) (p : Part) (d : ℕ) → now ≡ without k es → later ≡ put k w now → FindsSet k None es now → FindsSet k (Some w) now later → AreRising later
    → wanted_part w ≡ both (part_there (find k es)) p → reach w ≤ max (reach_there (find k es)) (suc d) → Gathers es later (λ q. if same_text q k then p else nothing) d
gathers_inside es now later k w p d is at gone here up part bound =
    let later_is : later ≡ put k w (without k es) = at ∙ ap (put k w) is in
    let below : reach_all (put k w (without k es)) ≤ max (reach_all es) (suc d) = omega (arith, reach_put k w (without k es), reach_without k es, reach_find k es, bound) in
    record {
      parts = λ q. ap part_there (here q) ∙ ap (λ t. part_there (cond (same_text k q) (Some w) t)) (gone q)
          ∙ part_at (same_text q k) (same_text k q) q k w es p refl (same_turned q k) part;
      bound = rw later_is below;
      rising = λ on. up;
    }

whole_at : (b c : Bool) (x : Part) (found : Option Wanted) → c ≡ b → x ≡ part_there found → part_there (cond c (Some Whole) found) ≡ both x (if b then whole else nothing)
whole_at true true x found e is = sym (both_whole x)
whole_at true false x found e is = cc
whole_at false true x found e is = cc
whole_at false false x found e is = sym is ∙ sym (both_nothing x)

pub gathers_whole : (es now : List (Bytes × Wanted)) (k : Bytes) → now ≡ put k Whole es → FindsSet k (Some Whole) es now → AreRising now → Gathers es now (λ q. if same_text q k then whole else nothing) 0
gathers_whole es now k is here up =
    let below : reach_all (put k Whole es) ≤ max (reach_all es) 1 = omega (arith, reach_put k Whole es) in
    record {
      parts = λ q. ap part_there (here q) ∙ whole_at (same_text q k) (same_text k q) (named_part q es) (find q es) (same_turned q k) refl;
      bound = rw is below;
      rising = λ on. up;
    }

-- a field of a pattern
pub gathers_field : (es now : List (Bytes × Wanted)) (k : Bytes) (v : Plain) → is_true v ≡ false → Gathers es now (λ q. if same_text q k then inside (v ∷ []) else nothing) (suc (depth v)) → Gathers es now (λ q. field_part q k v) (suc (depth v))
gathers_field es now k v off g = rw off g

pub gathers_true : (es now : List (Bytes × Wanted)) (k : Bytes) (v : Plain) → is_true v ≡ true → Gathers es now (λ q. if same_text q k then whole else nothing) 0 → Gathers es now (λ q. field_part q k v) (suc (depth v))
gathers_true es now k v on g = rw on (gathers_within es now (λ q. if same_text q k then whole else nothing) 0 (suc (depth v)) (omega arith) g)

-- ---- a loop over patterns, or over the fields of one
abbrev pub More : (List (Bytes × Wanted)) → (List (Bytes × Wanted)) → (Bytes → Part) → ℕ → (Bytes → Part) → ℕ → Type 0
More first now rest few all many = (last : List (Bytes × Wanted)) → Gathers now last rest few → Gathers first last all many

pub more_item : (first now next : List (Bytes × Wanted)) (vs rest all : List Plain) (v : Plain) → vs ≡ v ∷ rest → Gathers now next (λ k. part k v) (depth v)
    → More first now (λ k. part_of_items k (items_of vs)) (items_depth (items_of vs)) (λ k. part_of_items k (items_of all)) (items_depth (items_of all))
    → More first next (λ k. part_of_items k (items_of rest)) (items_depth (items_of rest)) (λ k. part_of_items k (items_of all)) (items_depth (items_of all))
more_item first now next vs rest all v is g more last h =
    more last (rw is (gathers_then now next last (λ k. part k v) (λ k. part_of_items k (items_of rest)) (depth v) (items_depth (items_of rest)) g h))

pub more_field : (first now next : List (Bytes × Wanted)) (ms rest all : List (Bytes × Plain)) (k : Bytes) (v : Plain) → ms ≡ (k, v) ∷ rest → Gathers now next (λ q. field_part q k v) (suc (depth v))
    → More first now (λ q. part_of_pairs q (pairs_of ms)) (suc (pairs_depth (pairs_of ms))) (λ q. part_of_pairs q (pairs_of all)) (suc (pairs_depth (pairs_of all)))
    → More first next (λ q. part_of_pairs q (pairs_of rest)) (suc (pairs_depth (pairs_of rest))) (λ q. part_of_pairs q (pairs_of all)) (suc (pairs_depth (pairs_of all)))
more_field first now next ms rest all k v is g more last h =
    more last (rw is (gathers_within now last (λ q. both (field_part q k v) (part_of_pairs q (pairs_of rest))) (max (suc (depth v)) (suc (pairs_depth (pairs_of rest)))) (suc (max (depth v) (pairs_depth (pairs_of rest)))) (omega arith)
    (gathers_then now next last (λ q. field_part q k v) (λ q. part_of_pairs q (pairs_of rest)) (suc (depth v)) (suc (pairs_depth (pairs_of rest))) g h)))

pub item_end : (first now : List (Bytes × Wanted)) (vs all : List Plain) → vs ≡ [] → More first now (λ k. part_of_items k (items_of vs)) (items_depth (items_of vs)) (λ k. part_of_items k (items_of all)) (items_depth (items_of all))
    → Gathers first now (λ k. part_of_items k (items_of all)) (items_depth (items_of all))
item_end first now vs all is more = more now (rw is (gathers_none now))

pub field_end : (first now : List (Bytes × Wanted)) (ms all : List (Bytes × Plain)) → ms ≡ [] → More first now (λ q. part_of_pairs q (pairs_of ms)) (suc (pairs_depth (pairs_of ms))) (λ q. part_of_pairs q (pairs_of all)) (suc (pairs_depth (pairs_of all)))
    → Gathers first now (λ q. part_of_pairs q (pairs_of all)) (suc (pairs_depth (pairs_of all)))
field_end first now ms all is more = more now (rw is (gathers_within now now (λ k. nothing) 0 1 (omega arith) (gathers_none now)))
