-- The item of two values that differ by one element is that difference, and folds the one into the other.
use Rattle.std.proofs.Common.{◌≡◌, ℕ, zero, suc, ◌+◌, ◌≤◌, List, [], ◌∷◌, ◌++◌, length, take, drop, Bool, true, false, ◌||◌, ◌&&◌, Option, Some, None, Ordering, Less, Equal, is_eq, refl, sym, ap, ◌∙◌, arith}
use Rattle.std.specs.List.{insert, remove, AllByRecursion}
use Rattle.std.specs.List.Sorted.{IsStrictlySortedBy}
use Rattle.std.specs.Map.{keys_of}
use Rattle.std.proofs.lemmas.List.{take-append-drop, length-take}
use Rattle.reql_datum.specs.Plain.{Plain}
use Rattle.reql_datum.specs.Order.{order}
use Rattle.reql_memory.specs.Sorted.{AreRisingBy}
use Rattle.reql_feed_limit.specs.Selection.{Element}
use Rattle.reql_feed_limit.specs.Items.{same, among, Placed, lacking_from, Item, item, deleted, inserted, folded}
use Rattle.reql_feed_limit.specs.Differs.{Fits, Apart, Differs}
use Rattle.reql_feed_limit.proofs.Maps.{Strict, same_key, itself, eq_flip}
use Rattle.reql_feed_limit.proofs.Indexed.{plain_strict}

both_true : (a b : Bool) → a ≡ true → b ≡ true → a && b ≡ true
both_true true b h g = g
both_true false b h g = h

pub same_itself : (d : Element) → same d d ≡ true
same_itself d = both_true _ _ (ap is_eq (itself order plain_strict d.0)) (ap is_eq (itself order plain_strict d.1))

and_swap : (a b : Bool) → a ≡ b → a ≡ false → b ≡ false
and_swap a b e h = sym e ∙ h

pub both_flip : (d e : Element) → same d e ≡ false → same e d ≡ false
both_flip d e h = ap (λ t. t && is_eq (order e.1 d.1)) (eq_flip order plain_strict e.0 d.0) ∙ ap (λ t. is_eq (order d.0 e.0) && t) (eq_flip order plain_strict e.1 d.1) ∙ h

first_true : (a b : Bool) → a && b ≡ true → a ≡ true
first_true true b h = refl
first_true false b h = h

or_assoc : (a b c : Bool) → a || (b || c) ≡ (a || b) || c
or_assoc true b c = refl
or_assoc false b c = refl

or_right : (a b : Bool) → b ≡ true → a || b ≡ true
or_right true b h = refl
or_right false b h = h

or_left : (a b : Bool) → a ≡ true → a || b ≡ true
or_left true b h = refl
or_left false b h = let f : false ≡ true = h in cc

or_swap : (a b c : Bool) → a || (b || c) ≡ b || (a || c)
or_swap true true c = refl
or_swap true false c = refl
or_swap false b c = refl

or_false : (a b : Bool) → a ≡ false → b ≡ false → a || b ≡ false
or_false true b h g = h
or_false false b h g = g

among_append : (d : Element) (xs ys : List Element) → among d (xs ++ ys) ≡ among d xs || among d ys
among_append d [] ys = refl
among_append d (x ∷ xs) ys = ap (λ t. same d x || t) (among_append d xs ys) ∙ or_assoc (same d x) (among d xs) (among d ys)

or_either : (a b : Bool) → a || b ≡ true → (P : Type 0) → (a ≡ true → P) → (b ≡ true → P) → P
or_either true b h P f g = f refl
or_either false b h P f g = g h

-- each of us is among vs
abbrev AllAmong : List Element → List Element → Type 0
AllAmong us vs = AllByRecursion (λ u. among u vs ≡ true) us

all_weaker : (us vs ws : List Element) → ((d : Element) → among d vs ≡ true → among d ws ≡ true) → AllAmong us vs → AllAmong us ws
all_weaker [] vs ws on all = tt
all_weaker (u ∷ us) vs ws on all = (on u all.0, all_weaker us vs ws on all.1)

all_themselves : (es : List Element) → AllAmong es es
all_themselves [] = tt
all_themselves (e ∷ es) = (or_left (same e e) (among e es) (same_itself e), all_weaker es es (e ∷ es) (λ d h. or_right (same d e) (among d es) h) (all_themselves es))

all_front : (P : Element → Type 0) (xs ys : List Element) → AllByRecursion P (xs ++ ys) → AllByRecursion P xs
all_front P [] ys all = tt
all_front P (x ∷ xs) ys all = (all.0, all_front P xs ys all.1)

-- an element that comes in between
among_between : (d y : Element) (xs ys : List Element) → among d (xs ++ y ∷ ys) ≡ same d y || among d (xs ++ ys)
among_between d y xs ys = among_append d xs (y ∷ ys) ∙ or_swap (among d xs) (same d y) (among d ys) ∙ ap (λ t. same d y || t) (sym (among_append d xs ys))

among_inserted : (d : Element) (b : Option Placed) (es : List Element) → among d es ≡ true → among d (inserted b es) ≡ true
among_inserted d None es h = h
among_inserted d (Some p) es h =
    among_between d p.1 (take p.0 es) (drop p.0 es) ∙ or_right (same d p.1) (among d (take p.0 es ++ drop p.0 es)) (rw (take-append-drop p.0 es) h)

lacking_none : (i : ℕ) (us vs : List Element) → AllAmong us vs → lacking_from i us vs ≡ None
lacking_none i [] vs all = refl
lacking_none i (u ∷ us) vs all = rw (all.0) (lacking_none (suc i) us vs all.1)

lacking_at : (i j : ℕ) (xs ys vs : List Element) (x : Element) → AllAmong xs vs → among x vs ≡ false → i + length xs ≡ j → lacking_from i (xs ++ x ∷ ys) vs ≡ Some (j, x)
lacking_at i j [] ys vs x all out is = let e : i ≡ j = omega arith in rw (out, e) refl
lacking_at i j (u ∷ us) ys vs x all out is = rw (all.0) (lacking_at (suc i) j us ys vs x all.1 out (omega arith))

module _ (cmp : Plain → Plain → Ordering) (strict : Strict cmp) where
  less_apart : (a b : Plain) → cmp a b ≡ Less → (r : Bool) → is_eq (order a b) ≡ r → r ≡ false
  less_apart a b h false is = refl
  less_apart a b h true is = let e : cmp a b ≡ Equal = ap (λ t. cmp a t) (sym (same_key order plain_strict a b is)) ∙ itself cmp strict a in cc

  more_apart : (a b : Plain) → cmp b a ≡ Less → (r : Bool) → is_eq (order a b) ≡ r → r ≡ false
  more_apart a b h false is = refl
  more_apart a b h true is = let e : cmp b a ≡ Equal = ap (λ t. cmp t a) (sym (same_key order plain_strict a b is)) ∙ itself cmp strict a in cc

  and_false : (a b : Bool) → a ≡ false → a && b ≡ false
  and_false true b h = let f : true ≡ false = h in cc
  and_false false b h = refl

  fresh_above : (x : Element) (ys : List Element) → AllByRecursion (λ k. cmp x.0 k ≡ Less) (keys_of ys) → among x ys ≡ false
  fresh_above x [] all = refl
  fresh_above x (y ∷ ys) all = or_false (same x y) (among x ys) (and_false _ _ (less_apart x.0 y.0 all.0 _ refl)) (fresh_above x ys all.1)

  below_middle : (u : Plain) (xs ys : List Element) (x : Element) → AllByRecursion (λ k. cmp u k ≡ Less) (keys_of (xs ++ x ∷ ys)) → cmp u x.0 ≡ Less
  below_middle u [] ys x all = all.0
  below_middle u (w ∷ ws) ys x all = below_middle u ws ys x all.1

  -- an element of a rising list is not among the others
  fresh : (x : Element) (xs ys : List Element) → AreRisingBy cmp (xs ++ x ∷ ys) → among x (xs ++ ys) ≡ false
  unfolding IsStrictlySortedBy
  fresh x [] ys up = fresh_above x ys up.0
  fresh x (u ∷ us) ys up = or_false (same x u) (among x (us ++ ys)) (and_false _ _ (more_apart x.0 u.0 (below_middle u.0 us ys x up.0) _ refl)) (fresh x us ys up.1)

  out_of : (p : Placed) (b : Option Placed) (es : List Element) → AreRisingBy cmp (insert es p.0 p.1) → Apart (Some p) b → among p.1 (inserted b es) ≡ false
  out_of p None es up apart = rw (take-append-drop p.0 es) at (fresh p.1 (take p.0 es) (drop p.0 es) up)
  out_of p (Some q) es up apart =
      among_between p.1 q.1 (take q.0 es) (drop q.0 es)
      ∙ or_false (same p.1 q.1) (among p.1 (take q.0 es ++ drop q.0 es)) apart
      (rw (take-append-drop q.0 es) (rw (take-append-drop p.0 es) at (fresh p.1 (take p.0 es) (drop p.0 es) up)))

  -- what the one has and the other hasn't
  side : (a b : Option Placed) (es : List Element) → Fits a es → AreRisingBy cmp (inserted a es) → Apart a b → lacking_from 0 (inserted a es) (inserted b es) ≡ a
  side None b es fits up apart = lacking_none 0 es (inserted b es) (all_weaker es es (inserted b es) (λ d h. among_inserted d b es h) (all_themselves es))
  side (Some p) b es fits up apart =
      lacking_at 0 p.0 (take p.0 es) (drop p.0 es) (inserted b es) p.1
      (all_front _ (take p.0 es) (drop p.0 es) (rw (take-append-drop p.0 es) (all_weaker es es (inserted b es) (λ d h. among_inserted d b es h) (all_themselves es))))
      (out_of p b es up apart)
      (omega (arith, length-take p.0 es))

  apart_back : (a b : Option Placed) → Apart a b → Apart b a
  apart_back None None h = tt
  apart_back None (Some q) h = tt
  apart_back (Some p) None h = tt
  apart_back (Some p) (Some q) h = both_flip p.1 q.1 h

  -- the item of two rising values that differ by one element
  pub item_is : (us vs : List Element) (i : Item) → AreRisingBy cmp us → AreRisingBy cmp vs → Differs us vs i → item us vs ≡ i
  item_is us vs i up vp by =
      let left : lacking_from 0 us vs ≡ i.left = rw (by.old, by.new) (side i.left i.came by.core by.left_fits (rw by.old at up) by.apart) in
      let came : lacking_from 0 vs us ≡ i.came = rw (by.old, by.new) (side i.came i.left by.core by.came_fits (rw by.new at vp) (apart_back i.left i.came by.apart)) in
      ap (λ t. record { left = t; came = lacking_from 0 vs us }) left ∙ ap (λ t. record { left = i.left; came = t }) came

remove_insert : (es : List Element) (i : ℕ) (x : Element) → i ≤ length es → remove (insert es i x) i ≡ es
remove_insert [] zero x le = refl
remove_insert [] (suc i) x le = absurd (omega arith)
remove_insert (e ∷ es) zero x le = refl
remove_insert (e ∷ es) (suc i) x le = ap (λ t. e ∷ t) (remove_insert es i x (omega arith))

pub undone : (a : Option Placed) (es : List Element) → Fits a es → deleted a (inserted a es) ≡ es
undone None es fits = refl
undone (Some p) es fits = remove_insert es p.0 p.1 fits

-- a client that folds it has the new value
pub differs_folds : (us vs : List Element) (i : Item) → Differs us vs i → folded i us ≡ vs
differs_folds us vs i by = rw (by.old, by.new) (ap (inserted i.came) (undone i.left by.core by.left_fits))
