-- The next element after a full value, found in the whole index by the pair of the value's last element.
use Rattle.std.proofs.Common.{◌≡◌, ℕ, zero, suc, ◌<◌, List, [], ◌∷◌, ◌++◌, length, take, get_or, reverse, Bool, true, false, ◌&&◌, cond, Ordering, Less, Equal, Greater, refl, sym, ap, ◌∙◌, subst, arith}
use Rattle.std.specs.List.{filter, AllByRecursion}
use Rattle.std.specs.List.Sorted.{IsStrictlySortedBy}
use Rattle.std.specs.Map.{keys_of}
use Rattle.std.specs.Ordering.{is_lt, is_le}
use Rattle.std.proofs.lemmas.Cmp.{alike_right}
use Rattle.reql_datum.specs.Plain.{Plain}
use Rattle.reql_datum.specs.Order.{order}
use Rattle.reql_datum.specs.Total.{order_total}
use Rattle.reql_memory.specs.Sorted.{AreRisingBy}
use Rattle.reql_feed_limit.specs.Selection.{Element, Limit, facing, turned, selection, value, index_list}
use Rattle.reql_feed_limit.specs.Boundary.{after_all, first_of, next_after, neighbour, kept_element, Convex}
use Rattle.reql_feed_limit.specs.Bounds.{Bounds, before, in_bounds}
use Rattle.reql_feed_limit.proofs.Maps.{Strict}
use Rattle.reql_feed_limit.proofs.Edits.{reverse_cons}
use Rattle.reql_feed_limit.proofs.Indexed.{rising_index}
use Rattle.reql_feed_limit.proofs.Boundary.{filter_none, all_to, keys_all}
use Rattle.reql_feed_limit.proofs.Law.{facing_strict, rising_turned, turned_filter, rising_take, rising_selection}

less_lt : (o : Ordering) → o ≡ Less → is_lt o ≡ true
less_lt o h = rw h refl

lt_less : (o : Ordering) → is_lt o ≡ true → o ≡ Less
lt_less Less h = refl
lt_less Equal h = cc
lt_less Greater h = cc

implied : (a b : Bool) → (b ≡ true → a ≡ true) → a && b ≡ b
implied true b h = refl
implied false true h = h refl
implied false false h = refl

and_true : (a : Bool) → a && true ≡ a
and_true true = refl
and_true false = refl

out_beyond : (e m : Bool) → (e ≡ true → m ≡ true) → m ≡ false → e ≡ false
out_beyond true m h out = let f : true ≡ false = sym (h refl) ∙ out in cc
out_beyond false m h out = refl

first_same : {X : Type 0} (p q : X → Bool) (xs : List X) → ((x : X) → p x ≡ q x) → filter p xs ≡ filter q xs
first_same p q [] h = refl
first_same p q (x ∷ xs) h = rw (h x, first_same p q xs h) refl

module _ (cmp : Plain → Plain → Ordering) (strict : Strict cmp) where
  last_above : (b : Element) (e : Element) (es : List Element) (k : ℕ) → AllByRecursion (λ q. cmp e.0 q ≡ Less) (keys_of es) → suc k ≡ length es → get_or es k b ≡ b → cmp e.0 b.0 ≡ Less
  last_above b e [] k all more is = absurd (omega arith)
  last_above b e (f ∷ fs) zero all more is = ap (λ (d : Element). cmp e.0 d.0) (sym is) ∙ all.0
  last_above b e (f ∷ fs) (suc k) all more is = last_above b e fs k all.1 (omega arith) is

  -- after the last of a rising list is after all of it
  pub after_last : (es : List Element) (b : Element) (k : ℕ) (p : Plain) → AreRisingBy cmp es → suc k ≡ length es → get_or es k b ≡ b → after_all cmp es p ≡ is_lt (cmp b.0 p)
  unfolding IsStrictlySortedBy
  after_last [] b k p up more is = absurd (omega arith)
  after_last (e ∷ []) b zero p up more is = ap (λ (d : Element). is_lt (cmp d.0 p) && true) is ∙ and_true (is_lt (cmp b.0 p))
  after_last (e ∷ []) b (suc k) p up more is = absurd (omega arith)
  after_last (e ∷ f ∷ fs) b zero p up more is = absurd (omega arith)
  after_last (e ∷ f ∷ fs) b (suc k) p up more is =
      ap (λ t. is_lt (cmp e.0 p) && t) (after_last (f ∷ fs) b k p up.1 (omega arith) is)
      ∙ implied (is_lt (cmp e.0 p)) (is_lt (cmp b.0 p)) (λ h. less_lt _ (strict.total.trans e.0 b.0 p (last_above b e (f ∷ fs) k up.0 (omega arith) is) (lt_less _ h)))

  -- of the pairs between the bounds the next one is the next of all, unless that is beyond them
  next_kept_at : (f w : Bool) (within : Plain → Bool) (b : Plain) (m : Element) (ms : List Element) → is_lt (cmp b m.0) ≡ f → within m.0 ≡ w → (f ≡ true → w ≡ false → filter (λ (e : Element). within e.0) ms ≡ [])
      → neighbour cmp b (filter (λ e. within e.0) ms) ≡ kept_element within (neighbour cmp b ms)
      → neighbour cmp b (cond w (m ∷ filter (λ e. within e.0) ms) (filter (λ e. within e.0) ms)) ≡ kept_element within (first_of (cond f (m ∷ filter (λ e. is_lt (cmp b e.0)) ms) (filter (λ e. is_lt (cmp b e.0)) ms)))
  next_kept_at true true within b m ms fs ws none on = rw (fs, ws) refl
  next_kept_at true false within b m ms fs ws none on = rw ws (ap (neighbour cmp b) (none refl refl))
  next_kept_at false true within b m ms fs ws none on = rw fs on
  next_kept_at false false within b m ms fs ws none on = on

  pub next_kept : (within : Plain → Bool) → ((a c d : Plain) → cmp a c ≡ Less → cmp c d ≡ Less → within a ≡ true → within d ≡ true → within c ≡ true) → (b : Plain) → within b ≡ true → (ms : List Element) → AreRisingBy cmp ms
      → neighbour cmp b (filter (λ e. within e.0) ms) ≡ kept_element within (neighbour cmp b ms)
  unfolding IsStrictlySortedBy
  next_kept within convex b inside [] up = refl
  next_kept within convex b inside (m ∷ ms) up =
      next_kept_at (is_lt (cmp b m.0)) (within m.0) within b m ms refl refl
      (λ after out. filter_none (λ (e : Element). within e.0) ms (all_to (λ (e : Element) above. out_beyond (within e.0) (within m.0) (λ there. convex b m.0 e.0 (lt_less _ after) above inside there) out) ms (keys_all (λ q. cmp m.0 q ≡ Less) ms up.0)))
      (next_kept within convex b inside ms up.1)

convex_facing : (d : Bool) (within : Plain → Bool) → Convex within → (a b c : Plain) → facing d a b ≡ Less → facing d b c ≡ Less → within a ≡ true → within c ≡ true → within b ≡ true
convex_facing false within convex a b c h g i j = convex.between a b c h g i j
convex_facing true within convex a b c h g i j = convex.between c b a g h j i

all_kept_at : (b : Bool) (within : Plain → Bool) (e : Element) (es : List Element) → within e.0 ≡ b → AllByRecursion (λ (d : Element). within d.0 ≡ true) (filter (λ d. within d.0) es) → AllByRecursion (λ (d : Element). within d.0 ≡ true) (cond b (e ∷ filter (λ d. within d.0) es) (filter (λ d. within d.0) es))
all_kept_at true within e es is all = (is, all)
all_kept_at false within e es is all = all

all_kept : (within : Plain → Bool) (es : List Element) → AllByRecursion (λ (e : Element). within e.0 ≡ true) (filter (λ e. within e.0) es)
all_kept within [] = tt
all_kept within (e ∷ es) = all_kept_at (within e.0) within e es refl (all_kept within es)

all_last : (P : Element → Type 0) (es : List Element) (e : Element) → AllByRecursion P es → P e → AllByRecursion P (es ++ e ∷ [])
all_last P [] e all h = (h, tt)
all_last P (d ∷ ds) e all h = (all.0, all_last P ds e all.1 h)

all_turned : (P : Element → Type 0) (d : Bool) (es : List Element) → AllByRecursion P es → AllByRecursion P (turned d es)
all_turned P false es all = all
all_turned P true [] all = tt
all_turned P true (e ∷ es) all = rw (reverse_cons e es) (all_last P (reverse es) e (all_turned P true es all.1) all.0)

all_taken : (P : Element → Type 0) (n : ℕ) (es : List Element) → AllByRecursion P es → AllByRecursion P (take n es)
all_taken P zero es all = tt
all_taken P (suc n) [] all = tt
all_taken P (suc n) (e ∷ es) all = (all.0, all_taken P n es all.1)

all_place : (P : Element → Type 0) (es : List Element) (k : ℕ) (b : Element) → AllByRecursion P es → k < length es → get_or es k b ≡ b → P b
all_place P [] k b all lt is = absurd (omega arith)
all_place P (e ∷ es) zero b all lt is = subst P is (all.0)
all_place P (e ∷ es) (suc k) b all lt is = all_place P es k b all.1 (omega arith) is

last_inside : (l : Limit) (docs : List (Plain × Plain)) (b : Element) (k : ℕ) → suc k ≡ length (value l docs) → get_or (value l docs) k b ≡ b → l.within b.0 ≡ true
last_inside l docs b k more is =
    let P : Element → Type 0 = λ e. l.within e.0 ≡ true in
    all_place P (value l docs) k b (all_taken P l.size (selection l docs) (all_turned P l.descending _ (all_kept l.within (index_list l.spot docs)))) (omega arith) is

rising_value : (l : Limit) (docs : List (Plain × Plain)) → AreRisingBy (facing l.descending) (value l docs)
rising_value l docs = rising_take (facing l.descending) (facing_strict l.descending) l.size (selection l docs) (rising_selection l docs)

-- the next element after a full value whose last element is b
pub next_found : (l : Limit) → Convex l.within → (docs after : List (Plain × Plain)) (b : Element) (k : ℕ) → suc k ≡ length (value l docs) → get_or (value l docs) k b ≡ b
    → next_after (facing l.descending) (value l docs) (selection l after) ≡ kept_element l.within (neighbour (facing l.descending) b.0 (turned l.descending (index_list l.spot after)))
next_found l convex docs after b k more is =
    let cmp : Plain → Plain → Ordering = facing l.descending in
    let strict : Strict cmp = facing_strict l.descending in
    let es : List Element = value l docs in
    let cut : selection l after ≡ filter (λ (e : Element). l.within e.0) (turned l.descending (index_list l.spot after)) = turned_filter l.descending (λ (e : Element). l.within e.0) (index_list l.spot after) in
    ap first_of (first_same (λ (e : Element). after_all cmp es e.0) (λ (e : Element). is_lt (cmp b.0 e.0)) (selection l after) (λ e. after_last cmp strict es b k e.0 (rising_value l docs) more is))
    ∙ ap (neighbour cmp b.0) cut
    ∙ next_kept cmp strict l.within (convex_facing l.descending l.within convex) b.0 (last_inside l docs b k more is) (turned l.descending (index_list l.spot after)) (rising_turned l.descending (index_list l.spot after) (rising_index l.spot after))

-- ---- bounds are convex
and_both : (a b : Bool) → a ≡ true → b ≡ true → a && b ≡ true
and_both true b h g = g
and_both false b h g = h

and_parts : (a b : Bool) → a && b ≡ true → (a ≡ true) × (b ≡ true)
and_parts true b h = (refl, h)
and_parts false b h = let f : false ≡ true = h in cc

less_le : (o : Ordering) → o ≡ Less → is_le o ≡ true
less_le o h = rw h refl

before_le : (o : Ordering) (a b c : Plain) → order a b ≡ o → is_le o ≡ true → order b c ≡ Less → is_le (order a c) ≡ true
before_le Less a b c is h less = less_le _ (order_total.trans a b c is less)
before_le Equal a b c is h less = less_le _ (order_total.congr a b c is ∙ less)
before_le Greater a b c is h less = let f : false ≡ true = h in cc

le_before : (o : Ordering) (a b c : Plain) → order b c ≡ o → order a b ≡ Less → is_le o ≡ true → is_le (order a c) ≡ true
le_before Less a b c is less h = less_le _ (order_total.trans a b c less is)
le_before Equal a b c is less h = less_le _ (sym (alike_right order_total b c a is) ∙ less)
le_before Greater a b c is less h = let f : false ≡ true = h in cc

pub before_less : (open_end : Bool) (a b c : Plain) → before open_end a b ≡ true → order b c ≡ Less → before open_end a c ≡ true
before_less true a b c h less = less_lt _ (order_total.trans a b c (lt_less _ h) less)
before_less false a b c h less = before_le (order a b) a b c refl h less

pub less_before : (open_end : Bool) (a b c : Plain) → order a b ≡ Less → before open_end b c ≡ true → before open_end a c ≡ true
less_before true a b c less h = less_lt _ (order_total.trans a b c less (lt_less _ h))
less_before false a b c less h = le_before (order b c) a b c refl less h

pub bounds_convex : (r : Bounds) → Convex (in_bounds r)
bounds_convex r = record {
  between = λ a b c h g i j.
      and_both (before r.bottom_open r.bottom b) (before r.top_open b r.top)
      (before_less r.bottom_open r.bottom a b (and_parts _ _ i).0 h) (less_before r.top_open b c r.top g (and_parts _ _ j).1);
}
