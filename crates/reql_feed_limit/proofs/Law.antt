-- The laws of a limit feed: its value after a change is told by its value before it, and the item of the change folds the one into the other.
use Rattle.std.proofs.Common.{◌≡◌, ℕ, zero, suc, ◌<◌, nat_lt, List, [], ◌∷◌, ◌++◌, length, take, drop, reverse, Bool, true, false, cond, if◌then◌else◌, Option, Some, None, Ordering, Less, is_eq, refl, sym, ap, ◌∙◌, arith}
use Rattle.std.specs.List.{filter, AllByRecursion}
use Rattle.std.specs.List.Sorted.{IsStrictlySortedBy}
use Rattle.std.specs.Map.{keys_of}
use Rattle.std.proofs.lemmas.Bool.{ltb-true, ltb-false}
use Rattle.std.proofs.lemmas.List.{take-append-drop, length-take, append-nil}
use Rattle.std.proofs.lemmas.List.Elements.{filter-append}
use Rattle.reql_datum.specs.Plain.{Plain}
use Rattle.reql_datum.specs.Order.{order}
use Rattle.reql_datum.specs.Total.{order_total}
use Rattle.reql_memory.specs.Sorted.{AreRisingBy, find_by, put_by, without_by}
use Rattle.reql_memory.proofs.Sorted.{rising_without}
use Rattle.reql_write_spec.specs.Treated.{Changed as Change}
use Rattle.reql_feed_limit.specs.Selection.{Element, Limit, facing, turned, picked, selection, value, changed, index_list}
use Rattle.reql_feed_limit.specs.Edits.{with_gone, with_come, edited, pair_at, paired, element_at, Keyed}
use Rattle.reql_feed_limit.specs.Boundary.{after_all, first_of, next_after, near, kept, kept_element, next_value, Fresh, Later, Turn}
use Rattle.reql_feed_limit.proofs.Maps.{Strict, itself, find_without}
use Rattle.reql_feed_limit.proofs.Edits.{rising_filter, rising_reverse, reverse_edited, reverse_cons, find_reverse, find_filter, filter_put, filter_put_out, filter_without, without_none, back_strict}
use Rattle.reql_feed_limit.proofs.Indexed.{plain_strict, rising_index, index_changed, index_without, absent}
use Rattle.reql_feed_limit.proofs.Boundary.{edited_length, short_value, full_value, take_whole}

-- ---- directions
pub facing_strict : (d : Bool) → Strict (facing d)
facing_strict false = plain_strict
facing_strict true = back_strict plain_strict

pub rising_turned : (d : Bool) (es : List Element) → AreRisingBy order es → AreRisingBy (facing d) (turned d es)
rising_turned false es up = up
rising_turned true es up = rising_reverse order plain_strict es up

pub turned_edited : (d : Bool) (gone : Option Plain) (come : Option Element) (es : List Element) → AreRisingBy order es → turned d (edited order gone come es) ≡ edited (facing d) gone come (turned d es)
turned_edited false gone come es up = refl
turned_edited true gone come es up = reverse_edited order plain_strict gone come es up

filter_reverse_at : {X : Type 0} (b : Bool) (p : X → Bool) (x : X) (xs : List X) → p x ≡ b → reverse (filter p xs) ≡ filter p (reverse xs) → reverse (cond b (x ∷ filter p xs) (filter p xs)) ≡ filter p (reverse xs) ++ cond b (x ∷ []) []
filter_reverse_at true p x xs is on = reverse_cons x (filter p xs) ∙ ap (λ t. t ++ x ∷ []) on
filter_reverse_at false p x xs is on = on ∙ sym (append-nil (filter p (reverse xs)))

pub filter_reverse : {X : Type 0} (p : X → Bool) (xs : List X) → reverse (filter p xs) ≡ filter p (reverse xs)
filter_reverse p [] = refl
filter_reverse p (x ∷ xs) = filter_reverse_at (p x) p x xs refl (filter_reverse p xs) ∙ sym (filter-append p (reverse xs) (x ∷ [])) ∙ ap (filter p) (sym (reverse_cons x xs))

pub turned_filter : (d : Bool) (p : Element → Bool) (es : List Element) → turned d (filter p es) ≡ filter p (turned d es)
turned_filter false p es = refl
turned_filter true p es = filter_reverse p es

-- ---- between the bounds
module _ (within : Plain → Bool) where
  gone_kept_at : (b : Bool) (g : Plain) (es : List Element) → within g ≡ b → AreRisingBy order es → filter (λ e. within e.0) (without_by order g es) ≡ with_gone order (if b then Some g else None) (filter (λ e. within e.0) es)
  gone_kept_at true g es is up = filter_without order plain_strict within g es up
  gone_kept_at false g es is up =
      filter_without order plain_strict within g es up
      ∙ without_none order plain_strict (filter (λ (e : Element). within e.0) es) g (find_filter order plain_strict within g es ∙ ap (λ b. cond b (find_by order g es) None) is)

  gone_kept : (gone : Option Plain) (es : List Element) → AreRisingBy order es → filter (λ e. within e.0) (with_gone order gone es) ≡ with_gone order (kept within gone) (filter (λ e. within e.0) es)
  gone_kept None es up = refl
  gone_kept (Some g) es up = gone_kept_at (within g) g es refl up

  come_kept_at : (b : Bool) (c : Element) (es : List Element) → within c.0 ≡ b → AreRisingBy order es → filter (λ e. within e.0) (put_by order c.0 c.1 es) ≡ with_come order (if b then Some c else None) (filter (λ e. within e.0) es)
  come_kept_at true c es is up = filter_put order plain_strict within c.0 c.1 es up is
  come_kept_at false c es is up = filter_put_out order plain_strict within c.0 c.1 es up is

  come_kept : (come : Option Element) (es : List Element) → AreRisingBy order es → filter (λ e. within e.0) (with_come order come es) ≡ with_come order (kept_element within come) (filter (λ e. within e.0) es)
  come_kept None es up = refl
  come_kept (Some c) es up = come_kept_at (within c.0) c es refl up

  rising_gone : (gone : Option Plain) (es : List Element) → AreRisingBy order es → AreRisingBy order (with_gone order gone es)
  rising_gone None es up = up
  rising_gone (Some g) es up = rising_without order order_total g es up

  edited_kept : (gone : Option Plain) (come : Option Element) (es : List Element) → AreRisingBy order es → filter (λ e. within e.0) (edited order gone come es) ≡ edited order (kept within gone) (kept_element within come) (filter (λ e. within e.0) es)
  edited_kept gone come es up = come_kept come (with_gone order gone es) (rising_gone gone es up) ∙ ap (with_come order (kept_element within come)) (gone_kept gone es up)

-- ---- the selection after a change
pub rising_selection : (l : Limit) (docs : List (Plain × Plain)) → AreRisingBy (facing l.descending) (selection l docs)
rising_selection l docs = rising_turned l.descending _ (rising_filter order plain_strict l.within (index_list l.spot docs) (rising_index l.spot docs))

pub selection_changed : (l : Limit) → Keyed l.spot → (c : Change) (docs : List (Plain × Plain)) → AreRisingBy order docs → find_by order c.key docs ≡ c.old
    → selection l (changed c docs) ≡ edited (facing l.descending) (kept l.within (pair_at l.spot c.key c.old)) (kept_element l.within (element_at l.spot c.key c.new)) (selection l docs)
selection_changed l keyed c docs up is =
    let inner : index_list l.spot (changed c docs) ≡ edited order (pair_at l.spot c.key c.old) (element_at l.spot c.key c.new) (index_list l.spot docs) = rw is at (index_changed l.spot keyed c.key c.new docs up) in
    ap (picked l) inner
    ∙ ap (turned l.descending) (edited_kept l.within (pair_at l.spot c.key c.old) (element_at l.spot c.key c.new) (index_list l.spot docs) (rising_index l.spot docs))
    ∙ turned_edited l.descending (kept l.within (pair_at l.spot c.key c.old)) (kept_element l.within (element_at l.spot c.key c.new)) (filter (λ e. l.within e.0) (index_list l.spot docs)) (rising_filter order plain_strict l.within (index_list l.spot docs) (rising_index l.spot docs))

-- ---- what comes is new
front_of : (P : Plain → Type 0) (es fs : List Element) → AllByRecursion P (keys_of (es ++ fs)) → AllByRecursion P (keys_of es)
front_of P [] fs all = tt
front_of P (e ∷ es) fs all = (all.0, front_of P es fs all.1)

find_turned : (d : Bool) (q : Plain) (es : List Element) → AreRisingBy order es → find_by (facing d) q (turned d es) ≡ find_by order q es
find_turned false q es up = refl
find_turned true q es up = find_reverse order plain_strict es q up

turned_gone : (d : Bool) (gone : Option Plain) (es : List Element) → AreRisingBy order es → turned d (with_gone order gone es) ≡ with_gone (facing d) gone (turned d es)
turned_gone d gone es up = turned_edited d gone None es up

both_none : (b : Bool) → cond {A = Option Plain} b None None ≡ None
both_none true = refl
both_none false = refl

find_kept : (within : Plain → Bool) (q : Plain) (es : List Element) → find_by order q es ≡ None → find_by order q (filter (λ e. within e.0) es) ≡ None
find_kept within q es none = find_filter order plain_strict within q es ∙ ap (λ t. cond (within q) t None) none ∙ both_none (within q)

fresh_selection : (l : Limit) → Keyed l.spot → (key new p : Plain) (docs : List (Plain × Plain)) → AreRisingBy order docs → l.spot key new ≡ Some p
    → find_by (facing l.descending) p (with_gone (facing l.descending) (kept l.within (pair_at l.spot key (find_by order key docs))) (selection l docs)) ≡ None
fresh_selection l keyed key new p docs up is =
    let gone : Option Plain = pair_at l.spot key (find_by order key docs) in
    let es : List Element = index_list l.spot docs in
    let rising = rising_index l.spot docs in
    let none : find_by order p (with_gone order gone es) ≡ None = ap (find_by order p) (sym (index_without l.spot keyed key docs up)) ∙ absent l.spot keyed key new p is (without_by order key docs) (find_without order plain_strict docs key key up ∙ ap (λ o. cond (is_eq o) None (find_by order key docs)) (itself order plain_strict key)) in
    ap (find_by (facing l.descending) p) (sym (ap (turned l.descending) (gone_kept l.within gone es rising) ∙ turned_gone l.descending (kept l.within gone) (filter (λ e. l.within e.0) es) (rising_filter order plain_strict l.within es rising)))
    ∙ find_turned l.descending p _ (rising_filter order plain_strict l.within (with_gone order gone es) (rising_gone l.within gone es rising))
    ∙ find_kept l.within p (with_gone order gone es) none

module _ (cmp : Plain → Plain → Ordering) (strict : Strict cmp) where
  take_none : (b : Bool) (x : Plain) (f g : Option Plain) → (f ≡ None → g ≡ None) → cond b (Some x) f ≡ None → cond b (Some x) g ≡ None
  take_none true x f g on h = cc
  take_none false x f g on h = on h

  find_take : (q : Plain) (n : ℕ) (es : List Element) → find_by cmp q es ≡ None → find_by cmp q (take n es) ≡ None
  find_take q zero es none = refl
  find_take q (suc n) [] none = refl
  find_take q (suc n) (e ∷ es) none = take_none (is_eq (cmp q e.0)) e.1 (find_by cmp q es) (find_by cmp q (take n es)) (find_take q n es) none

  gone_none : (b : Bool) (f g : Option Plain) → (f ≡ None → g ≡ None) → cond b None f ≡ None → cond b None g ≡ None
  gone_none true f g on h = refl
  gone_none false f g on h = on h

  rising_front : (es fs : List Element) → AreRisingBy cmp (es ++ fs) → AreRisingBy cmp es
  unfolding IsStrictlySortedBy
  rising_front [] fs up = tt
  rising_front (e ∷ es) fs up = (front_of (λ k. cmp e.0 k ≡ Less) es fs up.0, rising_front es fs up.1)

  pub rising_take : (n : ℕ) (es : List Element) → AreRisingBy cmp es → AreRisingBy cmp (take n es)
  rising_take n es up = rising_front (take n es) (drop n es) (rw (take-append-drop n es) up)

  fresh_take : (p : Plain) (gone : Option Plain) (n : ℕ) (es : List Element) → AreRisingBy cmp es → find_by cmp p (with_gone cmp gone es) ≡ None → find_by cmp p (with_gone cmp gone (take n es)) ≡ None
  fresh_take p None n es up none = find_take p n es none
  fresh_take p (Some g) n es up none =
      find_without cmp strict (take n es) g p (rising_take n es up)
      ∙ gone_none (is_eq (cmp p g)) (find_by cmp p es) (find_by cmp p (take n es)) (find_take p n es) (sym (find_without cmp strict es g p up) ∙ none)

  -- ---- the value after a change, by the value before it
  after_at : (b : Bool) (size : ℕ) (all : List Element) (gone : Option Plain) (come : Option Element) → nat_lt (length (take size all)) size ≡ b → AreRisingBy cmp all
      → let es : List Element = take size all in take size (edited cmp gone come all) ≡ next_value cmp size gone (if b then come else near cmp es come) (if b then None else next_after cmp es (edited cmp gone come all)) es
  after_at true size all gone come is up =
      let es : List Element = take size all in
      let few : length es < size = ltb-true (length es) size is in
      let more = (edited_length cmp gone come es).1 in
      short_value cmp strict size all gone come few
      ∙ sym (take_whole size (edited cmp gone come es) (omega arith)) ∙ ap (take size) (sym (append-nil (edited cmp gone come es)))
  after_at false size all gone come is up = full_value cmp strict size all gone come up (ltb-false (length (take size all)) size is)

fresh_some_at : (b : Bool) (cmp : Plain → Plain → Ordering) (gone : Option Plain) (p new : Plain) (es : List Element) → find_by cmp p (with_gone cmp gone es) ≡ None → Fresh cmp gone (if b then Some (p, new) else None) es
fresh_some_at true cmp gone p new es h = h
fresh_some_at false cmp gone p new es h = tt

fresh_some : (l : Limit) → Keyed l.spot → (key new : Plain) (o : Option Plain) (docs : List (Plain × Plain)) → AreRisingBy order docs → l.spot key new ≡ o
    → Fresh (facing l.descending) (kept l.within (pair_at l.spot key (find_by order key docs))) (kept_element l.within (paired o new)) (value l docs)
fresh_some l keyed key new None docs up is = tt
fresh_some l keyed key new (Some p) docs up is =
    fresh_some_at (l.within p) (facing l.descending) (kept l.within (pair_at l.spot key (find_by order key docs))) p new (value l docs)
    (fresh_take (facing l.descending) (facing_strict l.descending) p (kept l.within (pair_at l.spot key (find_by order key docs))) l.size (selection l docs) (rising_selection l docs) (fresh_selection l keyed key new p docs up is))

fresh_of : (l : Limit) → Keyed l.spot → (key : Plain) (new : Option Plain) (docs : List (Plain × Plain)) → AreRisingBy order docs
    → Fresh (facing l.descending) (kept l.within (pair_at l.spot key (find_by order key docs))) (kept_element l.within (element_at l.spot key new)) (value l docs)
fresh_of l keyed key None docs up = tt
fresh_of l keyed key (Some new) docs up = fresh_some l keyed key new (l.spot key new) docs up refl

first_later_at : (b : Bool) (cmp : Plain → Plain → Ordering) (es : List Element) (m : Element) (ms : List Element) → after_all cmp es m.0 ≡ b → Later cmp (first_of ms) es → Later cmp (first_of (cond b (m ∷ ms) ms)) es
first_later_at true cmp es m ms is on = is
first_later_at false cmp es m ms is on = on

first_later : (cmp : Plain → Plain → Ordering) (es all : List Element) → Later cmp (next_after cmp es all) es
first_later cmp es [] = tt
first_later cmp es (m ∷ ms) = first_later_at (after_all cmp es m.0) cmp es m (filter (λ e. after_all cmp es e.0) ms) refl (first_later cmp es ms)

-- a value before a change of one document and the value after it
pub turn : (l : Limit) → Keyed l.spot → (c : Change) (docs : List (Plain × Plain)) → AreRisingBy order docs → find_by order c.key docs ≡ c.old
    → Turn (facing l.descending) l.size (kept l.within (pair_at l.spot c.key c.old)) (kept_element l.within (element_at l.spot c.key c.new)) (next_after (facing l.descending) (value l docs) (selection l (changed c docs))) (value l docs) (value l (changed c docs))
turn l keyed c docs up is =
    let cmp : Plain → Plain → Ordering = facing l.descending in
    let strict : Strict cmp = facing_strict l.descending in
    let es : List Element = value l docs in
    let gone : Option Plain = kept l.within (pair_at l.spot c.key c.old) in
    let come : Option Element = kept_element l.within (element_at l.spot c.key c.new) in
    let whole : selection l (changed c docs) ≡ edited cmp gone come (selection l docs) = selection_changed l keyed c docs up is in
    record {
      rising = rising_take cmp strict l.size (selection l docs) (rising_selection l docs);
      rising_after = rising_take cmp strict l.size (selection l (changed c docs)) (rising_selection l (changed c docs));
      few = omega (arith, length-take l.size (selection l docs));
      fresh = rw is at (fresh_of l keyed c.key c.new docs up);
      later = first_later cmp es (selection l (changed c docs));
      after = rw whole (after_at cmp strict (nat_lt (length es) l.size) l.size (selection l docs) gone come refl (rising_selection l docs));
    }
