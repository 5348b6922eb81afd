-- The first elements of a selection, read one after another from the whole index.
use Rattle.std.proofs.Common.{◌≡◌, ℕ, zero, suc, ◌<◌, ◌≤◌, List, [], ◌∷◌, ◌++◌, length, take, drop, get_or, Bool, true, false, ◌&&◌, cond, Option, Some, None, Ordering, Less, refl, sym, ap, ◌∙◌, arith, length-append}
use Rattle.std.specs.List.{filter}
use Rattle.std.specs.List.Sorted.{IsStrictlySortedBy}
use Rattle.std.proofs.lemmas.List.{take-append-drop, length-take}
use Rattle.std.proofs.lemmas.List.Elements.{filter-append}
use Rattle.reql_datum.specs.Plain.{Plain}
use Rattle.reql_datum.specs.Order.{order}
use Rattle.reql_memory.specs.Sorted.{AreRisingBy}
use Rattle.reql_feed_limit.specs.Selection.{Element, Spot, Limit, facing, turned, selection, value, index_list}
use Rattle.reql_feed_limit.specs.Boundary.{after_all, first_of, neighbour, kept_element, Convex}
use Rattle.reql_feed_limit.specs.Bounds.{Bounds, before, in_bounds}
use Rattle.reql_feed_limit.specs.Opening.{begin_in, Opened}
use Rattle.reql_feed_limit.proofs.Maps.{Strict}
use Rattle.reql_feed_limit.proofs.Indexed.{rising_index}
use Rattle.reql_feed_limit.proofs.Boundary.{filter_all, filter_none, all_to, keys_all, none_after, all_after, take_whole}
use Rattle.reql_feed_limit.proofs.Law.{facing_strict, rising_turned, turned_filter, rising_selection}
use Rattle.reql_feed_limit.proofs.Next.{next_found, before_less, less_before}

out_later : (p e m : Bool) → (e ≡ true → m ≡ true) → m ≡ false → p && e ≡ false
out_later true true m h out = let f : true ≡ false = sym (h refl) ∙ out in cc
out_later true false m h out = refl
out_later false e m h out = refl

and_flip : (a b : Bool) → a && b ≡ b && a
and_flip true true = refl
and_flip true false = refl
and_flip false true = refl
and_flip false false = refl

some_element : (d c : Element) → Some d ≡ Some c → d ≡ c
some_element d c h = cc

short : (n : ℕ) (xs : List Element) → None ≡ first_of (drop n xs) → length xs ≤ n
short zero [] is = omega arith
short zero (x ∷ xs) is = let f : None ≡ Some x = is in cc
short (suc n) [] is = omega arith
short (suc n) (x ∷ xs) is = let h = short n xs is in omega arith

-- ---- the first one
module _ (cmp : Plain → Plain → Ordering) where
  first_at : (b c : Bool) (p q w : Plain → Bool) (m : Element) (ms : List Element) → p m.0 ≡ b → q m.0 ≡ c → w m.0 ≡ p m.0 && q m.0 → (c ≡ false → filter (λ (e : Element). w e.0) ms ≡ [])
      → kept_element w (first_of (filter (λ e. p e.0) ms)) ≡ first_of (filter (λ e. w e.0) ms)
      → kept_element w (first_of (cond b (m ∷ filter (λ e. p e.0) ms) (filter (λ e. p e.0) ms))) ≡ first_of (cond (w m.0) (m ∷ filter (λ e. w e.0) ms) (filter (λ e. w e.0) ms))
  first_at true true p q w m ms ps qs is none on = let e : w m.0 ≡ true = is ∙ rw (ps, qs) refl in rw e refl
  first_at true false p q w m ms ps qs is none on = let e : w m.0 ≡ false = is ∙ rw (ps, qs) refl in rw e (sym (ap first_of (none refl)))
  first_at false c p q w m ms ps qs is none on = let e : w m.0 ≡ false = is ∙ rw ps refl in rw e on

  first_kept : (p q w : Plain → Bool) → ((x : Plain) → w x ≡ p x && q x) → ((a b : Plain) → cmp a b ≡ Less → q b ≡ true → q a ≡ true) → (ms : List Element) → AreRisingBy cmp ms
      → kept_element w (first_of (filter (λ e. p e.0) ms)) ≡ first_of (filter (λ e. w e.0) ms)
  unfolding IsStrictlySortedBy
  first_kept p q w is down [] up = refl
  first_kept p q w is down (m ∷ ms) up =
      first_at (p m.0) (q m.0) p q w m ms refl refl (is m.0)
      (λ out. filter_none (λ (e : Element). w e.0) ms (all_to (λ (e : Element) above. is e.0 ∙ out_later (p e.0) (q e.0) (q m.0) (λ there. down m.0 e.0 above there) out) ms (keys_all (λ k. cmp m.0 k ≡ Less) ms up.0)))
      (first_kept p q w is down ms up.1)

pub open_first : (d : Bool) (r : Bounds) (es : List Element) → AreRisingBy order es → kept_element (in_bounds r) (begin_in d r (turned d es)) ≡ first_of (turned d (filter (λ e. in_bounds r e.0) es))
open_first false r es up =
    first_kept order (before r.bottom_open r.bottom) (λ x. before r.top_open x r.top) (in_bounds r) (λ x. refl) (λ a b h g. less_before r.top_open a b r.top h g) es up
open_first true r es up =
    first_kept (facing true) (λ x. before r.top_open x r.top) (before r.bottom_open r.bottom) (in_bounds r) (λ x. and_flip (before r.bottom_open r.bottom x) (before r.top_open x r.top)) (λ a b h g. before_less r.bottom_open r.bottom b a g h) (turned true es) (rising_turned true es up)
    ∙ ap first_of (sym (turned_filter true (λ (e : Element). in_bounds r e.0) es))

-- ---- and those after it
rest_after : (cmp : Plain → Plain → Ordering) → Strict cmp → (es fs : List Element) → AreRisingBy cmp (es ++ fs) → filter (λ e. after_all cmp es e.0) (es ++ fs) ≡ fs
rest_after cmp strict es fs up =
    filter-append (λ (e : Element). after_all cmp es e.0) es fs
    ∙ ap (λ t. t ++ filter (λ (e : Element). after_all cmp es e.0) fs) (filter_none _ es (none_after cmp strict es))
    ∙ filter_all _ fs (all_after cmp strict es fs up)

pub drop_next : (n : ℕ) (xs : List Element) (x : Element) → Some x ≡ first_of (drop n xs) → (take (suc n) xs ≡ take n xs ++ x ∷ []) × (n < length xs)
drop_next zero [] x is = let f : Some x ≡ None = is in cc
drop_next zero (y ∷ ys) x is = (ap (λ t. t ∷ []) (some_element y x (sym is)), omega arith)
drop_next (suc n) [] x is = let f : Some x ≡ None = is in cc
drop_next (suc n) (y ∷ ys) x is = let h = drop_next n ys x is in (ap (λ t. y ∷ t) h.0, omega (arith, h.1))

pub drop_none : (n : ℕ) (xs : List Element) → None ≡ first_of (drop n xs) → take n xs ≡ xs
drop_none n xs is = take_whole n xs (short n xs is)

-- what follows the first so many is the next after the last of them
pub open_next : (l : Limit) → Convex l.within → (docs : List (Plain × Plain)) (k : ℕ) (b : Element) → suc k ≤ length (selection l docs) → get_or (take (suc k) (selection l docs)) k b ≡ b
    → kept_element l.within (neighbour (facing l.descending) b.0 (turned l.descending (index_list l.spot docs))) ≡ first_of (drop (suc k) (selection l docs))
open_next l convex docs k b le is =
    let cmp : Plain → Plain → Ordering = facing l.descending in
    let some : Limit = record { spot = l.spot; within = l.within; descending = l.descending; size = suc k } in
    let whole = take-append-drop (suc k) (selection l docs) in
    sym (next_found some convex docs docs b k (omega (arith, length-take (suc k) (selection l docs))) is)
    ∙ ap first_of (ap (filter (λ e. after_all cmp (take (suc k) (selection l docs)) e.0)) (sym whole) ∙ rest_after cmp (facing_strict l.descending) (take (suc k) (selection l docs)) (drop (suc k) (selection l docs)) (rw whole (rising_selection l docs)))

last_of : (es : List Element) (e : Element) → get_or (es ++ e ∷ []) (length es) e ≡ e
last_of [] e = refl
last_of (d ∷ ds) e = last_of ds e

module _ (l : Limit) (docs : List (Plain × Plain)) where
  pub opened_begin : (next : Option Element) → next ≡ first_of (selection l docs) → Opened l docs [] next
  opened_begin next is = record { taken = refl; few = omega arith; following = is }

  step_from : Convex l.within → (es : List Element) (e : Element) (o : Option Element) (n : ℕ) → n ≡ length es → Opened l docs es (Some e) → n < l.size → o ≡ kept_element l.within (neighbour (facing l.descending) e.0 (turned l.descending (index_list l.spot docs))) → Opened l docs (es ++ e ∷ []) o
  step_from convex es e o n is w lt found =
      let more = drop_next n (selection l docs) e (w.following ∙ ap (λ k. first_of (drop k (selection l docs))) (sym is)) in
      let taken : take n (selection l docs) ≡ es = ap (λ k. take k (selection l docs)) is ∙ sym w.taken in
      let long : length (es ++ e ∷ []) ≡ suc n = length-append es (e ∷ []) ∙ omega (arith, is) in
      let whole : take (suc n) (selection l docs) ≡ es ++ e ∷ [] = more.0 ∙ ap (λ t. t ++ e ∷ []) taken in
      let own : get_or (take (suc n) (selection l docs)) n e ≡ e = ap (λ t. get_or t n e) whole ∙ ap (λ k. get_or (es ++ e ∷ []) k e) is ∙ last_of es e in
      record {
        taken = sym whole ∙ ap (λ k. take k (selection l docs)) (sym long);
        few = omega (arith, long);
        following = found ∙ open_next l convex docs n e (omega (arith, more.1)) own ∙ ap (λ k. first_of (drop k (selection l docs))) (sym long);
      }

  pub opened_step : Convex l.within → (es : List Element) (e : Element) (o : Option Element) → Opened l docs es (Some e) → length es < l.size → o ≡ kept_element l.within (neighbour (facing l.descending) e.0 (turned l.descending (index_list l.spot docs))) → Opened l docs (es ++ e ∷ []) o
  opened_step convex es e o w lt found = step_from convex es e o (length es) refl w lt found

  pub opened_full : (es : List Element) (o : Option Element) → Opened l docs es o → l.size ≤ length es → es ≡ value l docs
  opened_full es o w full = let few = w.few in let same : length es ≡ l.size = omega arith in w.taken ∙ ap (λ k. take k (selection l docs)) same

  pub opened_end : (es : List Element) → Opened l docs es None → es ≡ value l docs
  opened_end es w =
      let all : take (length es) (selection l docs) ≡ selection l docs = drop_none (length es) (selection l docs) w.following in
      let es_all : es ≡ selection l docs = w.taken ∙ all in
      es_all ∙ sym (take_whole l.size (selection l docs) (omega (arith, w.few, ap length es_all)))

-- what is read first, of a feed between bounds
pub opened_from : (spot : Spot) (r : Bounds) (d : Bool) (size : ℕ) (docs : List (Plain × Plain)) (next : Option Element) → next ≡ kept_element (in_bounds r) (begin_in d r (turned d (index_list spot docs)))
    → Opened (record { spot = spot; within = in_bounds r; descending = d; size = size }) docs [] next
opened_from spot r d size docs next is =
    opened_begin (record { spot = spot; within = in_bounds r; descending = d; size = size }) docs next (is ∙ open_first d r (index_list spot docs) (rising_index spot docs))
