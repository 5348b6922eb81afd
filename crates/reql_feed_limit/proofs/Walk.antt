-- A walk over all documents finds the neighbour of a pair in their index.
use Rattle.std.proofs.Common.{◌≡◌, suc, ◌<◌, List, [], ◌∷◌, ◌++◌, length, reverse, Bool, true, false, not, if◌then◌else◌, Option, Some, None, Ordering, Less, Equal, Greater, refl, sym, ap, ◌∙◌, arith, append_assoc, length-append}
use Rattle.std.specs.List.{filter, AllByRecursion}
use Rattle.std.specs.List.Sorted.{IsStrictlySortedBy}
use Rattle.std.specs.Map.{keys_of}
use Rattle.std.specs.Ordering.{is_lt, match_ordering}
use Rattle.std.proofs.lemmas.List.{append-nil, reverse-append}
use Rattle.std.proofs.lemmas.List.Elements.{filter-append}
use Rattle.reql_datum.specs.Plain.{Plain, low, array, boolean, null, number, object, binary, time, text, high}
use Rattle.reql_datum.specs.Order.{order}
use Rattle.reql_datum.specs.Total.{order_total}
use Rattle.reql_memory.specs.Sorted.{AreRisingBy, put_by}
use Rattle.reql_feed_limit.specs.Selection.{Element, Spot, facing, turned, entered, index_list}
use Rattle.reql_feed_limit.specs.Edits.{paired}
use Rattle.reql_feed_limit.specs.Boundary.{first_of, neighbour, nearer}
use Rattle.reql_feed_limit.specs.Bounds.{before}
use Rattle.reql_feed_limit.specs.Walk.{Walked, left_to_walk}
use Rattle.reql_feed_limit.proofs.Maps.{Strict, itself}
use Rattle.reql_feed_limit.proofs.Edits.{filter_put, filter_put_out}
use Rattle.reql_feed_limit.proofs.Indexed.{plain_strict, rising_index}
use Rattle.reql_feed_limit.proofs.Boundary.{filter_all, filter_none}
use Rattle.reql_feed_limit.proofs.Law.{facing_strict, rising_turned, turned_edited, filter_reverse}

module _ (cmp : Plain → Plain → Ordering) (strict : Strict cmp) where
  first_put_at : (o : Ordering) (p d : Plain) (m : Element) (ms ps : List Element) → cmp p m.0 ≡ o → first_of (match_ordering o ((p, d) ∷ m ∷ ms) ((m.0, d) ∷ ms) (m ∷ ps)) ≡ (if not (is_lt (cmp m.0 p)) then Some (p, d) else Some m)
  first_put_at Less p d m ms ps is = let f : cmp m.0 p ≡ Greater = strict.total.antisymm m.0 p ∙ rw is refl in rw f refl
  first_put_at Equal p d m ms ps is = let e : p ≡ m.0 = strict.one p m.0 is in rw (e, itself cmp strict m.0) refl
  first_put_at Greater p d m ms ps is = let f : cmp m.0 p ≡ Less = strict.total.antisymm m.0 p ∙ rw is refl in rw f refl

  abbrev is_nearer_than : Plain → Option Element → Bool
  is_nearer_than p None = true
  is_nearer_than p (Some m) = not (is_lt (cmp m.0 p))

  first_put : (p d : Plain) (ms : List Element) → first_of (put_by cmp p d ms) ≡ (if is_nearer_than p (first_of ms) then Some (p, d) else first_of ms)
  first_put p d [] = refl
  first_put p d (m ∷ ms) = first_put_at (cmp p m.0) p d m ms (put_by cmp p d ms) refl

  nearer_true : (q p d : Plain) (o : Option Element) → is_lt (cmp q p) ≡ true → (if is_nearer_than p o then Some (p, d) else o) ≡ nearer cmp q (Some (p, d)) o
  nearer_true q p d None is = rw is refl
  nearer_true q p d (Some m) is = rw is refl

  nearer_false : (q p d : Plain) (o : Option Element) → is_lt (cmp q p) ≡ false → o ≡ nearer cmp q (Some (p, d)) o
  nearer_false q p d None is = rw is refl
  nearer_false q p d (Some m) is = rw is refl

  neighbour_put_at : (b : Bool) (q p d : Plain) (ms : List Element) → is_lt (cmp q p) ≡ b → AreRisingBy cmp ms → neighbour cmp q (put_by cmp p d ms) ≡ nearer cmp q (Some (p, d)) (neighbour cmp q ms)
  neighbour_put_at true q p d ms is up =
      ap first_of (filter_put cmp strict (λ k. is_lt (cmp q k)) p d ms up is) ∙ first_put p d (filter (λ e. is_lt (cmp q e.0)) ms) ∙ nearer_true q p d (neighbour cmp q ms) is
  neighbour_put_at false q p d ms is up =
      ap first_of (filter_put_out cmp strict (λ k. is_lt (cmp q k)) p d ms up is) ∙ nearer_false q p d (neighbour cmp q ms) is

  neighbour_put : (q p d : Plain) (ms : List Element) → AreRisingBy cmp ms → neighbour cmp q (put_by cmp p d ms) ≡ nearer cmp q (Some (p, d)) (neighbour cmp q ms)
  neighbour_put q p d ms up = neighbour_put_at (is_lt (cmp q p)) q p d ms refl up

neighbour_entered : (d : Bool) (b : Plain) (o : Option Plain) (v : Plain) (es : List Element) → AreRisingBy order es → neighbour (facing d) b (turned d (entered o v es)) ≡ nearer (facing d) b (paired o v) (neighbour (facing d) b (turned d es))
neighbour_entered d b None v es up = refl
neighbour_entered d b (Some p) v es up =
    ap (neighbour (facing d) b) (turned_edited d None (Some (p, v)) es up) ∙ neighbour_put (facing d) (facing_strict d) b p v (turned d es) (rising_turned d es up)

-- ---- the documents before one
among_keys : (P : Plain → Type 0) (es rest : List (Plain × Plain)) (m : Plain × Plain) → AllByRecursion P (keys_of (es ++ m ∷ rest)) → P m.0
among_keys P [] rest m all = all.0
among_keys P (e ∷ es) rest m all = among_keys P es rest m all.1

all_low : (k : Plain) (front rest : List (Plain × Plain)) (m : Plain × Plain) → AreRisingBy order (front ++ m ∷ rest) → AllByRecursion (λ (e : Element). is_lt (order e.0 m.0) ≡ true) front
unfolding IsStrictlySortedBy
all_low k [] rest m up = tt
all_low k (e ∷ es) rest m up = (ap is_lt (among_keys (λ q. order e.0 q ≡ Less) es rest m up.0), all_low k es rest m up.1)

all_high : (m : Plain × Plain) (rest : List (Plain × Plain)) → AllByRecursion (λ q. order m.0 q ≡ Less) (keys_of rest) → AllByRecursion (λ (e : Element). is_lt (order e.0 m.0) ≡ false) rest
all_high m [] all = tt
all_high m (e ∷ es) all = (ap is_lt (order_total.antisymm e.0 m.0) ∙ rw (all.0) refl, all_high m es all.1)

tail_rising : (front rest : List (Plain × Plain)) → AreRisingBy order (front ++ rest) → AreRisingBy order rest
unfolding IsStrictlySortedBy
tail_rising [] rest up = up
tail_rising (e ∷ es) rest up = tail_rising es rest up.1

head_low : (m : Plain × Plain) (rest : List (Plain × Plain)) → AreRisingBy order (m ∷ rest) → AllByRecursion (λ q. order m.0 q ≡ Less) (keys_of rest)
unfolding IsStrictlySortedBy
head_low m rest up = up.0

before_it : (front rest : List (Plain × Plain)) (m : Plain × Plain) → AreRisingBy order (front ++ m ∷ rest) → filter (λ (e : Element). is_lt (order e.0 m.0)) (front ++ m ∷ rest) ≡ front
before_it front rest m up =
    filter-append (λ (e : Element). is_lt (order e.0 m.0)) front (m ∷ rest)
    ∙ ap (λ t. t ++ filter (λ (e : Element). is_lt (order e.0 m.0)) (m ∷ rest)) (filter_all _ front (all_low m.0 front rest m up))
    ∙ ap (λ t. front ++ t) (filter_none _ (m ∷ rest) (ap is_lt (itself order plain_strict m.0), all_high m rest (head_low m rest (tail_rising front (m ∷ rest) up))))
    ∙ append-nil front

-- the last one in front of one
prev_is : (front rest : List (Plain × Plain)) (m : Plain × Plain) → AreRisingBy order (front ++ m ∷ rest) → first_of (filter (λ (e : Element). is_lt (order e.0 m.0)) (reverse (front ++ m ∷ rest))) ≡ first_of (reverse front)
prev_is front rest m up =
    ap first_of (sym (filter_reverse (λ (e : Element). is_lt (order e.0 m.0)) (front ++ m ∷ rest))) ∙ ap (λ t. first_of (reverse t)) (before_it front rest m up)

-- a list is empty, or has a last one
pub data Ends (es : List (Plain × Plain)) : Type 0 where
  empty : es ≡ [] → Ends es
  ends : (init : List (Plain × Plain)) (last : Plain × Plain) → es ≡ init ++ last ∷ [] → Ends es

end_more : (e : Plain × Plain) (es : List (Plain × Plain)) → Ends es → Ends (e ∷ es)
end_more e es (empty is) = ends [] e (ap (λ t. e ∷ t) is)
end_more e es (ends init last is) = ends (e ∷ init) last (ap (λ t. e ∷ t) is)

end_of : (es : List (Plain × Plain)) → Ends es
end_of [] = empty refl
end_of (e ∷ es) = end_more e es (end_of es)

first_last : (init : List (Plain × Plain)) (last : Plain × Plain) → first_of (reverse (init ++ last ∷ [])) ≡ Some last
first_last init last = ap first_of (reverse-append init (last ∷ []))

one_more : (init rest : List (Plain × Plain)) (m : Plain × Plain) → (init ++ m ∷ []) ++ rest ≡ init ++ m ∷ rest
one_more init rest m = append_assoc init (m ∷ []) rest

left_at : (front rest : List (Plain × Plain)) (o : Option (Plain × Plain)) → Ends front → AreRisingBy order (front ++ rest) → o ≡ first_of (reverse front) → left_to_walk (front ++ rest) o ≡ length front
left_at front rest o (empty none) up is =
    let e : o ≡ None = is ∙ ap (λ t. first_of (reverse t)) none in
    ap (left_to_walk (front ++ rest)) e ∙ sym (ap length none)
left_at front rest o (ends init last on) up is =
    let e : o ≡ Some last = is ∙ ap (λ t. first_of (reverse t)) on ∙ first_last init last in
    let whole : front ++ rest ≡ init ++ last ∷ rest = ap (λ t. t ++ rest) on ∙ one_more init rest last in
    let before : filter (λ (m : Element). is_lt (order m.0 last.0)) (front ++ rest) ≡ init = rw whole (before_it init rest last (rw whole at up)) in
    let long = length-append init (last ∷ []) in
    ap (left_to_walk (front ++ rest)) e ∙ ap (λ t. suc (length t)) before ∙ sym (ap length on ∙ long ∙ omega arith)

left_is : (front rest : List (Plain × Plain)) (o : Option (Plain × Plain)) → AreRisingBy order (front ++ rest) → o ≡ first_of (reverse front) → left_to_walk (front ++ rest) o ≡ length front
left_is front rest o up is = left_at front rest o (end_of front) up is

-- ---- the walk
not_above : (v : Plain) → before false v high ≡ true
not_above low = refl
not_above (array vs) = refl
not_above (boolean b) = refl
not_above null = refl
not_above (number n) = refl
not_above (object ms) = refl
not_above (binary s) = refl
not_above (time t) = refl
not_above (text s) = refl
not_above high = refl

all_not_above : (es : List (Plain × Plain)) → AllByRecursion (λ (e : Element). before false e.0 high ≡ true) es
all_not_above [] = tt
all_not_above (e ∷ es) = (not_above e.0, all_not_above es)

none_near : (b : Plain) (d : Bool) → None ≡ neighbour (facing d) b (turned d [])
none_near b false = refl
none_near b true = refl

some_pair : (x y : Plain × Plain) → Some x ≡ Some y → x ≡ y
some_pair x y is = cc

module _ (d : Bool) (b : Plain) (spot : Spot) (docs : List (Plain × Plain)) where
  pub walk_begin : (o : Option (Plain × Plain)) → o ≡ first_of (filter (λ e. before false e.0 high) (reverse docs)) → Walked d b spot docs o None
  walk_begin o is = record {
    front = docs;
    rest = [];
    whole = sym (append-nil docs);
    next = is ∙ ap first_of (filter_all (λ (e : Element). before false e.0 high) (reverse docs) (all_not_above (reverse docs)));
    near = none_near b d;
  }

  last_is : (m : Plain × Plain) (front init : List (Plain × Plain)) (last : Plain × Plain) → front ≡ init ++ last ∷ [] → Some m ≡ first_of (reverse front) → last ≡ m
  last_is m front init last on next = some_pair last m (sym (next ∙ ap (λ t. first_of (reverse t)) on ∙ first_last init last))

  step_at : AreRisingBy order docs → (m : Plain × Plain) (best : Option Element) (w : Walked d b spot docs (Some m) best) → Ends w.front → (o : Option (Plain × Plain)) → o ≡ first_of (filter (λ e. is_lt (order e.0 m.0)) (reverse docs))
      → Walked d b spot docs o (nearer (facing d) b (paired (spot m.0 m.1) m.1) best)
  step_at up m best w (empty none) o is = absurd (let f : Some m ≡ None = w.next ∙ ap (λ t. first_of (reverse t)) none in cc)
  step_at up m best w (ends init last on) o is =
      let same : last ≡ m = last_is m w.front init last on w.next in
      let whole : docs ≡ init ++ m ∷ w.rest = w.whole ∙ ap (λ t. t ++ w.rest) on ∙ one_more init w.rest last ∙ ap (λ t. init ++ t ∷ w.rest) same in
      record {
        front = init;
        rest = m ∷ w.rest;
        whole = whole;
        next = is ∙ ap (λ t. first_of (filter (λ (e : Element). is_lt (order e.0 m.0)) (reverse t))) whole ∙ prev_is init w.rest m (rw whole at up);
        near = ap (nearer (facing d) b (paired (spot m.0 m.1) m.1)) w.near ∙ sym (neighbour_entered d b (spot m.0 m.1) m.1 (index_list spot w.rest) (rising_index spot w.rest));
      }

  falls_at : AreRisingBy order docs → (m : Plain × Plain) (best : Option Element) (w : Walked d b spot docs (Some m) best) → Ends w.front → (o : Option (Plain × Plain)) → o ≡ first_of (filter (λ e. is_lt (order e.0 m.0)) (reverse docs)) → left_to_walk docs o < left_to_walk docs (Some m)
  falls_at up m best w (empty none) o is = absurd (let f : Some m ≡ None = w.next ∙ ap (λ t. first_of (reverse t)) none in cc)
  falls_at up m best w (ends init last on) o is =
      let same : last ≡ m = last_is m w.front init last on w.next in
      let whole : docs ≡ init ++ m ∷ w.rest = w.whole ∙ ap (λ t. t ++ w.rest) on ∙ one_more init w.rest last ∙ ap (λ t. init ++ t ∷ w.rest) same in
      let rising : AreRisingBy order (init ++ m ∷ w.rest) = rw whole at up in
      let next : o ≡ first_of (reverse init) = is ∙ ap (λ t. first_of (filter (λ (e : Element). is_lt (order e.0 m.0)) (reverse t))) whole ∙ prev_is init w.rest m rising in
      let few : left_to_walk docs o ≡ length init = ap (λ t. left_to_walk t o) whole ∙ left_is init (m ∷ w.rest) o rising next in
      let many : left_to_walk docs (Some m) ≡ suc (length init) = ap (λ t. left_to_walk t (Some m)) whole ∙ ap (λ t. suc (length t)) (before_it init w.rest m rising) in
      omega arith

  end_at : (best : Option Element) (w : Walked d b spot docs None best) → Ends w.front → best ≡ neighbour (facing d) b (turned d (index_list spot docs))
  end_at best w (empty none) = w.near ∙ ap (λ t. neighbour (facing d) b (turned d (index_list spot t))) (sym (w.whole ∙ ap (λ t. t ++ w.rest) none))
  end_at best w (ends init last on) = absurd (let f : None ≡ Some last = w.next ∙ ap (λ t. first_of (reverse t)) on ∙ first_last init last in cc)

  pub walk_step : AreRisingBy order docs → (m : Plain × Plain) (best : Option Element) → Walked d b spot docs (Some m) best → (o : Option (Plain × Plain)) → o ≡ first_of (filter (λ e. is_lt (order e.0 m.0)) (reverse docs))
      → Walked d b spot docs o (nearer (facing d) b (paired (spot m.0 m.1) m.1) best)
  walk_step up m best w o is = step_at up m best w (end_of w.front) o is

  pub walk_falls : AreRisingBy order docs → (m : Plain × Plain) (best : Option Element) → Walked d b spot docs (Some m) best → (o : Option (Plain × Plain)) → o ≡ first_of (filter (λ e. is_lt (order e.0 m.0)) (reverse docs)) → left_to_walk docs o < left_to_walk docs (Some m)
  walk_falls up m best w o is = falls_at up m best w (end_of w.front) o is

  pub walk_end : (best : Option Element) → Walked d b spot docs None best → best ≡ neighbour (facing d) b (turned d (index_list spot docs))
  walk_end best w = end_at best w (end_of w.front)
