-- The boundary: a value after a change is told by the value before it, the change, and the next element after the value.
use Rattle.std.proofs.Common.{◌≡◌, ℕ, zero, suc, ◌+◌, ◌<◌, ◌≤◌, List, [], ◌∷◌, ◌++◌, length, take, drop, Bool, true, false, not, ◌&&◌, cond, Option, Some, None, Ordering, Less, Equal, Greater, is_eq, refl, sym, ap, ◌∙◌, arith}
use Rattle.std.specs.List.{filter, AllByRecursion}
use Rattle.std.specs.List.Sorted.{IsStrictlySortedBy}
use Rattle.std.specs.Map.{keys_of}
use Rattle.std.specs.Ordering.{is_lt, match_ordering}
use Rattle.std.proofs.lemmas.List.{take-append-drop, length-take, append-nil}
use Rattle.std.proofs.lemmas.List.Elements.{filter-append}
use Rattle.reql_datum.specs.Plain.{Plain}
use Rattle.reql_memory.specs.Sorted.{AreRisingBy, put_by, without_by}
use Rattle.reql_memory.proofs.Sorted.{rising_without}
use Rattle.reql_feed_limit.specs.Selection.{Element}
use Rattle.reql_feed_limit.specs.Edits.{with_gone, with_come, edited}
use Rattle.reql_feed_limit.specs.Boundary.{after_all, first_of, next_after, near, listed}
use Rattle.reql_feed_limit.proofs.Maps.{Strict, itself}
use Rattle.reql_feed_limit.proofs.Edits.{rising_edited, filter_put, filter_put_out, filter_without}

-- ---- lengths
module _ (cmp : Plain → Plain → Ordering) where
  put_length_at : (o : Ordering) (p d : Plain) (e : Element) (es ps : List Element) → length es ≤ length ps → length ps ≤ length es + 1
      → (length (e ∷ es) ≤ length (match_ordering o ((p, d) ∷ e ∷ es) ((e.0, d) ∷ es) (e ∷ ps))) × (length (match_ordering o ((p, d) ∷ e ∷ es) ((e.0, d) ∷ es) (e ∷ ps)) ≤ length (e ∷ es) + 1)
  put_length_at Less p d e es ps h g = (omega arith, omega arith)
  put_length_at Equal p d e es ps h g = (omega arith, omega arith)
  put_length_at Greater p d e es ps h g = (omega arith, omega arith)

  put_length : (p d : Plain) (es : List Element) → (length es ≤ length (put_by cmp p d es)) × (length (put_by cmp p d es) ≤ length es + 1)
  put_length p d [] = (omega arith, omega arith)
  put_length p d (e ∷ es) = put_length_at (cmp p e.0) p d e es (put_by cmp p d es) (put_length p d es).0 (put_length p d es).1

  without_length_at : (b : Bool) (e : Element) (es ps : List Element) → length ps ≤ length es → length es ≤ length ps + 1
      → (length (cond b es (e ∷ ps)) ≤ length (e ∷ es)) × (length (e ∷ es) ≤ length (cond b es (e ∷ ps)) + 1)
  without_length_at true e es ps h g = (omega arith, omega arith)
  without_length_at false e es ps h g = (omega arith, omega arith)

  without_length : (p : Plain) (es : List Element) → (length (without_by cmp p es) ≤ length es) × (length es ≤ length (without_by cmp p es) + 1)
  without_length p [] = (omega arith, omega arith)
  without_length p (e ∷ es) = without_length_at (is_eq (cmp p e.0)) e es (without_by cmp p es) (without_length p es).0 (without_length p es).1

  pub edited_length : (gone : Option Plain) (come : Option Element) (es : List Element) → (length es ≤ length (edited cmp gone come es) + 1) × (length (edited cmp gone come es) ≤ length es + 1)
  edited_length None None es = (omega arith, omega arith)
  edited_length (Some g) None es = let a = without_length g es in (omega arith, omega arith)
  edited_length None (Some c) es = let a = put_length c.0 c.1 es in (omega arith, omega arith)
  edited_length (Some g) (Some c) es =
      let a = without_length g es in
      let b = put_length c.0 c.1 (without_by cmp g es) in
      (omega arith, omega arith)

pub take_whole : {X : Type 0} (n : ℕ) (xs : List X) → length xs ≤ n → take n xs ≡ xs
take_whole zero [] h = refl
take_whole zero (x ∷ xs) h = absurd (omega arith)
take_whole (suc n) [] h = refl
take_whole (suc n) (x ∷ xs) h = ap (λ t. x ∷ t) (take_whole n xs (omega arith))

-- one more element tells what is taken
take_one_more : {X : Type 0} (n : ℕ) (xs ys : List X) → n ≤ length xs + 1 → take n (xs ++ ys) ≡ take n (xs ++ listed (first_of ys))
take_one_more n xs [] h = refl
take_one_more zero [] (y ∷ ys) h = refl
take_one_more (suc zero) [] (y ∷ ys) h = refl
take_one_more (suc (suc n)) [] (y ∷ ys) h = absurd (omega arith)
take_one_more zero (x ∷ xs) (y ∷ ys) h = refl
take_one_more (suc n) (x ∷ xs) (y ∷ ys) h = ap (λ t. x ∷ t) (take_one_more n xs (y ∷ ys) (omega arith))

pub filter_all : {X : Type 0} (p : X → Bool) (xs : List X) → AllByRecursion (λ x. p x ≡ true) xs → filter p xs ≡ xs
filter_all p [] all = refl
filter_all p (x ∷ xs) all = rw (all.0) (ap (λ t. x ∷ t) (filter_all p xs all.1))

pub filter_none : {X : Type 0} (p : X → Bool) (xs : List X) → AllByRecursion (λ x. p x ≡ false) xs → filter p xs ≡ []
filter_none p [] all = refl
filter_none p (x ∷ xs) all = rw (all.0) (filter_none p xs all.1)

pub all_to : {X : Type 0} {P Q : X → Type 0} → ((x : X) → P x → Q x) → (xs : List X) → AllByRecursion P xs → AllByRecursion Q xs
all_to on [] all = tt
all_to on (x ∷ xs) all = (on x all.0, all_to on xs all.1)

pub keys_all : (P : Plain → Type 0) (es : List Element) → AllByRecursion P (keys_of es) → AllByRecursion (λ (e : Element). P e.0) es
keys_all P [] all = tt
keys_all P (e ∷ es) all = (all.0, keys_all P es all.1)

all_plain : (fs : List Element) → AllByRecursion (λ (e : Element). true ≡ true) fs
all_plain [] = tt
all_plain (f ∷ fs) = (refl, all_plain fs)

all_both : {X : Type 0} {P Q R : X → Type 0} → ((x : X) → P x → Q x → R x) → (xs : List X) → AllByRecursion P xs → AllByRecursion Q xs → AllByRecursion R xs
all_both on [] ps qs = tt
all_both on (x ∷ xs) ps qs = (on x ps.0 qs.0, all_both on xs ps.1 qs.1)

all_back : (P : Plain → Type 0) (es fs : List Element) → AllByRecursion P (keys_of (es ++ fs)) → AllByRecursion (λ (e : Element). P e.0) fs
all_back P [] fs all = keys_all P fs all
all_back P (e ∷ es) fs all = all_back P es fs all.1

few_are_all : {X : Type 0} (n : ℕ) (xs : List X) → length (take n xs) < n → length xs < n
few_are_all n xs h = omega (arith, length-take n xs)

and_both : (a b : Bool) → a ≡ true → b ≡ true → a && b ≡ true
and_both true b h g = g
and_both false b h g = h

and_parts : (a b : Bool) → a && b ≡ true → (a ≡ true) × (b ≡ true)
and_parts true b h = (refl, h)
and_parts false b h = let f : false ≡ true = h in cc

and_second : (a b : Bool) → b ≡ false → a && b ≡ false
and_second true b h = h
and_second false b h = refl

and_first : (a b : Bool) → a ≡ false → a && b ≡ false
and_first true b h = let f : true ≡ false = h in cc
and_first false b h = refl

lt_less : (o : Ordering) → is_lt o ≡ true → o ≡ Less
lt_less Less h = refl
lt_less Equal h = cc
lt_less Greater h = cc

less_lt : (o : Ordering) → o ≡ Less → is_lt o ≡ true
less_lt o h = rw h refl

module _ (cmp : Plain → Plain → Ordering) (strict : Strict cmp) where
  -- what is after what is after all is after all
  after_on : (es : List Element) (p q : Plain) → cmp p q ≡ Less → after_all cmp es p ≡ true → after_all cmp es q ≡ true
  after_on [] p q h g = refl
  after_on (e ∷ es) p q h g =
      let parts = and_parts (is_lt (cmp e.0 p)) (after_all cmp es p) g in
      and_both (is_lt (cmp e.0 q)) (after_all cmp es q) (less_lt _ (strict.total.trans e.0 p q (lt_less _ parts.0) h)) (after_on es p q h parts.1)

  -- no element of a list is after all of it
  pub none_after : (es : List Element) → AllByRecursion (λ e. after_all cmp es e.0 ≡ false) es
  none_after [] = tt
  none_after (e ∷ es) = (
    and_first (is_lt (cmp e.0 e.0)) (after_all cmp es e.0) (ap is_lt (itself cmp strict e.0)),
    all_to (λ (d : Element) h. and_second (is_lt (cmp e.0 d.0)) (after_all cmp es d.0) h) es (none_after es),
  )

  pub all_after : (es fs : List Element) → AreRisingBy cmp (es ++ fs) → AllByRecursion (λ e. after_all cmp es e.0 ≡ true) fs
  unfolding IsStrictlySortedBy
  all_after [] fs up = all_plain fs
  all_after (e ∷ es) fs up =
      all_both (λ (d : Element) h g. and_both (is_lt (cmp e.0 d.0)) (after_all cmp es d.0) (less_lt _ h) g) fs (all_back (λ k. cmp e.0 k ≡ Less) es fs up.0) (all_after es fs up.1)

  parted_at : (b : Bool) (es : List Element) (m : Element) (ms : List Element) → after_all cmp es m.0 ≡ b → AllByRecursion (λ k. cmp m.0 k ≡ Less) (keys_of ms)
      → ms ≡ filter (λ m. not (after_all cmp es m.0)) ms ++ filter (λ m. after_all cmp es m.0) ms
      → m ∷ ms ≡ cond (not b) (m ∷ filter (λ m. not (after_all cmp es m.0)) ms) (filter (λ m. not (after_all cmp es m.0)) ms) ++ cond b (m ∷ filter (λ m. after_all cmp es m.0) ms) (filter (λ m. after_all cmp es m.0) ms)
  parted_at true es m ms is up on =
      let later : AllByRecursion (λ (e : Element). after_all cmp es e.0 ≡ true) ms = all_to (λ (e : Element) h. after_on es m.0 e.0 h is) ms (keys_all (λ k. cmp m.0 k ≡ Less) ms up) in
      let none : filter (λ (e : Element). not (after_all cmp es e.0)) ms ≡ [] = filter_none _ ms (all_to (λ (e : Element) h. ap not h) ms later) in
      rw none (ap (λ t. m ∷ t) (sym (filter_all _ ms later)))
  parted_at false es m ms is up on = ap (λ t. m ∷ t) on

  -- a rising list is what isn't after all of a value, and then what is
  parted : (es ms : List Element) → AreRisingBy cmp ms → ms ≡ filter (λ m. not (after_all cmp es m.0)) ms ++ filter (λ m. after_all cmp es m.0) ms
  unfolding IsStrictlySortedBy
  parted es [] up = refl
  parted es (m ∷ ms) up = parted_at (after_all cmp es m.0) es m ms refl up.0 (parted es ms up.1)

  -- the front of a rising list is what isn't after all of it
  front_kept : (es fs : List Element) → AreRisingBy cmp (es ++ fs) → filter (λ m. not (after_all cmp es m.0)) (es ++ fs) ≡ es
  front_kept es fs up =
      filter-append (λ (m : Element). not (after_all cmp es m.0)) es fs
      ∙ ap (λ t. t ++ filter (λ (m : Element). not (after_all cmp es m.0)) fs) (filter_all _ es (all_to (λ (e : Element) h. ap not h) es (none_after es)))
      ∙ ap (λ t. es ++ t) (filter_none _ fs (all_to (λ (e : Element) h. ap not h) fs (all_after es fs up)))
      ∙ append-nil es

  come_near_at : (b : Bool) (es : List Element) (c : Element) (ms : List Element) → after_all cmp es c.0 ≡ b → AreRisingBy cmp ms
      → filter (λ m. not (after_all cmp es m.0)) (put_by cmp c.0 c.1 ms) ≡ with_come cmp (cond b None (Some c)) (filter (λ m. not (after_all cmp es m.0)) ms)
  come_near_at true es c ms is up = filter_put_out cmp strict (λ k. not (after_all cmp es k)) c.0 c.1 ms up (ap not is)
  come_near_at false es c ms is up = filter_put cmp strict (λ k. not (after_all cmp es k)) c.0 c.1 ms up (ap not is)

  come_near : (es : List Element) (come : Option Element) (ms : List Element) → AreRisingBy cmp ms → filter (λ m. not (after_all cmp es m.0)) (with_come cmp come ms) ≡ with_come cmp (near cmp es come) (filter (λ m. not (after_all cmp es m.0)) ms)
  come_near es None ms up = refl
  come_near es (Some c) ms up = come_near_at (after_all cmp es c.0) es c ms refl up

  rising_gone : (gone : Option Plain) (ms : List Element) → AreRisingBy cmp ms → AreRisingBy cmp (with_gone cmp gone ms)
  rising_gone None ms up = up
  rising_gone (Some g) ms up = rising_without cmp strict.total g ms up

  gone_near : (es : List Element) (gone : Option Plain) (ms : List Element) → AreRisingBy cmp ms → filter (λ m. not (after_all cmp es m.0)) (with_gone cmp gone ms) ≡ with_gone cmp gone (filter (λ m. not (after_all cmp es m.0)) ms)
  gone_near es None ms up = refl
  gone_near es (Some g) ms up = filter_without cmp strict (λ k. not (after_all cmp es k)) g ms up

  edited_near : (es : List Element) (gone : Option Plain) (come : Option Element) (ms : List Element) → AreRisingBy cmp ms
      → filter (λ m. not (after_all cmp es m.0)) (edited cmp gone come ms) ≡ edited cmp gone (near cmp es come) (filter (λ m. not (after_all cmp es m.0)) ms)
  edited_near es gone come ms up = come_near es come (with_gone cmp gone ms) (rising_gone gone ms up) ∙ ap (with_come cmp (near cmp es come)) (gone_near es gone ms up)

  -- a value with room: all of the selection is in it
  pub short_value : (size : ℕ) (all : List Element) (gone : Option Plain) (come : Option Element) → length (take size all) < size → take size (edited cmp gone come all) ≡ edited cmp gone come (take size all)
  short_value size all gone come few =
      let fits : length all < size = few_are_all size all few in
      let whole : take size all ≡ all = take_whole size all (omega arith) in
      let more = (edited_length cmp gone come all).1 in
      rw whole (take_whole size (edited cmp gone come all) (omega arith))

  -- a value that is full: what was in it, edited, and the next element after it
  pub full_value : (size : ℕ) (all : List Element) (gone : Option Plain) (come : Option Element) → AreRisingBy cmp all → size ≤ length (take size all)
      → let es : List Element = take size all in take size (edited cmp gone come all) ≡ take size (edited cmp gone (near cmp es come) es ++ listed (next_after cmp es (edited cmp gone come all)))
  full_value size all gone come up full =
      let es : List Element = take size all in
      let whole : es ++ drop size all ≡ all = take-append-drop size all in
      let front : filter (λ (m : Element). not (after_all cmp es m.0)) all ≡ es = rw whole at (front_kept es (drop size all) (rw whole up)) in
      let first : filter (λ (m : Element). not (after_all cmp es m.0)) (edited cmp gone come all) ≡ edited cmp gone (near cmp es come) es = edited_near es gone come all up ∙ ap (edited cmp gone (near cmp es come)) front in
      let long = (edited_length cmp gone (near cmp es come) es).0 in
      ap (take size) (parted es (edited cmp gone come all) (rising_edited cmp strict gone come all up))
      ∙ ap (λ t. take size (t ++ filter (λ (m : Element). after_all cmp es m.0) (edited cmp gone come all))) first
      ∙ take_one_more size (edited cmp gone (near cmp es come) es) (filter (λ (m : Element). after_all cmp es m.0) (edited cmp gone come all)) (omega arith)
