-- What the chunks on both hands of a key tell of all pairs.
use Rattle.std.proofs.Common.{◌≡◌, ℕ, ◌+◌, ◌<◌, ◌≤◌, ◌-◌, zero, suc, cond, List, [], ◌∷◌, ◌++◌, length, Bool, true, false, Option, Some, None, Less, refl, sym, ap, ◌∙◌, subst, arith, slice_get, append_assoc}
use mathlib.Core.Bool.{not}
use mathlib.Core.List.{reverse}
use denote.Ref.{Bor}
use Rattle.std.specs.List.{AllByRecursion, find as find_in, count_by}
use Rattle.std.specs.Option.{option_or}
use Rattle.std.proofs.lemmas.List.{reverse-append}
use Rattle.std.proofs.lemmas.List.Folds.{find-append}
use Rattle.std.proofs.lemmas.List.Sums.{sum_by-append}
use Rattle.reql_datum.specs.Plain.{Plain}
use Rattle.reql_datum.specs.Order.{order}
use Rattle.reql_ptree.specs.Pairs.{AreRising, Opens, find}
use Rattle.reql_ptree.specs.Next.{is_behind, behind, next_of, IsCut}
use Rattle.reql_ptree.specs.Tall.{digits, tall}
use Rattle.reql_ptree.specs.Way.{IsWay, pairs_in}
use Rattle.reql_ptree.proofs.Rising.{rising_back}
use Rattle.reql_ptree.proofs.Tall.{reach}
use Rattle.reql_ptree.proofs.Parts.{not_behind, reached_all, find_past, find_front}
use Rattle.reql_ptree.proofs.Nearby.{NoneBehind, behind_each, opens_true, none_rising, last_none, last_cons}

opens_after : (k : Plain) (above after : List (Plain × Plain)) → Opens (λ x. is_behind true (order k x) ≡ false) above → (length above ≡ 0 → after ≡ []) → Opens (λ x. order k x ≡ Less) (above ++ after)
opens_after k [] after h none = subst (Opens (λ x. order k x ≡ Less)) (sym (none refl)) tt
opens_after k (m ∷ ms) after h none = not_behind (order k m.0) h

-- a key is found in the chunk below it alone
pub find_way : (k : Plain) (all below above : List (Plain × Plain)) (height passed : ℕ) → IsWay k true all below [] above height 0 passed → AreRising all → find k all ≡ find k below
find_way k all [] above height passed way up =
    let none : way.before ≡ [] = way.none_below refl in
    let is : all ≡ above ++ way.after = way.is ∙ ap (λ ms. ms ++ (above ++ way.after)) none in
    rw is (find_front k [] (above ++ way.after) (rw is at up) (opens_after k above way.after way.above_opens way.none_above))
find_way k all (m ∷ ms) above height passed way up =
    let tail = above ++ way.after in
    let up' : AreRising (way.before ++ ((m ∷ ms) ++ tail)) = rw way.is at up in
    rw way.is (find_past k way.before ((m ∷ ms) ++ tail) (reached_all k way.before ((m ∷ ms) ++ tail) up' (omega arith) way.below_opens)
    ∙ find_front k (m ∷ ms) tail (rising_back (m ∷ ms) tail (rising_back way.before _ up')) (opens_after k above way.after way.above_opens way.none_above))

-- a key behind another is above each before it
pub behind_all : (k : Plain) (at : Bool) (a b : List (Plain × Plain)) → AreRising (a ++ b) → 0 < length b → Opens (λ x. is_behind at (order k x) ≡ true) b → AllByRecursion (λ m. behind k at m ≡ true) a
behind_all k at a b up some h = behind_each k at a (reached_all k a b up some (opens_true k at b h))

-- after those that are behind, the first that isn't
next_past : (k : Plain) (at : Bool) (a b : List (Plain × Plain)) → AllByRecursion (λ m. behind k at m ≡ true) a → next_of k at (a ++ b) ≡ next_of k at b
next_past k at [] b all = refl
next_past k at (m ∷ ms) b all = rw (all.0) (next_past k at ms b all.1)

next_first : (k : Plain) (at : Bool) (above after : List (Plain × Plain)) → Opens (λ x. is_behind at (order k x) ≡ false) above → (length above ≡ 0 → after ≡ []) → next_of k at (above ++ after) ≡ slice_get above 0
next_first k at [] after h none = ap (next_of k at) (none refl)
next_first k at (m ∷ ms) after h none = rw h refl

pub next_way : (k : Plain) (at : Bool) (all below above : List (Plain × Plain)) (height passed : ℕ) → IsWay k at all below [] above height 0 passed → AreRising all → next_of k at all ≡ option_or (next_of k at below) (slice_get above 0)
next_way k at all [] above height passed way up =
    let none : way.before ≡ [] = way.none_below refl in
    let is : all ≡ above ++ way.after = way.is ∙ ap (λ ms. ms ++ (above ++ way.after)) none in
    rw is (next_first k at above way.after way.above_opens way.none_above)
next_way k at all (m ∷ ms) above height passed way up =
    let tail = above ++ way.after in
    let up' : AreRising (way.before ++ ((m ∷ ms) ++ tail)) = rw way.is at up in
    ap (next_of k at) way.is
    ∙ next_past k at way.before ((m ∷ ms) ++ tail) (behind_all k at way.before ((m ∷ ms) ++ tail) up' (omega arith) way.below_opens)
    ∙ find-append (λ p. not (behind k at p)) (m ∷ ms) tail
    ∙ ap (option_or (next_of k at (m ∷ ms))) (next_first k at above way.after way.above_opens way.none_above)

-- from the end, those that are not behind are passed over
last_past : (k : Plain) (at : Bool) (a b : List (Plain × Plain)) → NoneBehind k at b → find_in (behind k at) (reverse (a ++ b)) ≡ find_in (behind k at) (reverse a)
last_past k at a b all = ap (find_in (behind k at)) (reverse-append a b) ∙ find-append (behind k at) (reverse b) (reverse a) ∙ ap (λ o. option_or o (find_in (behind k at) (reverse a))) (last_none k at b all)

last_found : (k : Plain) (at : Bool) (found here : Option (Plain × Plain)) → option_or (option_or found here) None ≡ option_or found here
last_found k at None None = refl
last_found k at None (Some p) = refl
last_found k at (Some q) here = refl

kept : (found here more : Option (Plain × Plain)) (p : Plain × Plain) → here ≡ Some p → option_or (option_or found here) more ≡ option_or found here
kept None here more p is = rw is refl
kept (Some q) here more p is = refl

last_from : (k : Plain) (at : Bool) (a : List (Plain × Plain)) (m : Plain × Plain) (ms : List (Plain × Plain)) → behind k at m ≡ true → find_in (behind k at) (reverse (a ++ m ∷ ms)) ≡ find_in (behind k at) (reverse (m ∷ ms))
last_from k at a m ms h =
    let f = find_in (behind k at) in
    let here : f (m ∷ []) ≡ Some m = rw h refl in
    ap f (reverse-append a (m ∷ ms)) ∙ find-append (behind k at) (reverse (m ∷ ms)) (reverse a)
    ∙ ap (λ o. option_or o (f (reverse a))) (last_cons k at m ms)
    ∙ kept (f (reverse ms)) (f (m ∷ [])) (f (reverse a)) m here
    ∙ sym (last_cons k at m ms)

none_after : (k : Plain) (at : Bool) (b : List (Plain × Plain)) → AreRising b → Opens (λ x. is_behind at (order k x) ≡ false) b → NoneBehind k at b
none_after k at b up h = none_rising k at b up h

tail_opens : (k : Plain) (at : Bool) (above after : List (Plain × Plain)) → Opens (λ x. is_behind at (order k x) ≡ false) above → (length above ≡ 0 → after ≡ []) → Opens (λ x. is_behind at (order k x) ≡ false) (above ++ after)
tail_opens k at [] after h none = subst (Opens (λ x. is_behind at (order k x) ≡ false)) (sym (none refl)) tt
tail_opens k at (m ∷ ms) after h none = h

pub last_way : (k : Plain) (at : Bool) (all below above : List (Plain × Plain)) (height passed : ℕ) → IsWay k at all below [] above height 0 passed → AreRising all → find_in (behind k at) (reverse all) ≡ find_in (behind k at) (reverse below)
last_way k at all [] above height passed way up =
    let tail = above ++ way.after in
    let none : way.before ≡ [] = way.none_below refl in
    let is : all ≡ tail = way.is ∙ ap (λ ms. ms ++ tail) none in
    rw is (last_none k at tail (none_after k at tail (rw is at up) (tail_opens k at above way.after way.above_opens way.none_above)))
last_way k at all (m ∷ ms) above height passed way up =
    let tail = above ++ way.after in
    let up' : AreRising (way.before ++ ((m ∷ ms) ++ tail)) = rw way.is at up in
    let is : all ≡ (way.before ++ m ∷ ms) ++ tail = way.is ∙ sym (append_assoc way.before (m ∷ ms) tail) in
    ap (λ xs. find_in (behind k at) (reverse xs)) is
    ∙ last_past k at (way.before ++ m ∷ ms) tail (none_after k at tail (rising_back (m ∷ ms) tail (rising_back way.before _ up')) (tail_opens k at above way.after way.above_opens way.none_above))
    ∙ last_from k at way.before m ms way.below_opens

module _ {k : Plain} {at : Bool} {all above : List (Plain × Plain)} {height passed : ℕ} (o : Option (Bor (List (Plain × Plain)))) (way : IsWay k at all (pairs_in o) [] above height 0 passed) where
  pub way_none : o ≡ None → IsWay k at all [] [] above height 0 passed
  way_none is = subst (λ (b : Option (Bor (List (Plain × Plain)))). IsWay k at all (pairs_in b) [] above height 0 passed) is way

  pub way_some : (c : Bor (List (Plain × Plain))) → o ≡ Some c → IsWay k at all c.now [] above height 0 passed
  way_some c is = subst (λ (b : Option (Bor (List (Plain × Plain)))). IsWay k at all (pairs_in b) [] above height 0 passed) is way

module _ {k : Plain} {at : Bool} {all below above : List (Plain × Plain)} {height passed : ℕ} (way : IsWay k at all below [] above height 0 passed) where
  -- a way down and a search in the chunk below
  pub reach_below : 0 < length below → length below ≤ 15 → height + digits (length below) ≤ tall (length all)
  reach_below some few = let room = way.chunk_room some in reach height (length below) (length all) room.0 room.1 some few

-- how many keys are behind
count_joined : (p : Plain × Plain → Bool) (a b : List (Plain × Plain)) → count_by p (a ++ b) ≡ count_by p a + count_by p b
count_joined p a b = sum_by-append (λ m. cond (p m) 1 0) a b

count_cons : (p : Plain × Plain → Bool) (m : Plain × Plain) (ms : List (Plain × Plain)) → count_by p (m ∷ ms) ≡ cond (p m) 1 0 + count_by p ms
count_cons p m ms = let e : count_by p (m ∷ ms) ≡ 0 + cond (p m) 1 0 + count_by p ms = count_joined p (m ∷ []) ms in omega (arith, e)

cond_true : (b : Bool) → b ≡ true → ◌≡◌ {A = ℕ} (cond b 1 0) 1
cond_true true h = refl
cond_true false h = cc

cond_false : (b : Bool) → b ≡ false → ◌≡◌ {A = ℕ} (cond b 1 0) 0
cond_false true h = cc
cond_false false h = refl

module _ (k : Plain) (at : Bool) where
  count_each : (a : List (Plain × Plain)) → AllByRecursion (λ m. behind k at m ≡ true) a → count_by (behind k at) a ≡ length a
  count_each [] all = refl
  count_each (m ∷ ms) all = omega (arith, count_cons (behind k at) m ms, cond_true (behind k at m) all.0, count_each ms all.1)

  count_none : (a : List (Plain × Plain)) → NoneBehind k at a → count_by (behind k at) a ≡ 0
  count_none [] all = refl
  count_none (m ∷ ms) all = omega (arith, count_cons (behind k at) m ms, cond_false (behind k at m) all.0, count_none ms all.1)

  pub count_cut : (a : List (Plain × Plain)) (i : ℕ) → IsCut k at a i → count_by (behind k at) a ≡ i
  count_cut a zero h = count_none a h
  count_cut [] (suc i) h = absurd h
  count_cut (m ∷ ms) (suc i) h = omega (arith, count_cons (behind k at) m ms, cond_true (behind k at m) h.0, count_cut ms i h.1)

pub count_way : (k : Plain) (at : Bool) (all below above : List (Plain × Plain)) (height passed : ℕ) → IsWay k at all below [] above height 0 passed → AreRising all → count_by (behind k at) all ≡ passed - length below + count_by (behind k at) below
count_way k at all [] above height passed way up =
    let none : way.before ≡ [] = way.none_below refl in
    let is : all ≡ above ++ way.after = way.is ∙ ap (λ ms. ms ++ (above ++ way.after)) none in
    let e : count_by (behind k at) all ≡ 0 = rw is (count_none k at (above ++ way.after) (none_after k at (above ++ way.after) (rw is at up) (tail_opens k at above way.after way.above_opens way.none_above))) in
    omega (arith, e, way.passed_is, ap length none)
count_way k at all (m ∷ ms) above height passed way up =
    let tail = above ++ way.after in
    let up' : AreRising (way.before ++ ((m ∷ ms) ++ tail)) = rw way.is at up in
    let early : count_by (behind k at) way.before ≡ length way.before = count_each k at way.before (behind_all k at way.before ((m ∷ ms) ++ tail) up' (omega arith) way.below_opens) in
    let late : count_by (behind k at) tail ≡ 0 = count_none k at tail (none_after k at tail (rising_back (m ∷ ms) tail (rising_back way.before _ up')) (tail_opens k at above way.after way.above_opens way.none_above)) in
    let first : count_by (behind k at) all ≡ count_by (behind k at) way.before + count_by (behind k at) ((m ∷ ms) ++ tail) = ap (count_by (behind k at)) way.is ∙ count_joined (behind k at) way.before ((m ∷ ms) ++ tail) in
    let second : count_by (behind k at) ((m ∷ ms) ++ tail) ≡ count_by (behind k at) (m ∷ ms) + count_by (behind k at) tail = count_joined (behind k at) (m ∷ ms) tail in
    omega (arith, early, late, first, second, way.passed_is)
