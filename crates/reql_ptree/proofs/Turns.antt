-- In which part of a node a key belongs, and what it means there.
use Rattle.std.proofs.Common.{◌≡◌, ℕ, zero, suc, ◌-◌, ◌<◌, List, [], ◌∷◌, ◌++◌, length, slice_get, true, false, Some, Ordering, Less, Equal, Greater, refl, sym, ap, ◌∙◌, subst, arith, map, length-append}
use Rattle.std.specs.List.{AllByRecursion}
use Rattle.std.specs.List.Sorted.{IsStrictlySortedBy}
use Rattle.std.specs.Map.{keys_of}
use Rattle.std.specs.Ordering.{is_lt, is_gt}
use Rattle.std.proofs.lemmas.List.{length-map}
use Rattle.reql_ptree.specs.Chunk.{pair}
use Rattle.reql_ptree.specs.declared.chunk.Pair.{Pair}
use Rattle.reql_datum.specs.Plain.{Plain}
use Rattle.reql_datum.specs.Order.{order}
use Rattle.reql_datum.specs.Total.{order_total}
use Rattle.reql_memory.proofs.Sorted.{above_flip, below_flip}
use Rattle.reql_ptree.specs.Pairs.{AreRising, Opens, put, without}
use Rattle.reql_ptree.specs.Next.{is_behind}
use Rattle.reql_ptree.specs.Turn.{AllBelow, OpensAbove}
use Rattle.reql_ptree.proofs.Rising.{all_back, rising_back}
use Rattle.reql_ptree.proofs.Parts.{reached_all, put_past, put_front, without_past, without_front}
use Rattle.reql_ptree.proofs.Ways.{opens_at}

pub not_less : (o : Ordering) → false ≡ is_lt o → is_behind true o ≡ true
not_less Less h = cc
not_less Equal h = refl
not_less Greater h = refl

pub less : (o : Ordering) → true ≡ is_lt o → o ≡ Less
less Less h = refl
less Equal h = cc
less Greater h = cc

pub greater : (o : Ordering) → true ≡ is_gt o → o ≡ Greater
greater Less h = cc
greater Equal h = cc
greater Greater h = refl

pub not_greater : (o : Ordering) → false ≡ is_gt o → (o ≡ Greater → ⊥)
not_greater Less h = λ e. cc
not_greater Equal h = λ e. cc
not_greater Greater h = λ e. cc

-- what opens a part opens it with more behind
pub opens_more : (P : Plain → Type 0) (c r : List (Plain × Plain)) → 0 < length c → Opens P c → Opens P (c ++ r)
opens_more P [] r some h = absurd (omega arith)
opens_more P (m ∷ ms) r some h = h

pub left_below : (k first : Plain) (l c r : List (Plain × Plain)) → AreRising (l ++ (c ++ r)) → 0 < length c → Opens (λ x. x ≡ first) c → is_behind true (order k first) ≡ true → AllBelow k l
left_below k first l c r up some first_is h =
    reached_all k l (c ++ r) up (omega (arith, some, length-append c r)) (opens_more (λ x. is_behind true (order k x) ≡ true) c r some (opens_at (λ x. is_behind true (order k x) ≡ true) first c first_is h))

-- a key below a part is below what comes after it
pub opens_over : (k : Plain) (c r : List (Plain × Plain)) → AreRising (c ++ r) → 0 < length c → OpensAbove k c → OpensAbove k r
unfolding IsStrictlySortedBy
opens_over k [] r up some h = absurd (omega arith)
opens_over k (m ∷ ms) [] up some h = tt
opens_over k (m ∷ ms) (n ∷ ns) up some h = order_total.trans k m.0 n.0 h (all_back (λ y. order m.0 y ≡ Less) ms (n ∷ ns) up.0).0

-- the keys before one that is below k are below k
below_before : (k l : Plain) (m : Plain) → order l m ≡ Less → order k m ≡ Greater → order k l ≡ Greater
below_before k l m low h = below_flip order order_total k l (order_total.trans l m k low (above_flip order order_total m k h))

last_key : (P : Plain → Type 0) (m : Plain × Plain) (ms : List (Plain × Plain)) (x : Plain × Plain) (i : ℕ) → AllByRecursion P (keys_of (m ∷ ms)) → Some x ≡ slice_get (m ∷ ms) i → P x.0
last_key P m ms x zero all is = let e : x ≡ m = cc in subst (λ (y : Plain × Plain). P y.0) (sym e) all.0
last_key P m [] x (suc i) all is = absurd (cc)
last_key P m (n ∷ ns) x (suc i) all is = last_key P n ns x i all.1 is

pub last_all : (k : Plain) (ms : List (Plain × Plain)) (x : Plain × Plain) (i : ℕ) → AreRising ms → suc i ≡ length ms → Some x ≡ slice_get ms i → order k x.0 ≡ Greater → AllBelow k ms
unfolding IsStrictlySortedBy
last_all k [] x i up at is h = tt
last_all k (m ∷ []) x zero up at is h = let e : x ≡ m = cc in (subst (λ (y : Plain × Plain). order k y.0 ≡ Greater) e h, tt)
last_all k (m ∷ []) x (suc i) up at is h = absurd (omega arith)
last_all k (m ∷ n ∷ ns) x zero up at is h = absurd (omega arith)
last_all k (m ∷ n ∷ ns) x (suc i) up at is h =
    (below_before k m.0 x.0 (last_key (λ y. order m.0 y ≡ Less) n ns x i up.0 is) h, last_all k (n ∷ ns) x i up.1 (omega arith) is h)

below_next : (o : Ordering) (k x n : Plain) → order k x ≡ o → (o ≡ Greater → ⊥) → order x n ≡ Less → order k n ≡ Less
below_next Less k x n is h low = order_total.trans k x n is low
below_next Equal k x n is h low = order_total.congr k x n is ∙ low
below_next Greater k x n is h low = absurd (h refl)

pub last_opens : (k : Plain) (c r : List (Plain × Plain)) (x : Plain × Plain) (i : ℕ) → AreRising (c ++ r) → Some x ≡ slice_get c i → (order k x.0 ≡ Greater → ⊥) → OpensAbove k r
unfolding IsStrictlySortedBy
last_opens k c [] x i up is h = tt
last_opens k [] (n ∷ ns) x zero up is h = absurd (cc)
last_opens k [] (n ∷ ns) x (suc i) up is h = absurd (cc)
last_opens k (m ∷ ms) (n ∷ ns) x zero up is h =
    let e : m ≡ x = cc in
    below_next (order k x.0) k x.0 n.0 refl h (subst (λ (y : Plain × Plain). order y.0 n.0 ≡ Less) e (all_back (λ y. order m.0 y ≡ Less) ms (n ∷ ns) up.0).0)
last_opens k (m ∷ ms) (n ∷ ns) x (suc i) up is h = last_opens k ms (n ∷ ns) x i up.1 is h

-- what is put or left out in a part of a node
module _ (k : Plain) (l c r : List (Plain × Plain)) where
  pub put_left : (v : Plain) → OpensAbove k (c ++ r) → put k v (l ++ (c ++ r)) ≡ put k v l ++ (c ++ r)
  put_left v h = put_front k v l (c ++ r) h

  pub put_chunk : (v : Plain) → AllBelow k l × OpensAbove k r → put k v (l ++ (c ++ r)) ≡ l ++ (put k v c ++ r)
  put_chunk v h = put_past k v l (c ++ r) h.0 ∙ ap (λ t. l ++ t) (put_front k v c r h.1)

  pub put_right : (v : Plain) → AllBelow k l × AllBelow k c → put k v (l ++ (c ++ r)) ≡ l ++ (c ++ put k v r)
  put_right v h = put_past k v l (c ++ r) h.0 ∙ ap (λ t. l ++ t) (put_past k v c r h.1)

  pub without_left : AreRising (l ++ (c ++ r)) → OpensAbove k (c ++ r) → without k (l ++ (c ++ r)) ≡ without k l ++ (c ++ r)
  without_left up h = without_front k l (c ++ r) (rising_back l (c ++ r) up) h

  pub without_chunk : AreRising (l ++ (c ++ r)) → AllBelow k l × OpensAbove k r → without k (l ++ (c ++ r)) ≡ l ++ (without k c ++ r)
  without_chunk up h = without_past k l (c ++ r) h.0 ∙ ap (λ t. l ++ t) (without_front k c r (rising_back c r (rising_back l (c ++ r) up)) h.1)

  pub without_right : AllBelow k l × AllBelow k c → without k (l ++ (c ++ r)) ≡ l ++ (c ++ without k r)
  without_right h = without_past k l (c ++ r) h.0 ∙ ap (λ t. l ++ t) (without_past k c r h.1)

get_seen : (rs : List Pair) (x : Pair) (i : ℕ) → Some x ≡ slice_get rs i → Some (pair x) ≡ slice_get (map pair rs) i
get_seen [] x zero is = absurd (cc)
get_seen [] x (suc i) is = absurd (cc)
get_seen (r ∷ rs) x zero is = let e : x ≡ r = cc in ap (λ y. Some (pair y)) e
get_seen (r ∷ rs) x (suc i) is = get_seen rs x i is

-- the last pair of a chunk, and its place
pub record IsLast (x : Plain × Plain) (ms : List (Plain × Plain)) : Type 0 where
  pub place : ℕ
  pub at_end : suc place ≡ length ms
  pub there : Some x ≡ slice_get ms place

pub last_seen : (rs : List Pair) (x : Pair) (ms : List (Plain × Plain)) → map pair rs ≡ ms → Some x ≡ slice_get rs (length rs - 1) → IsLast (pair x) ms
last_seen [] x ms seen is = absurd (cc)
last_seen (r ∷ rs) x ms seen is =
    let e : length (r ∷ rs) - 1 ≡ length rs = omega arith in
    let n : length (map pair (r ∷ rs)) ≡ length (r ∷ rs) = length-map (r ∷ rs) pair in
    record { place = length rs; at_end = omega (arith, n, ap length seen); there = get_seen (r ∷ rs) x (length rs) (rw e at is) ∙ ap (λ t. slice_get t (length rs)) seen }
